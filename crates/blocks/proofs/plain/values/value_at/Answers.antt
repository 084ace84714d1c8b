-- Proofs of the goals of `value_at` (`plain::values`).
use Rattle.std.proofs.Common.{◌∙◌, rules}
use Rattle.std.specs.Int.{w64}
use Rattle.std.specs.Int.RustNames.{FitsSigned}
use Rattle.std.proofs.lemmas.Int.{to_z-of_z}
use Rattle.blocks.proofs.Ends.{int_value, text_value}
use Rattle.blocks.proofs.plain.values.value_at.Goals as goal

pub returns-in-Int : goal.returns-in-Int
returns-in-Int c =
    let fits : FitsSigned w64 c.integer_at.result = search rules in
    int_value c.args.col_type c.args.count c.args.i c.args.bytes.now _ c.in-Int.is c.requires.within (to_z-of_z w64 c.integer_at.result fits ∙ c.integer_at.ensures)

pub returns-in-Text : goal.returns-in-Text
returns-in-Text c =
    text_value c.args.col_type c.args.count c.args.i c.args.bytes.now _ c.in-Text.is c.requires.within c.text_of_form.ensures
