-- Proofs of the goals of `dictionary_of_texts_within` (`dictionary::within`).
use Rattle.std.proofs.Common.{◌-◌, ◌∙◌, ap, sym, subst, map, take, drop, arith}
use Rattle.meaning.specs.declared.value.ColType.TheVariants as of_type
use Rattle.meaning.specs.declared.value.Value.TheVariants.{Text}
use Rattle.encodings.specs.Choice.{IsDictionaryWithin}
use Rattle.blocks.specs.Plain.{form_size}
use Rattle.blocks.specs.Plain.{cells_at}
use Rattle.encodings.proofs.ChosenKinds.{dictionary_size, least_text_dictionary}
use Rattle.encodings.proofs.EncodedRuns.{rows_of}
use Rattle.encodings.proofs.dictionary.within.dictionary_of_texts_within.Goals as goal

pub returns-then-most-beside : goal.returns-then-most-beside
returns-then-most-beside c =
    let long = rows_of c.args.texts.now c.args.from c.args.to c.requires.within in
    let least = least_text_dictionary (map Text (take (c.args.to - c.args.from) (drop c.args.from c.args.texts.now))) (omega arith) in
    omega (arith, least, long)

pub returns : goal.returns
returns c =
    let cells = map Text (take (c.args.to - c.args.from) (drop c.args.from c.args.texts.now)) in
    let long = rows_of c.args.texts.now c.args.from c.args.to c.requires.within in
    let entry_rows = c.in_ok-dictionary.dictionary.entry_rows.items in
    let codes = c.in_ok-dictionary.dictionary.codes.items in
    let size = dictionary_size of_type.Text cells entry_rows codes c.text_size_at.result (c.args.to - c.args.from) c.in_ok-dictionary.ensures (c.text_size_at.ensures.value ∙ ap (λ xs. form_size of_type.Text (cells_at cells xs)) c.as_slice.ensures.value) (sym long) in
    subst (λ n. IsDictionaryWithin cells n c.args.most c.kept.result) size (c.kept.ensures cells c.in_ok-dictionary.ensures)
