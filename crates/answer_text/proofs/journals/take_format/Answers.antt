-- Proofs of the goals of `take_format` (`journals`).
use Rattle.std.proofs.Common.{Err, ap, sym, ◌∙◌}
use Rattle.answer_fields.specs.declared.fault.DecodeFault.{DecodeFault}
use Rattle.answer_fields.specs.declared.format.Content.TheVariants as content
use Rattle.answer_text.proofs.Magics.{format_taken, no_format}
use Rattle.answer_text.proofs.journals.take_format.Goals as goal

pub returns-in-Some-clause-read : goal.returns-in-Some-clause-read
returns-in-Some-clause-read c = format_taken content.Answer c.args.cursor.now.rest.now c.in_ok-magic.magic.now c.take_bytes.new.self.rest.now c.in-Some.format c.in_ok-magic.ensures.read (sym c.format_in.ensures ∙ c.in-Some.is)

pub returns-in-None-clause-read : goal.returns-in-None-clause-read
returns-in-None-clause-read c =
    no_format content.Answer c.args.cursor.now.rest.now c.in_ok-magic.magic.now c.take_bytes.new.self.rest.now c.in_ok-magic.ensures.read (sym c.format_in.ensures ∙ c.in-None.is) ∙ ap (λ (e : DecodeFault). Err e) (sym c.refuse.ensures.fault)
