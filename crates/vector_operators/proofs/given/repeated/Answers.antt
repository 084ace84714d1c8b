-- Proofs of the goals of `repeated` (`given`).
use Rattle.std.proofs.Common.{ap, pos, refl, false}
use Rattle.std.specs.Prelude.{[]}
use Rattle.meaning.specs.declared.value.Value.TheVariants.{Int, Text}
use Rattle.meaning.specs.declared.outcome.Outcome.TheVariants as gives
use Rattle.vector_operators.proofs.Parts.{repeated_at, repeated_long}
use Rattle.vector_operators.proofs.given.repeated.Goals as goal

pub returns-in-Int-clause-value : goal.returns-in-Int-clause-value
returns-in-Int-clause-value c = λ i within. rw (c.one_int.ensures, c.in-Int.is) (ap gives.Value (repeated_at Int (λ x. refl) (pos 0) c.in-Int.int c.args.lanes i within))

pub returns-in-Int-clause-long : goal.returns-in-Int-clause-long
returns-in-Int-clause-long c = rw (c.one_int.ensures) (repeated_long Int (λ x. refl) false c.in-Int.int c.args.lanes)

pub returns-in-Text-clause-value : goal.returns-in-Text-clause-value
returns-in-Text-clause-value c = λ i within. rw (c.one_text.ensures, c.in-Text.is, c.as_bytes.ensures) (ap gives.Value (repeated_at Text (λ x. refl) [] c.in-Text.text c.args.lanes i within))

pub returns-in-Text-clause-long : goal.returns-in-Text-clause-long
returns-in-Text-clause-long c = rw (c.one_text.ensures) (repeated_long Text (λ x. refl) false c.as_bytes.result.now c.args.lanes)
