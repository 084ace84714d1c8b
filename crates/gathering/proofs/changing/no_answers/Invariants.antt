-- Loop invariants of `no_answers` (`changing`).
use Rattle.std.proofs.Common.{◌≡◌, replicate}
use Rattle.meaning.specs.declared.answer.Cell.TheVariants.{Nothing}
use Rattle.gathering.proofs.changing.no_answers.Given as goal

abbrev pub invariant-loop : goal.invariant-loop
invariant-loop l = l.cells.items ≡ replicate l.counter Nothing
