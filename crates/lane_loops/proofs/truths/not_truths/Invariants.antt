-- Loop invariants of `not_truths` (`truths`).
use Rattle.std.proofs.Common.{length}
use Rattle.meaning.specs.declared.outcome.Truth.TheVariants.{Unknown}
use Rattle.meaning.specs.Truth.{not3}
use Rattle.lane_loops.specs.Lanes.{AreFilled, truth_at}
use Rattle.lane_loops.proofs.truths.not_truths.Given as goal

abbrev pub invariant-loop-i : goal.invariant-loop-i
invariant-loop-i l = AreFilled Unknown (length l.fn.out) l.i (λ i. not3 (truth_at l.truths i)) l.out
