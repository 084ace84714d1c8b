-- Loop invariants of `or_truths` (`truths`).
use Rattle.std.proofs.Common.{length}
use Rattle.meaning.specs.declared.outcome.Truth.TheVariants.{Unknown}
use Rattle.meaning.specs.Truth.{or3}
use Rattle.lane_loops.specs.Lanes.{AreFilled, truth_at}
use Rattle.lane_loops.proofs.truths.or_truths.Given as goal

abbrev pub invariant-loop-i : goal.invariant-loop-i
invariant-loop-i l = AreFilled Unknown (length l.fn.out) l.i (λ i. or3 (truth_at l.left i) (truth_at l.right i)) l.out
