-- Loop invariants of `and_truths` (`truths`).
use Rattle.std.proofs.Common.{length}
use Rattle.meaning.specs.declared.outcome.Truth.TheVariants.{Unknown}
use Rattle.meaning.specs.Truth.{and3}
use Rattle.lane_loops.specs.Lanes.{AreFilled, truth_at}
use Rattle.lane_loops.proofs.truths.and_truths.Given as goal

abbrev pub invariant-loop-i : goal.invariant-loop-i
invariant-loop-i l = AreFilled Unknown (length l.fn.out) l.i (λ i. and3 (truth_at l.left i) (truth_at l.right i)) l.out
