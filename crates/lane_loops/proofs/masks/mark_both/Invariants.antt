-- Loop invariants of `mark_both` (`masks`).
use Rattle.std.proofs.Common.{length}
use Rattle.std.specs.Prelude.{false, ◌&&◌}
use Rattle.lane_loops.specs.Lanes.{null_at}
use Rattle.lane_loops.specs.Lanes.{AreFilled}
use Rattle.lane_loops.proofs.masks.mark_both.Given as goal

abbrev pub invariant-loop-i : goal.invariant-loop-i
invariant-loop-i l = AreFilled false (length l.fn.out) l.i (λ i. null_at l.left i && null_at l.right i) l.out
