-- Loop invariants of `mark_first_alone` (`masks`).
use Rattle.std.proofs.Common.{length}
use Rattle.std.specs.Prelude.{false, not, ◌&&◌}
use Rattle.lane_loops.specs.Lanes.{null_at}
use Rattle.lane_loops.specs.Lanes.{AreFilled}
use Rattle.lane_loops.proofs.masks.mark_first_alone.Given as goal

abbrev pub invariant-loop-i : goal.invariant-loop-i
invariant-loop-i l = AreFilled false (length l.fn.out) l.i (λ i. null_at l.left i && not (null_at l.right i)) l.out
