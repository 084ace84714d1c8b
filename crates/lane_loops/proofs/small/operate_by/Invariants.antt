-- Loop invariants of `operate_by` (`small`).
use Rattle.std.proofs.Common.{◌≡◌, ◌<◌, length}
use Rattle.lane_loops.specs.Lanes.{int_at}
use Rattle.lane_loops.specs.Small.{AreResults, limit_of}
use Rattle.lane_loops.proofs.small.operate_by.Given as goal

abbrev pub invariant-loop-i : goal.invariant-loop-i
invariant-loop-i l =
    (length l.out ≡ length l.fn.out)
    × (l.bits < limit_of l.op → AreResults l.op (length l.fn.out) l.i (int_at l.left) (int_at l.right) l.out)
