-- Loop invariants of `compare_to_by` (`comparing`).
use Rattle.std.proofs.Common.{◌*◌, length}
use Rattle.lane_kernels.specs.Lanes.{AreFilled, compared_to_bit}
use Rattle.lane_kernels.proofs.comparing.compare_to_by.Given as goal

abbrev pub invariant-loop-eight : goal.invariant-loop-eight
invariant-loop-eight l = AreFilled 0 (length l.fn.out) (8 * l.eight) (compared_to_bit l.op l.left l.right) l.out

abbrev pub invariant-loop-lane : goal.invariant-loop-lane
invariant-loop-lane l = AreFilled 0 (length l.fn.out) l.lane (compared_to_bit l.op l.left l.right) l.out
