-- Loop invariants of `mul_ints` (`multiplying`).
use Rattle.std.proofs.Common.{pos, length, ◌*ℤ◌}
use Rattle.std.specs.Int.{int_wrap}
use Rattle.std.proofs.Common.{w64}
use Rattle.lane_loops.specs.Lanes.{AreFilled, int_at, overflow_bit}
use Rattle.lane_loops.proofs.multiplying.mul_ints.Given as goal

abbrev pub invariant-loop-i : goal.invariant-loop-i
invariant-loop-i l =
    AreFilled (pos 0) (length l.fn.out) l.i (λ i. int_wrap w64 (int_at l.left i *ℤ int_at l.right i)) l.out
    × AreFilled 0 (length l.fn.out) l.i (λ i. overflow_bit (int_at l.left i *ℤ int_at l.right i)) l.over
