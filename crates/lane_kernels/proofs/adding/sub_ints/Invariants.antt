-- Loop invariants of `sub_ints` (`adding`).
use Rattle.std.proofs.Common.{pos, length, ◌*◌, ◌-ℤ◌, w64}
use Rattle.std.specs.Int.{int_wrap}
use Rattle.lane_kernels.specs.Lanes.{AreFilled, int_at, overflow_bit}
use Rattle.lane_kernels.proofs.adding.sub_ints.Given as goal

abbrev pub invariant-loop-eight : goal.invariant-loop-eight
invariant-loop-eight l =
    AreFilled (pos 0) (length l.fn.out) (8 * l.eight) (λ i. int_wrap w64 (int_at l.left i -ℤ int_at l.right i)) l.out
    × AreFilled 0 (length l.fn.out) (8 * l.eight) (λ i. overflow_bit (int_at l.left i -ℤ int_at l.right i)) l.over

abbrev pub invariant-loop-lane : goal.invariant-loop-lane
invariant-loop-lane l = AreFilled 0 (length l.fn.over) l.lane (λ i. overflow_bit (int_at l.left i -ℤ int_at l.right i)) l.over

abbrev pub invariant-loop-lane-2 : goal.invariant-loop-lane-2
invariant-loop-lane-2 l = AreFilled (pos 0) (length l.fn.out) l.lane (λ i. int_wrap w64 (int_at l.left i -ℤ int_at l.right i)) l.out
