-- Loop invariants of `neg_ints` (`dividing`).
use Rattle.std.proofs.Common.{pos, length, w64}
use Rattle.std.specs.Prelude.{neg_ℤ}
use Rattle.std.specs.Int.{int_wrap}
use Rattle.lane_loops.specs.Lanes.{overflow_bit}
use Rattle.lane_loops.specs.Lanes.{AreFilled, int_at}
use Rattle.lane_loops.proofs.dividing.neg_ints.Given as goal

abbrev pub invariant-loop-i : goal.invariant-loop-i
invariant-loop-i l =
    AreFilled (pos 0) (length l.fn.out) l.i (λ i. int_wrap w64 (neg_ℤ (int_at l.ints i))) l.out
    × AreFilled 0 (length l.fn.out) l.i (λ i. overflow_bit (neg_ℤ (int_at l.ints i))) l.over
