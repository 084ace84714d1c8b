-- Proofs of the goals of `mul_ints` (`multiplying`).
use Rattle.std.proofs.Common.{refl, pos, length, w64, subst, sym, ◌*ℤ◌}
use Rattle.std.specs.Int.{int_wrap}
use Rattle.lane_loops.specs.Lanes.{AreFilled, int_at, overflow_bit}
use Rattle.lane_loops.proofs.Filling.{filled_more}
use Rattle.lane_loops.proofs.multiplying.mul_ints.Goals as goal

pub loop-i-preserved : goal.loop-i-preserved
loop-i-preserved c =
    let left = c.args.left.now in
    let right = c.args.right.now in
    let n = length c.args.out.now in
    let i = c.loop-i.i in
    let outs = filled_more (pos 0) n (λ j. int_wrap w64 (int_at left j *ℤ int_at right j)) c.loop-i.out i _ c.loop-i.invariant.0 c.loop-i-test.true refl in
    let overs = filled_more 0 n (λ j. overflow_bit (int_at left j *ℤ int_at right j)) c.loop-i.over i _ c.loop-i.invariant.1 c.loop-i-test.true refl in (
      subst (AreFilled (pos 0) n _ (λ j. int_wrap w64 (int_at left j *ℤ int_at right j))) (sym c.put_product.ensures.wrapped) outs,
      subst (AreFilled 0 n _ (λ j. overflow_bit (int_at left j *ℤ int_at right j))) (sym c.put_product.ensures.over) overs,
    )
