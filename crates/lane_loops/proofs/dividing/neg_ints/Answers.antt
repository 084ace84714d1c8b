-- Proofs of the goals of `neg_ints` (`dividing`).
use Rattle.std.proofs.Common.{refl, pos, length, w64, subst, sym}
use Rattle.std.specs.Prelude.{neg_ℤ}
use Rattle.std.specs.Int.{int_wrap}
use Rattle.lane_loops.specs.Lanes.{overflow_bit}
use Rattle.lane_loops.specs.Lanes.{AreFilled, int_at}
use Rattle.lane_loops.proofs.Filling.{filled_more}
use Rattle.lane_loops.proofs.dividing.neg_ints.Goals as goal

pub loop-i-preserved : goal.loop-i-preserved
loop-i-preserved c =
    let ints = c.args.ints.now in
    let n = length c.args.out.now in
    let i = c.loop-i.i in
    let outs = filled_more (pos 0) n (λ j. int_wrap w64 (neg_ℤ (int_at ints j))) c.loop-i.out i _ c.loop-i.invariant.0 c.loop-i-test.true refl in
    let flags = filled_more 0 n (λ j. overflow_bit (neg_ℤ (int_at ints j))) c.loop-i.over i _ c.loop-i.invariant.1 c.loop-i-test.true refl in (
      subst (AreFilled (pos 0) n _ (λ j. int_wrap w64 (neg_ℤ (int_at ints j)))) (sym c.put_negation.ensures.wrapped) outs,
      subst (AreFilled 0 n _ (λ j. overflow_bit (neg_ℤ (int_at ints j)))) (sym c.put_negation.ensures.over) flags,
    )
