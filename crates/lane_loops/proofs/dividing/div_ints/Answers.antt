-- Proofs of the goals of `div_ints` (`dividing`).
use Rattle.std.proofs.Common.{refl, pos, length, subst, sym}
use Rattle.meaning.specs.declared.expr.ArithmeticOperator.TheVariants.{Divide}
use Rattle.meaning.specs.Operators.{of_integers}
use Rattle.lane_loops.specs.Lanes.{quotient, fault_code}
use Rattle.lane_loops.specs.Lanes.{AreFilled, int_at}
use Rattle.lane_loops.proofs.Filling.{filled_more}
use Rattle.lane_loops.proofs.dividing.div_ints.Goals as goal

pub loop-i-preserved : goal.loop-i-preserved
loop-i-preserved c =
    let left = c.args.left.now in
    let right = c.args.right.now in
    let n = length c.args.out.now in
    let i = c.loop-i.i in
    let outs = filled_more (pos 0) n (λ j. quotient (int_at left j) (int_at right j)) c.loop-i.out i _ c.loop-i.invariant.0 c.loop-i-test.true refl in
    let flags = filled_more 0 n (λ j. fault_code (of_integers Divide (int_at left j) (int_at right j))) c.loop-i.codes i _ c.loop-i.invariant.1 c.loop-i-test.true refl in (
      subst (AreFilled (pos 0) n _ (λ j. quotient (int_at left j) (int_at right j))) (sym c.put_quotient.ensures.value) outs,
      subst (AreFilled 0 n _ (λ j. fault_code (of_integers Divide (int_at left j) (int_at right j)))) (sym c.put_quotient.ensures.code) flags,
    )
