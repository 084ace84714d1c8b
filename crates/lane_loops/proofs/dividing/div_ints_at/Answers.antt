-- Proofs of the goals of `div_ints_at` (`dividing`).
use Rattle.std.proofs.Common.{refl, sym, subst, pos, arith, length}
use Rattle.meaning.specs.declared.expr.ArithmeticOperator.TheVariants.{Divide}
use Rattle.meaning.specs.Operators.{of_integers}
use Rattle.lane_loops.specs.Lanes.{fault_code, int_at, quotient}
use Rattle.lane_loops.proofs.FillingAt.{AreFilledAt, always, filled_more_at}
use Rattle.lane_loops.proofs.dividing.div_ints_at.Goals as goal

pub loop-position-preserved : goal.loop-position-preserved
loop-position-preserved c =
    let left = c.args.left.now in
    let right = c.args.right.now in
    let positions = c.args.positions.now in
    let n = length c.args.out.now in
    let k = c.loop-position.position-index in
    let values = filled_more_at (pos 0) n positions c.requires.within always (λ i. quotient (int_at left i) (int_at right i)) c.loop-position.out k _ c.loop-position.invariant.0 c.loop-position-test.true (λ _. refl) in
    let codes = filled_more_at 0 n positions c.requires.within always (λ i. fault_code (of_integers Divide (int_at left i) (int_at right i))) c.loop-position.codes k _ c.loop-position.invariant.1 c.loop-position-test.true (λ _. refl) in (
      subst (AreFilledAt (pos 0) n positions _ always (λ i. quotient (int_at left i) (int_at right i))) (sym c.put_quotient.ensures.value) values,
      subst (AreFilledAt 0 n positions _ always (λ i. fault_code (of_integers Divide (int_at left i) (int_at right i)))) (sym c.put_quotient.ensures.code) codes,
    )

pub returns-clause-value : goal.returns-clause-value
returns-clause-value c = λ k below. c.loop-position.invariant.0.each k (omega arith) tt

pub returns-clause-code : goal.returns-clause-code
returns-clause-code c = λ k below. c.loop-position.invariant.1.each k (omega arith) tt
