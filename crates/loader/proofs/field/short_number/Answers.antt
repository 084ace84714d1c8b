-- Proofs of the goals of `short_number` (`field`).
use Rattle.std.proofs.Common.{arith}
use Rattle.loader.proofs.Integers.{front_value, front_more, whole_number}
use Rattle.loader.proofs.field.short_number.Goals as goal

pub overflow_mul-number : goal.overflow_mul-number
overflow_mul-number c =
    let small = front_value c.args.digits.now c.loop-digit.digit-index c.loop-digit.invariant.0 (omega arith) in
    omega (arith, small, c.loop-digit.invariant.1)

pub overflow_add-number : goal.overflow_add-number
overflow_add-number c =
    let small = front_value c.args.digits.now c.loop-digit.digit-index c.loop-digit.invariant.0 (omega arith) in
    omega (arith, small, c.loop-digit.invariant.1, c.type_inv.digits c.loop-digit.digit-index)

pub loop-digit-preserved : goal.loop-digit-preserved
loop-digit-preserved c = front_more c.args.digits.now c.loop-digit.digit-index c.loop-digit.number c.from.result c.loop-digit-test.true c.if-not-is_ascii_digit.ensures.bound c.from.ensures c.loop-digit.invariant

pub returns : goal.returns
returns c = whole_number c.args.digits.now c.loop-digit.digit-index c.loop-digit.number (omega arith) (omega arith) (omega (arith, c.loop-digit-test.false)) c.loop-digit.invariant
