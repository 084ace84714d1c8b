-- Proofs of the goals of `distance_bits` (`small`).
use Rattle.std.proofs.Common.{◌<◌, sym, subst}
use Rattle.meaning.specs.declared.expr.ArithmeticOperator.{ArithmeticOperator}
use Rattle.lane_loops.specs.Small.{AreSmall, IsSmall, IsShort, limit_of}
use Rattle.lane_loops.proofs.SmallResults.{both_below}
use Rattle.lane_loops.proofs.small.distance_bits.Goals as goal

pub returns-in-Add : goal.returns-in-Add
returns-in-Add c = λ below.
    let one = c.distance.result in
    let other = c.distance-in-Add.result in
    let both = both_below one other (limit_of c.args.op) (subst (λ (op : ArithmeticOperator). one < limit_of op → IsSmall c.args.left.now) (sym c.in-Add.is) c.distance.ensures) (subst (λ (op : ArithmeticOperator). other < limit_of op → IsSmall c.args.right.now) (sym c.in-Add.is) c.distance-in-Add.ensures) below in
    subst (λ (op : ArithmeticOperator). AreSmall op c.args.left.now c.args.right.now) (sym c.in-Add.is) both

pub returns-in-Subtract : goal.returns-in-Subtract
returns-in-Subtract c = λ below.
    let one = c.distance-in-Subtract.result in
    let other = c.distance-in-Subtract-2.result in
    let both = both_below one other (limit_of c.args.op) (subst (λ (op : ArithmeticOperator). one < limit_of op → IsSmall c.args.left.now) (sym c.in-Subtract.is) c.distance-in-Subtract.ensures) (subst (λ (op : ArithmeticOperator). other < limit_of op → IsSmall c.args.right.now) (sym c.in-Subtract.is) c.distance-in-Subtract-2.ensures) below in
    subst (λ (op : ArithmeticOperator). AreSmall op c.args.left.now c.args.right.now) (sym c.in-Subtract.is) both

pub returns-in-Multiply : goal.returns-in-Multiply
returns-in-Multiply c = λ below.
    let one = c.short_distance.result in
    let other = c.short_distance-in-Multiply.result in
    let both = both_below one other (limit_of c.args.op) (subst (λ (op : ArithmeticOperator). one < limit_of op → IsShort c.args.left.now) (sym c.in-Multiply.is) c.short_distance.ensures) (subst (λ (op : ArithmeticOperator). other < limit_of op → IsShort c.args.right.now) (sym c.in-Multiply.is) c.short_distance-in-Multiply.ensures) below in
    subst (λ (op : ArithmeticOperator). AreSmall op c.args.left.now c.args.right.now) (sym c.in-Multiply.is) both
