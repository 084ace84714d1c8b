-- Loop invariants of `div_ints_at` (`dividing`).
use Rattle.std.proofs.Common.{pos, length}
use Rattle.meaning.specs.declared.expr.ArithmeticOperator.TheVariants.{Divide}
use Rattle.meaning.specs.Operators.{of_integers}
use Rattle.lane_loops.specs.Lanes.{fault_code, int_at, quotient}
use Rattle.lane_loops.proofs.FillingAt.{AreFilledAt, always}
use Rattle.lane_loops.proofs.dividing.div_ints_at.Given as goal

abbrev pub invariant-loop-position : goal.invariant-loop-position
invariant-loop-position l =
    AreFilledAt (pos 0) (length l.fn.out) l.positions l.position-index always (λ i. quotient (int_at l.left i) (int_at l.right i)) l.out
    × AreFilledAt 0 (length l.fn.out) l.positions l.position-index always (λ i. fault_code (of_integers Divide (int_at l.left i) (int_at l.right i))) l.codes
