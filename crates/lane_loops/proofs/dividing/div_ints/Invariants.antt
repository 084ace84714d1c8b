-- Loop invariants of `div_ints` (`dividing`).
use Rattle.std.proofs.Common.{pos, length}
use Rattle.meaning.specs.declared.expr.ArithmeticOperator.TheVariants.{Divide}
use Rattle.meaning.specs.Operators.{of_integers}
use Rattle.lane_loops.specs.Lanes.{quotient, fault_code}
use Rattle.lane_loops.specs.Lanes.{AreFilled, int_at}
use Rattle.lane_loops.proofs.dividing.div_ints.Given as goal

abbrev pub invariant-loop-i : goal.invariant-loop-i
invariant-loop-i l =
    AreFilled (pos 0) (length l.fn.out) l.i (λ i. quotient (int_at l.left i) (int_at l.right i)) l.out
    × AreFilled 0 (length l.fn.out) l.i (λ i. fault_code (of_integers Divide (int_at l.left i) (int_at l.right i))) l.codes
