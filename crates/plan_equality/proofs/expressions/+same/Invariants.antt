-- Loop invariants and measures of the comparison of expressions (`expressions`).
use Rattle.std.proofs.Common.{◌≡◌, take, ◌+◌, ◌*◌, max}
use Rattle.meaning.specs.declared.expr.Expr.{size-Expr}
use Rattle.plan_equality.proofs.expressions.+same.Given as goal

abbrev pub invariant-are_same_arms-loop-i : goal.invariant-are_same_arms-loop-i
invariant-are_same_arms-loop-i l = take l.i l.a ≡ take l.i l.b

abbrev pub invariant-are_same_exprs-loop-i : goal.invariant-are_same_exprs-loop-i
invariant-are_same_exprs-loop-i l = take l.i l.a ≡ take l.i l.b

-- ---- measures: the depth of the deepest part, and a rank for the calls on what is as deep

abbrev pub decreases-is_same_expr : goal.decreases-is_same_expr
decreases-is_same_expr l = 4 * goal.size-is_same_expr l

abbrev pub decreases-are_same_exprs : goal.decreases-are_same_exprs
decreases-are_same_exprs l = 4 * goal.size-are_same_exprs l + 1

abbrev pub decreases-is_same_arm : goal.decreases-is_same_arm
decreases-is_same_arm l = 4 * goal.size-is_same_arm l + 1

abbrev pub decreases-are_same_arms : goal.decreases-are_same_arms
decreases-are_same_arms l = 4 * goal.size-are_same_arms l + 2

abbrev pub decreases-is_minus : goal.decreases-is_minus
decreases-is_minus l = 4 * goal.size-is_minus l + 3

abbrev pub decreases-is_not : goal.decreases-is_not
decreases-is_not l = 4 * goal.size-is_not l + 3

abbrev pub decreases-is_null_test : goal.decreases-is_null_test
decreases-is_null_test l = 4 * goal.size-is_null_test l + 3

abbrev pub decreases-is_like : goal.decreases-is_like
decreases-is_like l = 4 * goal.size-is_like l + 3

abbrev pub decreases-is_coalesce : goal.decreases-is_coalesce
decreases-is_coalesce l = 4 * goal.size-is_coalesce l + 3

abbrev pub decreases-is_arithmetic : goal.decreases-is_arithmetic
decreases-is_arithmetic l = 4 * max (size-Expr l.left.now) (size-Expr l.right.now) + 3

abbrev pub decreases-is_comparison : goal.decreases-is_comparison
decreases-is_comparison l = 4 * max (size-Expr l.left.now) (size-Expr l.right.now) + 3

abbrev pub decreases-is_and : goal.decreases-is_and
decreases-is_and l = 4 * max (size-Expr l.left.now) (size-Expr l.right.now) + 3

abbrev pub decreases-is_or : goal.decreases-is_or
decreases-is_or l = 4 * max (size-Expr l.left.now) (size-Expr l.right.now) + 3

abbrev pub decreases-is_between : goal.decreases-is_between
decreases-is_between l = 4 * max (size-Expr l.subject.now) (max (size-Expr l.low.now) (size-Expr l.high.now)) + 3

abbrev pub decreases-is_in : goal.decreases-is_in
decreases-is_in l = 4 * max (goal.size-is_in l) (size-Expr l.subject.now) + 3

abbrev pub decreases-is_case : goal.decreases-is_case
decreases-is_case l = 4 * max (goal.size-is_case l) (size-Expr l.otherwise.now) + 3
