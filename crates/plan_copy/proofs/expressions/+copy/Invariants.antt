-- Loop invariants and measures of the copies of expressions (`expressions`).
use Rattle.std.proofs.Common.{◌≡◌, take, ◌+◌, ◌*◌, max}
use Rattle.meaning.specs.declared.expr.Expr.{size-Expr}
use Rattle.plan_copy.proofs.expressions.+copy.Given as goal

abbrev pub invariant-copy_arms-loop-arm : goal.invariant-copy_arms-loop-arm
invariant-copy_arms-loop-arm l = l.copies ≡ take l.arm-index l.arms

abbrev pub invariant-copy_exprs-loop-expr : goal.invariant-copy_exprs-loop-expr
invariant-copy_exprs-loop-expr l = l.copies ≡ take l.expr-index l.exprs

-- ---- measures: the depth of the deepest part, and a rank for the calls on what is as deep

abbrev pub decreases-copy_expr : goal.decreases-copy_expr
decreases-copy_expr l = 4 * goal.size-copy_expr l

abbrev pub decreases-copy_part : goal.decreases-copy_part
decreases-copy_part l = 4 * goal.size-copy_part l + 1

abbrev pub decreases-copy_exprs : goal.decreases-copy_exprs
decreases-copy_exprs l = 4 * goal.size-copy_exprs l + 1

abbrev pub decreases-copy_arm : goal.decreases-copy_arm
decreases-copy_arm l = 4 * goal.size-copy_arm l + 1

abbrev pub decreases-copy_arms : goal.decreases-copy_arms
decreases-copy_arms l = 4 * goal.size-copy_arms l + 2

abbrev pub decreases-copy_arithmetic : goal.decreases-copy_arithmetic
decreases-copy_arithmetic l = 4 * max (size-Expr l.left.now) (size-Expr l.right.now) + 3

abbrev pub decreases-copy_comparison : goal.decreases-copy_comparison
decreases-copy_comparison l = 4 * max (size-Expr l.left.now) (size-Expr l.right.now) + 3

abbrev pub decreases-copy_is_null : goal.decreases-copy_is_null
decreases-copy_is_null l = 4 * goal.size-copy_is_null l + 3

abbrev pub decreases-copy_between : goal.decreases-copy_between
decreases-copy_between l = 4 * max (size-Expr l.subject.now) (max (size-Expr l.low.now) (size-Expr l.high.now)) + 3

abbrev pub decreases-copy_in : goal.decreases-copy_in
decreases-copy_in l = 4 * max (goal.size-copy_in l) (size-Expr l.subject.now) + 3

abbrev pub decreases-copy_like : goal.decreases-copy_like
decreases-copy_like l = 4 * goal.size-copy_like l + 3

abbrev pub decreases-copy_case : goal.decreases-copy_case
decreases-copy_case l = 4 * max (goal.size-copy_case l) (size-Expr l.otherwise.now) + 3

abbrev pub decreases-copy_minus : goal.decreases-copy_minus
decreases-copy_minus l = 4 * goal.size-copy_minus l + 3

abbrev pub decreases-copy_not : goal.decreases-copy_not
decreases-copy_not l = 4 * goal.size-copy_not l + 3

abbrev pub decreases-copy_and : goal.decreases-copy_and
decreases-copy_and l = 4 * max (size-Expr l.left.now) (size-Expr l.right.now) + 3

abbrev pub decreases-copy_or : goal.decreases-copy_or
decreases-copy_or l = 4 * max (size-Expr l.left.now) (size-Expr l.right.now) + 3

abbrev pub decreases-copy_coalesce : goal.decreases-copy_coalesce
decreases-copy_coalesce l = 4 * goal.size-copy_coalesce l + 3
