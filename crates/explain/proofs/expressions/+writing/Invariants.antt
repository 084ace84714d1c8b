-- Measures of the text of expressions (`expressions`): the depth of the deepest part, and a rank for the calls on what is as deep.
use Rattle.std.proofs.Common.{◌+◌, ◌*◌, max}
use Rattle.meaning.specs.declared.expr.Expr.{size-Expr}
use Rattle.explain.proofs.expressions.+writing.Given as goal

abbrev pub decreases-put_expr : goal.decreases-put_expr
decreases-put_expr l = 8 * goal.size-put_expr l

abbrev pub decreases-put_at : goal.decreases-put_at
decreases-put_at l = 8 * goal.size-put_at l + 1

abbrev pub decreases-put_behind : goal.decreases-put_behind
decreases-put_behind l = 8 * goal.size-put_behind l + 2

abbrev pub decreases-put_behind_sign : goal.decreases-put_behind_sign
decreases-put_behind_sign l = 8 * goal.size-put_behind_sign l + 3

abbrev pub decreases-put_entries : goal.decreases-put_entries
decreases-put_entries l = 8 * goal.size-put_entries l + 4

abbrev pub decreases-put_list : goal.decreases-put_list
decreases-put_list l = 8 * goal.size-put_list l + 5

abbrev pub decreases-put_arms : goal.decreases-put_arms
decreases-put_arms l = 8 * goal.size-put_arms l + 4

abbrev pub decreases-put_else : goal.decreases-put_else
decreases-put_else l = 8 * goal.size-put_else l + 4

abbrev pub decreases-put_subject : goal.decreases-put_subject
decreases-put_subject l = 8 * goal.size-put_subject l + 2

abbrev pub decreases-put_arithmetic : goal.decreases-put_arithmetic
decreases-put_arithmetic l = 8 * max (size-Expr l.left.now) (size-Expr l.right.now) + 7

abbrev pub decreases-put_comparison : goal.decreases-put_comparison
decreases-put_comparison l = 8 * max (size-Expr l.left.now) (size-Expr l.right.now) + 7

abbrev pub decreases-put_and : goal.decreases-put_and
decreases-put_and l = 8 * max (size-Expr l.left.now) (size-Expr l.right.now) + 7

abbrev pub decreases-put_or : goal.decreases-put_or
decreases-put_or l = 8 * max (size-Expr l.left.now) (size-Expr l.right.now) + 7

abbrev pub decreases-put_is_null : goal.decreases-put_is_null
decreases-put_is_null l = 8 * goal.size-put_is_null l + 7

abbrev pub decreases-put_like : goal.decreases-put_like
decreases-put_like l = 8 * goal.size-put_like l + 7

abbrev pub decreases-put_bounds : goal.decreases-put_bounds
decreases-put_bounds l = 8 * max (size-Expr l.low.now) (size-Expr l.high.now) + 3

abbrev pub decreases-put_between : goal.decreases-put_between
decreases-put_between l = 8 * max (size-Expr l.subject.now) (max (size-Expr l.low.now) (size-Expr l.high.now)) + 7

abbrev pub decreases-put_in : goal.decreases-put_in
decreases-put_in l = 8 * max (goal.size-put_in l) (size-Expr l.subject.now) + 7

abbrev pub decreases-put_case : goal.decreases-put_case
decreases-put_case l = 8 * max (goal.size-put_case l) (size-Expr l.otherwise.now) + 7
