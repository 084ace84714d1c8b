-- Loop invariants and measures of `+printing` (`printing`).
use Rattle.std.proofs.Common.{◌≡◌, drop, map, ◌+◌, ◌*◌, max}
use Rattle.sql_syntax.specs.declared.tree.Expr.{size-Expr}
use Rattle.sql_syntax.specs.CanonicalTokens.{printed, printed_arm, arms_tokens}
use Rattle.sql_syntax.specs.Printing.{written, with_tokens, behind_commas}
use Rattle.sql_syntax.proofs.printer.Printer.+printing.Given as goal

abbrev pub invariant-put_arms-loop-arm : goal.invariant-put_arms-loop-arm
invariant-put_arms-loop-arm l = with_tokens (written l.self) (arms_tokens (map printed_arm (drop l.arm-index l.arms))) ≡ with_tokens (written l.initial.self) (arms_tokens (map printed_arm l.arms))

abbrev pub invariant-put_list-loop-entry : goal.invariant-put_list-loop-entry
invariant-put_list-loop-entry l = with_tokens (written l.self) (behind_commas (map printed (drop l.entry-index l.rest))) ≡ with_tokens (written l.initial.self) (behind_commas (map printed l.rest))

-- ---- measures: the depth of the deepest part, and a rank for the calls on what is as deep

abbrev pub decreases-put_expr : goal.decreases-put_expr
decreases-put_expr l = 8 * goal.size-put_expr l

abbrev pub decreases-put_at : goal.decreases-put_at
decreases-put_at l = 8 * goal.size-put_at l + 1

abbrev pub decreases-put_behind : goal.decreases-put_behind
decreases-put_behind l = 8 * goal.size-put_behind l + 2

abbrev pub decreases-put_right : goal.decreases-put_right
decreases-put_right l = 8 * goal.size-put_right l + 3

abbrev pub decreases-put_list : goal.decreases-put_list
decreases-put_list l = 8 * goal.size-put_list l + 3

abbrev pub decreases-put_arms : goal.decreases-put_arms
decreases-put_arms l = 8 * goal.size-put_arms l + 3

abbrev pub decreases-put_else : goal.decreases-put_else
decreases-put_else l = 8 * goal.size-put_else l + 3

abbrev pub decreases-put_in_brackets : goal.decreases-put_in_brackets
decreases-put_in_brackets l = 8 * goal.size-put_in_brackets l + 4

abbrev pub decreases-put_case : goal.decreases-put_case
decreases-put_case l = 8 * goal.size-put_case l + 4

abbrev pub decreases-put_case_end : goal.decreases-put_case_end
decreases-put_case_end l = 8 * goal.size-put_case_end l + 4

abbrev pub decreases-put_coalesce : goal.decreases-put_coalesce
decreases-put_coalesce l = 8 * goal.size-put_coalesce l + 5

abbrev pub decreases-put_aggregate_of : goal.decreases-put_aggregate_of
decreases-put_aggregate_of l = 8 * goal.size-put_aggregate_of l + 5

abbrev pub decreases-put_null_test : goal.decreases-put_null_test
decreases-put_null_test l = 8 * goal.size-put_null_test l + 5

abbrev pub decreases-put_like_test : goal.decreases-put_like_test
decreases-put_like_test l = 8 * goal.size-put_like_test l + 5

abbrev pub decreases-put_minus : goal.decreases-put_minus
decreases-put_minus l = 8 * goal.size-put_minus l + 5

abbrev pub decreases-put_not : goal.decreases-put_not
decreases-put_not l = 8 * goal.size-put_not l + 5

abbrev pub decreases-put_arithmetic : goal.decreases-put_arithmetic
decreases-put_arithmetic l = 8 * max (size-Expr l.left.now) (size-Expr l.right.now) + 5

abbrev pub decreases-put_compare : goal.decreases-put_compare
decreases-put_compare l = 8 * max (size-Expr l.left.now) (size-Expr l.right.now) + 5

abbrev pub decreases-put_and : goal.decreases-put_and
decreases-put_and l = 8 * max (size-Expr l.left.now) (size-Expr l.right.now) + 5

abbrev pub decreases-put_or : goal.decreases-put_or
decreases-put_or l = 8 * max (size-Expr l.left.now) (size-Expr l.right.now) + 5

abbrev pub decreases-put_between : goal.decreases-put_between
decreases-put_between l = 8 * max (size-Expr l.subject.now) (max (size-Expr l.low.now) (size-Expr l.high.now)) + 5

abbrev pub decreases-put_in : goal.decreases-put_in
decreases-put_in l = 8 * max (goal.size-put_in l) (size-Expr l.subject.now) + 5
