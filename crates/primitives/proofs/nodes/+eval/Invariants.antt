-- Loop invariants and measures of `+eval` (`nodes`).
use Rattle.std.proofs.Common.{◌≡◌, ◌+◌, ◌*◌, max}
use Rattle.meaning.specs.declared.expr.Expr.{size-Expr}
use Rattle.vector_operators.specs.Given.{IsLong}
use Rattle.primitives.proofs.Loops.{ArmsDecide, FirstGiven, Found}
use Rattle.primitives.proofs.nodes.+eval.Given as goal

abbrev pub invariant-eval_arms-loop-arm : goal.invariant-eval_arms-loop-arm
invariant-eval_arms-loop-arm l = record {
  long : IsLong l.on.batch.now.rows l.cases.given;
  below : l.cases.left.below ≡ l.on.batch.now.rows;
  decide : ArmsDecide l.on.batch.now l.selection l.arms (l.arm-index + 1) l.fn.fault.held l.fault.held l.cases.left l.cases.given;
}

abbrev pub invariant-eval_coalesce-loop-item : goal.invariant-eval_coalesce-loop-item
invariant-eval_coalesce-loop-item l = record {
  long : IsLong l.on.batch.now.rows l.so_far;
  first : FirstGiven l.on.batch.now l.selection l.list l.item-index l.fn.fault.held l.fault.held l.so_far;
}

abbrev pub invariant-find_in-loop-item : goal.invariant-find_in-loop-item
invariant-find_in-loop-item l = record {
  long : IsLong l.on.batch.now.rows l.found;
  one : Found l.on.batch.now l.selection l.list l.item-index l.subject l.fn.fault.held l.fault.held l.found;
}

-- ---- measures: the depth of the deepest part, and a rank for the calls on what is as deep

abbrev pub decreases-eval_node : goal.decreases-eval_node
decreases-eval_node l = 8 * goal.size-eval_node l

abbrev pub decreases-eval : goal.decreases-eval
decreases-eval l = 8 * goal.size-eval l + 1

abbrev pub decreases-eval_unless_false : goal.decreases-eval_unless_false
decreases-eval_unless_false l = 8 * goal.size-eval_unless_false l + 2

abbrev pub decreases-eval_unless_true : goal.decreases-eval_unless_true
decreases-eval_unless_true l = 8 * goal.size-eval_unless_true l + 2

abbrev pub decreases-eval_where_null : goal.decreases-eval_where_null
decreases-eval_where_null l = 8 * goal.size-eval_where_null l + 2

abbrev pub decreases-eval_arithmetic : goal.decreases-eval_arithmetic
decreases-eval_arithmetic l = 8 * goal.size-eval_arithmetic l + 2

abbrev pub decreases-eval_compare : goal.decreases-eval_compare
decreases-eval_compare l = 8 * goal.size-eval_compare l + 2

abbrev pub decreases-eval_and : goal.decreases-eval_and
decreases-eval_and l = 8 * goal.size-eval_and l + 3

abbrev pub decreases-eval_or : goal.decreases-eval_or
decreases-eval_or l = 8 * goal.size-eval_or l + 3

abbrev pub decreases-eval_at_most : goal.decreases-eval_at_most
decreases-eval_at_most l = 8 * goal.size-eval_at_most l + 3

abbrev pub decreases-eval_equal : goal.decreases-eval_equal
decreases-eval_equal l = 8 * goal.size-eval_equal l + 3

abbrev pub decreases-eval_high : goal.decreases-eval_high
decreases-eval_high l = 8 * goal.size-eval_high l + 4

abbrev pub decreases-eval_above : goal.decreases-eval_above
decreases-eval_above l = 8 * goal.size-eval_above l + 5

abbrev pub decreases-find_next : goal.decreases-find_next
decreases-find_next l = 8 * goal.size-find_next l + 4

abbrev pub decreases-find_item : goal.decreases-find_item
decreases-find_item l = 8 * goal.size-find_item l + 5

abbrev pub decreases-find_in : goal.decreases-find_in
decreases-find_in l = 8 * goal.size-find_in l + 6

abbrev pub decreases-eval_next : goal.decreases-eval_next
decreases-eval_next l = 8 * goal.size-eval_next l + 3

abbrev pub decreases-eval_item : goal.decreases-eval_item
decreases-eval_item l = 8 * goal.size-eval_item l + 4

abbrev pub decreases-eval_coalesce : goal.decreases-eval_coalesce
decreases-eval_coalesce l = 8 * goal.size-eval_coalesce l + 5

abbrev pub decreases-eval_when : goal.decreases-eval_when
decreases-eval_when l = 8 * goal.size-eval_when l + 2

abbrev pub decreases-eval_taken : goal.decreases-eval_taken
decreases-eval_taken l = 8 * goal.size-eval_taken l + 3

abbrev pub decreases-eval_first : goal.decreases-eval_first
decreases-eval_first l = 8 * goal.size-eval_first l + 4

abbrev pub decreases-eval_next_arm : goal.decreases-eval_next_arm
decreases-eval_next_arm l = 8 * goal.size-eval_next_arm l + 4

abbrev pub decreases-eval_arm : goal.decreases-eval_arm
decreases-eval_arm l = 8 * goal.size-eval_arm l + 5

abbrev pub decreases-eval_arms : goal.decreases-eval_arms
decreases-eval_arms l = 8 * goal.size-eval_arms l + 6

abbrev pub decreases-eval_rest : goal.decreases-eval_rest
decreases-eval_rest l = 8 * goal.size-eval_rest l + 2

abbrev pub decreases-eval_otherwise : goal.decreases-eval_otherwise
decreases-eval_otherwise l = 8 * goal.size-eval_otherwise l + 3

abbrev pub decreases-minus_node : goal.decreases-minus_node
decreases-minus_node l = 8 * goal.size-minus_node l + 7

abbrev pub decreases-not_node : goal.decreases-not_node
decreases-not_node l = 8 * goal.size-not_node l + 7

abbrev pub decreases-is_null_node : goal.decreases-is_null_node
decreases-is_null_node l = 8 * goal.size-is_null_node l + 7

abbrev pub decreases-like_node : goal.decreases-like_node
decreases-like_node l = 8 * goal.size-like_node l + 7

abbrev pub decreases-arithmetic_node : goal.decreases-arithmetic_node
decreases-arithmetic_node l = 8 * max (size-Expr l.left.now) (size-Expr l.right.now) + 7

abbrev pub decreases-compare_node : goal.decreases-compare_node
decreases-compare_node l = 8 * max (size-Expr l.left.now) (size-Expr l.right.now) + 7

abbrev pub decreases-and_node : goal.decreases-and_node
decreases-and_node l = 8 * max (size-Expr l.left.now) (size-Expr l.right.now) + 7

abbrev pub decreases-or_node : goal.decreases-or_node
decreases-or_node l = 8 * max (size-Expr l.left.now) (size-Expr l.right.now) + 7

abbrev pub decreases-between_node : goal.decreases-between_node
decreases-between_node l = 8 * max (size-Expr l.subject.now) (max (size-Expr l.low.now) (size-Expr l.high.now)) + 7

abbrev pub decreases-in_node : goal.decreases-in_node
decreases-in_node l = 8 * max (goal.size-in_node l) (size-Expr l.subject.now) + 7

abbrev pub decreases-case_node : goal.decreases-case_node
decreases-case_node l = 8 * max (goal.size-case_node l) (size-Expr l.otherwise.now) + 7
