-- Proofs of the goals of `+eval` (`nodes`).
use Rattle.std.proofs.Common.{rules, ℕ, ◌<◌, ◌∙◌, sym, ap, subst, length}
use Rattle.meaning.specs.declared.expr.Expr.TheVariants as node
use Rattle.meaning.specs.declared.expr.ComparisonOperator.TheVariants as comparison
use Rattle.meaning.specs.Operators.{and_of, coalesce_of, compare_of, or_of}
use Rattle.meaning.specs.Typing.{Boolean, Valued}
use Rattle.vector_operators.specs.declared.given.Given.{Given}
use Rattle.vector_operators.specs.Evaluated.{IsWithin}
use Rattle.primitives.specs.declared.nodes.Cases.{Cases}
use Rattle.primitives.specs.Meant.{meant_at}
use Rattle.primitives.specs.Nodes.{Decides, Gives, IsNoLater}
use Rattle.vector_operators.specs.Given.{given_at, is_not_false, is_not_true}
use Rattle.primitives.proofs.Steps.{and_node as and_lanes, or_node as or_lanes}
use Rattle.primitives.proofs.ExprNodes.{aggregate_node, and_node, arithmetic_node, as_lent, as_lent_where, as_node, between_node, case_node, coalesce_node, column_node, compare_node, in_node, in_nothing, is_null_node, joined_node, key_node, like_node, literal_node, literal_where, minus_node, not_node, or_node}
use Rattle.primitives.proofs.Loops.{arms_all, arms_first, arms_more, behind_first, gone_through, first_all, first_more, first_start, found_all, found_more, found_start}
use Rattle.primitives.proofs.NodeGives.{arithmetic_gives, arm_gives, behind_gives, coalesce_gives, compare_gives, first_gives, narrowed_gives, none_gives, operator_gives, rest_gives, second_alone, second_gives, test_gives, when_passes}
use Rattle.primitives.proofs.nodes.+eval.Goals as goal

pub eval_arithmetic-returns-clause-gives : goal.eval_arithmetic-returns-clause-gives
eval_arithmetic-returns-clause-gives t c = arithmetic_gives _ _ _ _ _ _ _ _ _ _ c.in_ok-right.ensures.gives c.arithmetic-result.ensures.exact c.arithmetic-result.ensures.kind

pub eval_compare-returns-clause-gives : goal.eval_compare-returns-clause-gives
eval_compare-returns-clause-gives t c =
    compare_gives _ _ _ _ _ _ _ _ _ _ (c.requires.below ∙ sym c.rows.ensures) c.in_ok-right.ensures.gives c.compare-result.ensures.value c.compare-result.ensures.kind

pub eval_unless_false-returns-clause-gives : goal.eval_unless_false-returns-clause-gives
eval_unless_false-returns-clause-gives t c = narrowed_gives _ _ _ _ _ _ _ _ c.in_ok-narrowed.ensures c.eval-result.ensures.gives

pub eval_unless_true-returns-in-Literal-clause-gives : goal.eval_unless_true-returns-in-Literal-clause-gives
eval_unless_true-returns-in-Literal-clause-gives t c =
    as_lent_where _ _ _ _ _ _ (node.Literal c.in-Literal.value) c.in-Literal.is
    (literal_where _ _ _ _ _ _ (λ i w. subst (λ (k : ℕ). i < k) (c.requires.below ∙ sym c.rows.ensures) w.0.0) c.repeated.ensures.value c.repeated.ensures.kind)

pub eval_unless_true-returns-clause-gives : goal.eval_unless_true-returns-clause-gives
eval_unless_true-returns-clause-gives t c = narrowed_gives _ _ _ _ _ _ _ _ c.in_ok-narrowed.ensures c.eval-result.ensures.gives

pub eval_where_null-returns-in-Literal-clause-gives : goal.eval_where_null-returns-in-Literal-clause-gives
eval_where_null-returns-in-Literal-clause-gives t c =
    as_lent_where _ _ _ _ _ _ (node.Literal c.in-Literal.value) c.in-Literal.is
    (literal_where _ _ _ _ _ _ (λ i w. subst (λ (k : ℕ). i < k) (c.requires.below ∙ sym c.rows.ensures) w.0.0) c.repeated.ensures.value c.repeated.ensures.kind)

pub eval_where_null-returns-clause-gives : goal.eval_where_null-returns-clause-gives
eval_where_null-returns-clause-gives t c = narrowed_gives _ _ _ _ _ _ _ _ c.in_ok-narrowed.ensures c.eval-result.ensures.gives

pub eval_and-returns-clause-gives : goal.eval_and-returns-clause-gives
eval_and-returns-clause-gives t c =
    operator_gives and_of is_not_false and_lanes _ _ _ _ _ _ _ _ _ (c.requires.below ∙ sym c.rows.ensures) c.in_ok-right.ensures.gives c.and-result.ensures.value c.and-result.ensures.kind

pub eval_or-returns-clause-gives : goal.eval_or-returns-clause-gives
eval_or-returns-clause-gives t c =
    operator_gives or_of is_not_true or_lanes _ _ _ _ _ _ _ _ _ (c.requires.below ∙ sym c.rows.ensures) c.in_ok-right.ensures.gives c.or-result.ensures.value c.or-result.ensures.kind

pub eval_at_most-returns-clause-gives : goal.eval_at_most-returns-clause-gives
eval_at_most-returns-clause-gives t c =
    test_gives comparison.LessOrEqual _ _ _ (λ i. is_not_false (given_at c.args.before.now i)) _ _ _ _ _ _ (c.requires.below ∙ sym c.rows.ensures) c.in_ok-high.ensures.gives c.compare-result.ensures.value c.compare-result.ensures.kind

pub eval_equal-returns-clause-gives : goal.eval_equal-returns-clause-gives
eval_equal-returns-clause-gives t c =
    test_gives comparison.Equal _ _ _ (λ i. is_not_true (given_at c.args.before.now i)) _ _ _ _ _ _ (c.requires.below ∙ sym c.rows.ensures) c.in_ok-item.ensures.gives c.compare-result.ensures.value c.compare-result.ensures.kind

pub eval_high-returns-clause-gives : goal.eval_high-returns-clause-gives
eval_high-returns-clause-gives t c =
    second_alone and_of comparison.LessOrEqual _ _ _ _ _ _ _ _
    (second_gives and_of is_not_false and_lanes comparison.LessOrEqual _ _ _ _ _ _ _ _ _ _ (c.requires.below ∙ sym c.rows.ensures) c.in_ok-below.ensures.gives c.and-result.ensures.value c.and-result.ensures.kind)

pub eval_above-returns-clause-gives : goal.eval_above-returns-clause-gives
eval_above-returns-clause-gives t c = behind_gives and_of comparison.LessOrEqual _ _ _ _ _ _ _ _ _ c.in_ok-above.was c.eval_high-result.ensures.gives

pub find_next-returns-clause-gives : goal.find_next-returns-clause-gives
find_next-returns-clause-gives t c =
    second_gives or_of is_not_true or_lanes comparison.Equal _ _ _ _ _ _ _ _ _ _ (c.requires.below ∙ sym c.rows.ensures) c.in_ok-equal.ensures.gives c.or-result.ensures.value c.or-result.ensures.kind

pub find_in-loop-item-init : goal.find_in-loop-item-init
find_in-loop-item-init t c = record {
  long = search rules;
  one = found_start _ _ _ _ _ _ _ (c.requires.below ∙ sym c.rows.ensures) c.one_truth-found.ensures.value c.one_truth-found.ensures.kind;
}

pub find_in-loop-item-preserved : goal.find_in-loop-item-preserved
find_in-loop-item-preserved t c = record {
  long = c.find_item.ensures.long;
  one = found_more _ _ _ _ _ _ _ _ _ _ _ c.loop-item-test.true c.item-item.is c.in_ok-find_item.ensures.gives c.loop-item.invariant.one;
}

pub find_in-returns-clause-gives : goal.find_in-returns-clause-gives
find_in-returns-clause-gives t c = found_all _ _ _ _ _ _ _ _ c.loop-item-test.false c.loop-item.invariant.one

pub eval_next-returns-clause-gives : goal.eval_next-returns-clause-gives
eval_next-returns-clause-gives t c =
    coalesce_gives _ _ _ _ _ _ _ _ _ (c.requires.below ∙ sym c.rows.ensures) c.in_ok-item.ensures.gives c.coalesce.ensures.value c.coalesce.ensures.kind

pub eval_coalesce-loop-item-init : goal.eval_coalesce-loop-item-init
eval_coalesce-loop-item-init t c = record { long = tt; first = first_start _ _ _ _ }

pub eval_coalesce-loop-item-preserved : goal.eval_coalesce-loop-item-preserved
eval_coalesce-loop-item-preserved t c = record {
  long = c.eval_item.ensures.long;
  first = first_more _ _ _ _ _ _ _ _ _ _ c.loop-item-test.true c.item-item.is c.in_ok-eval_item.ensures.gives c.loop-item.invariant.first;
}

pub eval_coalesce-returns-clause-gives : goal.eval_coalesce-returns-clause-gives
eval_coalesce-returns-clause-gives t c = first_all _ _ _ _ _ _ _ c.loop-item-test.false c.loop-item.invariant.first

pub eval_when-returns-clause-gives : goal.eval_when-returns-clause-gives
eval_when-returns-clause-gives t c = when_passes _ _ _ _ _ _ _ c.in_ok-when.ensures.gives c.where_true-lanes.ensures

pub eval_taken-returns-clause-gives : goal.eval_taken-returns-clause-gives
eval_taken-returns-clause-gives t c types rows kind are fits = record {
  between = c.eval_when.new.fault.held;
  passes = c.in_ok-lanes.ensures.gives types rows are fits.condition;
  gives = c.in_ok-then.ensures.gives types _ rows are fits.value;
}

pub eval_next_arm-returns-clause-gives : goal.eval_next_arm-returns-clause-gives
eval_next_arm-returns-clause-gives t c =
    arm_gives _ _ _ _ _ _ _ c.in_ok-taken.ensures.gives (c.in_ok-taken.ensures.long.1 ∙ sym c.requires.left)
    c.put_taken-result.ensures.left c.put_taken-result.ensures.value c.put_taken-result.ensures.kind

pub eval_rest-returns-clause-gives : goal.eval_rest-returns-clause-gives
eval_rest-returns-clause-gives t c = rest_gives _ _ _ _ _ _ _ _ c.in_ok-otherwise.ensures.gives c.put-result.ensures.value c.put-result.ensures.kind

pub eval_first-returns-clause-gives : goal.eval_first-returns-clause-gives
eval_first-returns-clause-gives t c =
    first_gives _ _ _ _ _ _ _ c.in_ok-taken.ensures.gives (c.in_ok-taken.ensures.long.1 ∙ sym c.requires) c.first_taken.ensures.given c.first_taken.ensures.left

pub eval_item-returns-clause-gives : goal.eval_item-returns-clause-gives
eval_item-returns-clause-gives t c types rows kind a held are fits of_kind on =
    subst (λ (g : Given). Gives (Valued kind) (λ i. coalesce_of (a i) (meant_at c.args.item.now rows i)) (IsWithin c.args.selection.now) held c.eval_next.new.fault.held g)
    (sym c.replace.ensures.after) (c.in_ok-next.ensures.gives types rows kind a held are fits of_kind on)

pub find_item-returns-clause-gives : goal.find_item-returns-clause-gives
find_item-returns-clause-gives t c types rows kind x a held are fits of_kind exact on =
    subst (λ (g : Given). Gives Boolean (λ i. or_of (a i) (compare_of comparison.Equal (x i) (meant_at c.args.item.now rows i))) (IsWithin c.args.selection.now) held c.find_next.new.fault.held g × IsNoLater c.args.fault.now.held c.find_next.new.fault.held)
    (sym c.replace.ensures.after) (c.in_ok-next.ensures.gives types rows kind x a held are fits of_kind exact on)

pub eval_arm-returns-clause-gives : goal.eval_arm-returns-clause-gives
eval_arm-returns-clause-gives t c types rows kind meant rest s held are fits on =
    subst (λ (cases : Cases). Decides kind meant rest (IsWithin s) cases.left held c.eval_next_arm.new.fault.held cases.given)
    (sym c.replace.ensures.after) (c.in_ok-next.ensures.gives types rows kind meant rest s held are fits on)

pub eval_arms-returns-in_default-clause-gives : goal.eval_arms-returns-in_default-clause-gives
eval_arms-returns-in_default-clause-gives t c = none_gives _ _ _ _ _ c.in_default.ensures.cases c.none_taken.ensures.given c.none_taken.ensures.left

pub eval_arms-loop-arm-init : goal.eval_arms-loop-arm-init
eval_arms-loop-arm-init t c = record {
  long = c.in_ok-cases.ensures.long.0;
  below = c.in_ok-cases.ensures.long.1;
  decide = arms_first _ _ _ _ _ _ _ _ _ c.in-Some.ensures.cases.0 c.in_ok-cases.ensures.gives;
}

pub eval_arms-loop-arm-preserved : goal.eval_arms-loop-arm-preserved
eval_arms-loop-arm-preserved t c =
    let there = behind_first _ _ _ _ _ c.in-Some.ensures.cases.0 c.loop-arm-test.true c.arm-item.is in
    record {
      long = c.eval_arm.ensures.long.0;
      below = c.eval_arm.ensures.long.1;
      decide = arms_more _ _ _ _ _ _ _ _ _ _ _ _ there.0 there.1 c.in_ok-eval_arm.ensures.gives c.loop-arm.invariant.decide;
    }

pub eval_arms-returns-clause-gives : goal.eval_arms-returns-clause-gives
eval_arms-returns-clause-gives t c = arms_all _ _ _ _ _ _ _ _ (gone_through _ _ _ _ c.in-Some.ensures.cases.0 c.loop-arm-test.false) c.loop-arm.invariant.decide

pub eval_node-returns-in-Column-clause-gives : goal.eval_node-returns-in-Column-clause-gives
eval_node-returns-in-Column-clause-gives t c = as_lent _ _ _ _ _ _ (node.Column c.in-Column.column) c.in-Column.is (column_node _ _ _ _ _ c.requires c.lent_column.ensures.value)

pub eval_node-returns-in-Joined-clause-gives : goal.eval_node-returns-in-Joined-clause-gives
eval_node-returns-in-Joined-clause-gives t c = as_lent _ _ _ _ _ _ (node.Joined c.in-Joined.join c.in-Joined.column) c.in-Joined.is (joined_node _ _ _ _ _ _ c.requires c.lent_column-in-Joined.ensures.value)

pub eval_node-returns-in-Key-clause-gives : goal.eval_node-returns-in-Key-clause-gives
eval_node-returns-in-Key-clause-gives t c = as_lent _ _ _ _ _ _ (node.Key c.in-Key.key) c.in-Key.is (key_node _ _ _ _ _ c.requires c.lent_column-in-Key.ensures.value)

pub eval_node-returns-in-Aggregate-clause-gives : goal.eval_node-returns-in-Aggregate-clause-gives
eval_node-returns-in-Aggregate-clause-gives t c = as_lent _ _ _ _ _ _ (node.Aggregate c.in-Aggregate.aggregate) c.in-Aggregate.is (aggregate_node _ _ _ _ _ c.requires c.lent_column-in-Aggregate.ensures.value)

pub eval_node-returns-in-Literal-clause-gives : goal.eval_node-returns-in-Literal-clause-gives
eval_node-returns-in-Literal-clause-gives t c =
    as_lent _ _ _ _ _ _ (node.Literal c.in-Literal.value) c.in-Literal.is (literal_node _ _ _ _ _ _ (c.requires ∙ sym c.rows.ensures) c.repeated.ensures.value c.repeated.ensures.kind)

pub eval_node-returns-in-Minus-clause-gives : goal.eval_node-returns-in-Minus-clause-gives
eval_node-returns-in-Minus-clause-gives t c = as_node _ _ _ _ _ _ (node.Minus c.in-Minus.operand) c.in-Minus.is c.minus_node.ensures.gives

pub eval_node-returns-in-Arithmetic-clause-gives : goal.eval_node-returns-in-Arithmetic-clause-gives
eval_node-returns-in-Arithmetic-clause-gives t c = as_node _ _ _ _ _ _ (node.Arithmetic c.in-Arithmetic.op c.in-Arithmetic.left c.in-Arithmetic.right) c.in-Arithmetic.is c.arithmetic_node.ensures.gives

pub eval_node-returns-in-Compare-clause-gives : goal.eval_node-returns-in-Compare-clause-gives
eval_node-returns-in-Compare-clause-gives t c = as_node _ _ _ _ _ _ (node.Compare c.in-Compare.op c.in-Compare.left c.in-Compare.right) c.in-Compare.is c.compare_node.ensures.gives

pub eval_node-returns-in-Not-clause-gives : goal.eval_node-returns-in-Not-clause-gives
eval_node-returns-in-Not-clause-gives t c = as_node _ _ _ _ _ _ (node.Not c.in-Not.operand) c.in-Not.is c.not_node.ensures.gives

pub eval_node-returns-in-And-clause-gives : goal.eval_node-returns-in-And-clause-gives
eval_node-returns-in-And-clause-gives t c = as_node _ _ _ _ _ _ (node.And c.in-And.left c.in-And.right) c.in-And.is c.and_node.ensures.gives

pub eval_node-returns-in-Or-clause-gives : goal.eval_node-returns-in-Or-clause-gives
eval_node-returns-in-Or-clause-gives t c = as_node _ _ _ _ _ _ (node.Or c.in-Or.left c.in-Or.right) c.in-Or.is c.or_node.ensures.gives

pub eval_node-returns-in-IsNull-clause-gives : goal.eval_node-returns-in-IsNull-clause-gives
eval_node-returns-in-IsNull-clause-gives t c = as_node _ _ _ _ _ _ (node.IsNull c.in-IsNull.negated c.in-IsNull.subject) c.in-IsNull.is c.is_null_node.ensures.gives

pub eval_node-returns-in-Between-clause-gives : goal.eval_node-returns-in-Between-clause-gives
eval_node-returns-in-Between-clause-gives t c = as_node _ _ _ _ _ _ (node.Between c.in-Between.negated c.in-Between.subject c.in-Between.low c.in-Between.high) c.in-Between.is c.between_node.ensures.gives

pub eval_node-returns-in-In-clause-gives : goal.eval_node-returns-in-In-clause-gives
eval_node-returns-in-In-clause-gives t c = as_node _ _ _ _ _ _ (node.In c.in-In.negated c.in-In.subject c.in-In.list) c.in-In.is c.in_node.ensures.gives

pub eval_node-returns-in-Like-clause-gives : goal.eval_node-returns-in-Like-clause-gives
eval_node-returns-in-Like-clause-gives t c = as_node _ _ _ _ _ _ (node.Like c.in-Like.negated c.in-Like.subject c.in-Like.pattern) c.in-Like.is c.like_node.ensures.gives

pub eval_node-returns-in-Case-clause-gives : goal.eval_node-returns-in-Case-clause-gives
eval_node-returns-in-Case-clause-gives t c = as_node _ _ _ _ _ _ (node.Case c.in-Case.arms c.in-Case.otherwise) c.in-Case.is c.case_node.ensures.gives

pub eval_node-returns-in-Coalesce-clause-gives : goal.eval_node-returns-in-Coalesce-clause-gives
eval_node-returns-in-Coalesce-clause-gives t c =
    as_node _ _ _ _ _ _ (node.Coalesce c.as_slice.result.now) (c.in-Coalesce.is ∙ ap node.Coalesce (sym c.as_slice.ensures)) (coalesce_node _ _ _ _ _ _ c.eval_coalesce.ensures.gives)

pub minus_node-returns-clause-gives : goal.minus_node-returns-clause-gives
minus_node-returns-clause-gives t c =
    as_node _ _ _ _ _ _ (node.Minus _) (ap node.Minus (sym c.get.ensures)) (minus_node _ _ _ _ _ _ _ _ c.in_ok-a.ensures.gives c.of_minus.ensures.exact c.of_minus.ensures.kind)

pub not_node-returns-clause-gives : goal.not_node-returns-clause-gives
not_node-returns-clause-gives t c =
    as_node _ _ _ _ _ _ (node.Not _) (ap node.Not (sym c.get.ensures)) (not_node _ _ _ _ _ _ _ _ (c.requires ∙ sym c.rows.ensures) c.in_ok-a.ensures.gives c.of_not.ensures.value c.of_not.ensures.kind)

pub arithmetic_node-returns-clause-gives : goal.arithmetic_node-returns-clause-gives
arithmetic_node-returns-clause-gives t c =
    as_node _ _ _ _ _ _ (node.Arithmetic c.args.op c.get.result.now c.get-2.result.now)
    (ap (λ e. node.Arithmetic c.args.op e c.args.right.now) (sym c.get.ensures) ∙ ap (node.Arithmetic c.args.op c.get.result.now) (sym c.get-2.ensures))
    (arithmetic_node _ _ _ _ _ _ _ _ _ _ c.in_ok-left.ensures.gives c.eval_arithmetic-result.ensures.gives)

pub compare_node-returns-clause-gives : goal.compare_node-returns-clause-gives
compare_node-returns-clause-gives t c =
    as_node _ _ _ _ _ _ (node.Compare c.args.op c.get.result.now c.get-2.result.now)
    (ap (λ e. node.Compare c.args.op e c.args.right.now) (sym c.get.ensures) ∙ ap (node.Compare c.args.op c.get.result.now) (sym c.get-2.ensures))
    (compare_node _ _ _ _ _ _ _ _ _ _ c.in_ok-left.ensures.gives c.eval_compare-result.ensures.gives)

pub and_node-returns-clause-gives : goal.and_node-returns-clause-gives
and_node-returns-clause-gives t c =
    as_node _ _ _ _ _ _ (node.And c.get.result.now c.get-2.result.now)
    (ap (λ e. node.And e c.args.right.now) (sym c.get.ensures) ∙ ap (node.And c.get.result.now) (sym c.get-2.ensures))
    (and_node _ _ _ _ _ _ _ _ _ c.in_ok-left.ensures.gives c.eval_and-result.ensures.gives)

pub or_node-returns-clause-gives : goal.or_node-returns-clause-gives
or_node-returns-clause-gives t c =
    as_node _ _ _ _ _ _ (node.Or c.get.result.now c.get-2.result.now)
    (ap (λ e. node.Or e c.args.right.now) (sym c.get.ensures) ∙ ap (node.Or c.get.result.now) (sym c.get-2.ensures))
    (or_node _ _ _ _ _ _ _ _ _ c.in_ok-left.ensures.gives c.eval_or-result.ensures.gives)

pub is_null_node-returns-clause-gives : goal.is_null_node-returns-clause-gives
is_null_node-returns-clause-gives t c =
    as_node _ _ _ _ _ _ (node.IsNull c.args.negated c.get.result.now) (ap (node.IsNull c.args.negated) (sym c.get.ensures))
    (is_null_node _ _ _ _ _ _ _ _ _ (c.requires ∙ sym c.rows.ensures) c.in_ok-subject.ensures.gives c.of_is_null.ensures.value c.of_is_null.ensures.kind)

pub between_node-returns-clause-gives : goal.between_node-returns-clause-gives
between_node-returns-clause-gives t c =
    let n = c.args.negated in
    let x = c.get.result.now in
    let low = c.get-2.result.now in
    as_node _ _ _ _ _ _ (node.Between n x low c.get-3.result.now)
    (ap (λ e. node.Between n e c.args.low.now c.args.high.now) (sym c.get.ensures) ∙ ap (λ e. node.Between n x e c.args.high.now) (sym c.get-2.ensures) ∙ ap (node.Between n x low) (sym c.get-3.ensures))
    (between_node _ _ _ _ _ _ _ _ _ _ _ _ _ _ _ (c.requires ∙ sym c.rows.ensures) c.in_ok-subject.ensures.gives
    c.eval_compare-above.ensures.gives c.eval_above-within.ensures.gives c.not_if_known.ensures.value c.not_if_known.ensures.kind)

pub in_node-returns-then-len-eq0-clause-gives : goal.in_node-returns-then-len-eq0-clause-gives
in_node-returns-then-len-eq0-clause-gives t c =
    in_nothing _ _ _ _ _ _ _ _ _ (c.requires ∙ sym c.rows-then-len-eq0.ensures) (sym c.len.ensures ∙ c.if-len-eq0.true)
    (λ i w. c.one_truth.ensures.value i (search (rules, w, c.rows.ensures, c.rows-then-len-eq0.ensures))) c.one_truth.ensures.kind c.not_if.ensures.value c.not_if.ensures.kind

pub in_node-returns-clause-gives : goal.in_node-returns-clause-gives
in_node-returns-clause-gives t c =
    as_node _ _ _ _ _ _ (node.In c.args.negated c.get.result.now c.as_slice.result.now)
    (ap (λ e. node.In c.args.negated e c.args.list.now) (sym c.get.ensures) ∙ ap (node.In c.args.negated c.get.result.now) (sym c.as_slice.ensures))
    (in_node _ _ _ _ _ _ _ _ _ _ _ _ (c.requires ∙ sym c.rows-2.ensures) (λ none. c.if-len-eq0.false (c.len.ensures ∙ ap (λ es. length es) (sym c.as_slice.ensures) ∙ none))
    c.in_ok-subject.ensures.gives c.find_in-found.ensures.gives c.not_if_known.ensures.value c.not_if_known.ensures.kind)

pub like_node-returns-clause-gives : goal.like_node-returns-clause-gives
like_node-returns-clause-gives t c =
    as_node _ _ _ _ _ _ (node.Like c.args.negated c.get.result.now c.args.pattern.now) (ap (λ e. node.Like c.args.negated e c.args.pattern.now) (sym c.get.ensures))
    (like_node _ _ _ _ _ _ _ _ _ _ _ _ (c.requires ∙ sym c.rows.ensures) (c.requires ∙ sym c.rows-2.ensures) c.requires c.in_ok-subject.ensures.gives
    c.of_like-found.ensures.value c.of_like-found.ensures.kind c.not_if_known.ensures.value c.not_if_known.ensures.kind)

pub case_node-returns-clause-gives : goal.case_node-returns-clause-gives
case_node-returns-clause-gives t c =
    as_node _ _ _ _ _ _ (node.Case c.as_slice.result.now c.get.result.now)
    (ap (λ arms. node.Case arms c.args.otherwise.now) (sym c.as_slice.ensures) ∙ ap (node.Case c.as_slice.result.now) (sym c.get.ensures))
    (case_node _ _ _ _ _ _ _ _ _ _ c.in_ok-cases.ensures.gives c.eval_otherwise.ensures.gives)

pub eval-returns-in-Column-clause-gives : goal.eval-returns-in-Column-clause-gives
eval-returns-in-Column-clause-gives t c = as_lent _ _ _ _ _ _ (node.Column c.in-Column.column) c.in-Column.is (column_node _ _ _ _ _ c.requires c.lent_column.ensures.value)

pub eval-returns-in-Literal-clause-gives : goal.eval-returns-in-Literal-clause-gives
eval-returns-in-Literal-clause-gives t c =
    as_lent _ _ _ _ _ _ (node.Literal c.in-Literal.value) c.in-Literal.is (literal_node _ _ _ _ _ _ (c.requires ∙ sym c.rows.ensures) c.repeated.ensures.value c.repeated.ensures.kind)
