-- Proofs of the goals of `+translate` (`translating`).
use Rattle.std.proofs.Common.{rules, List, map, sym, ap, ap₂, ◌∙◌}
use Rattle.sql_syntax.specs.declared.tree.Arm.{Arm}
use Rattle.sql_syntax.specs.declared.tree.Expr.{Expr}
use Rattle.sql_syntax.specs.declared.tree.Expr.TheOpen as node
use Rattle.sql_syntax.specs.declared.tree.Expr.TheVariants as tree
use Rattle.planner_expressions.specs.Given.{given_in}
use Rattle.planner_expressions.specs.Translated.{translated, translated_arm, all_some, arm_of}
use Rattle.planner_expressions.proofs.Steps.{at_parts, by_parts, was_given, case_parts, behind, goes_on, stops, there, missing, from_none, next_left}
use Rattle.planner_expressions.proofs.translating.+translate.Goals as goal

pub translate-returns-in-Ok-Some : goal.translate-returns-in-Ok-Some
translate-returns-in-Ok-Some t c =
    was_given (given_in c.args.scope.now c.args.basis.now) c.args.expr.now c.in-Ok-Some.found (sym c.in-Ok-Some.ensures ∙ c.in-Ok-Some.field-0-is)

pub translate-returns-in-Aggregate : goal.translate-returns-in-Aggregate
translate-returns-in-Aggregate t c =
    at_parts (given_in c.args.scope.now c.args.basis.now) (node.Aggregate c.in-Aggregate.kind c.in-Aggregate.argument) c.args.expr.now
    (tree.rolls-Aggregate _ _ ∙ sym c.in-Aggregate.is) (sym c.in-Ok-None.ensures ∙ c.in-Ok-None.field-0-is)

pub translate-returns-in-Minus : goal.translate-returns-in-Minus
translate-returns-in-Minus t c =
    by_parts (given_in c.args.scope.now c.args.basis.now) (node.Minus c.get.result.now) c.args.expr.now _
    (tree.rolls-Minus _ ∙ ap tree.Minus c.get.ensures ∙ sym c.in-Minus.is) (sym c.in-Ok-None.ensures ∙ c.in-Ok-None.field-0-is)
    (c.minus.ensures _ c.translate.ensures)

pub translate-returns-in-And : goal.translate-returns-in-And
translate-returns-in-And t c =
    by_parts (given_in c.args.scope.now c.args.basis.now) (node.And c.get-in-And.result.now c.get-in-And-2.result.now) c.args.expr.now _
    (tree.rolls-And _ _ ∙ ap₂ tree.And c.get-in-And.ensures c.get-in-And-2.ensures ∙ sym c.in-And.is) (sym c.in-Ok-None.ensures ∙ c.in-Ok-None.field-0-is)
    (c.and.ensures _ _ c.translate-left-in-And.ensures c.translate-in-And.ensures)

pub translate-returns-in-Arithmetic : goal.translate-returns-in-Arithmetic
translate-returns-in-Arithmetic t c =
    by_parts (given_in c.args.scope.now c.args.basis.now) (node.Arithmetic c.in-Arithmetic.operator c.get-in-Arithmetic.result.now c.get-in-Arithmetic-2.result.now) c.args.expr.now _
    (tree.rolls-Arithmetic _ _ _ ∙ ap₂ (tree.Arithmetic c.in-Arithmetic.operator) c.get-in-Arithmetic.ensures c.get-in-Arithmetic-2.ensures ∙ sym c.in-Arithmetic.is) (sym c.in-Ok-None.ensures ∙ c.in-Ok-None.field-0-is)
    (c.arithmetic.ensures _ _ c.translate-left.ensures c.translate-in-Arithmetic.ensures)

pub translate-returns-in-Compare : goal.translate-returns-in-Compare
translate-returns-in-Compare t c =
    by_parts (given_in c.args.scope.now c.args.basis.now) (node.Compare c.in-Compare.operator c.get-in-Compare.result.now c.get-in-Compare-2.result.now) c.args.expr.now _
    (tree.rolls-Compare _ _ _ ∙ ap₂ (tree.Compare c.in-Compare.operator) c.get-in-Compare.ensures c.get-in-Compare-2.ensures ∙ sym c.in-Compare.is) (sym c.in-Ok-None.ensures ∙ c.in-Ok-None.field-0-is)
    (c.compare.ensures _ _ c.translate-left-in-Compare.ensures c.translate-in-Compare.ensures)

pub translate-returns-in-Not : goal.translate-returns-in-Not
translate-returns-in-Not t c =
    by_parts (given_in c.args.scope.now c.args.basis.now) (node.Not c.get-in-Not.result.now) c.args.expr.now _
    (tree.rolls-Not _ ∙ ap tree.Not c.get-in-Not.ensures ∙ sym c.in-Not.is) (sym c.in-Ok-None.ensures ∙ c.in-Ok-None.field-0-is)
    (c.not.ensures _ c.translate-in-Not.ensures)

pub translate-returns-in-Or : goal.translate-returns-in-Or
translate-returns-in-Or t c =
    by_parts (given_in c.args.scope.now c.args.basis.now) (node.Or c.get-in-Or.result.now c.get-in-Or-2.result.now) c.args.expr.now _
    (tree.rolls-Or _ _ ∙ ap₂ tree.Or c.get-in-Or.ensures c.get-in-Or-2.ensures ∙ sym c.in-Or.is) (sym c.in-Ok-None.ensures ∙ c.in-Ok-None.field-0-is)
    (c.or.ensures _ _ c.translate-left-in-Or.ensures c.translate-in-Or.ensures)

pub translate-returns-in-IsNull : goal.translate-returns-in-IsNull
translate-returns-in-IsNull t c =
    by_parts (given_in c.args.scope.now c.args.basis.now) (node.IsNull c.in-IsNull.negated c.get-in-IsNull.result.now) c.args.expr.now _
    (tree.rolls-IsNull _ _ ∙ ap (tree.IsNull c.in-IsNull.negated) c.get-in-IsNull.ensures ∙ sym c.in-IsNull.is) (sym c.in-Ok-None.ensures ∙ c.in-Ok-None.field-0-is)
    (c.is_null.ensures _ c.translate-in-IsNull.ensures)

pub translate-returns-in-Like : goal.translate-returns-in-Like
translate-returns-in-Like t c =
    by_parts (given_in c.args.scope.now c.args.basis.now) (node.Like c.in-Like.negated c.get-in-Like.result.now c.in-Like.pattern) c.args.expr.now _
    (tree.rolls-Like _ _ _ ∙ ap (λ (x : Expr). tree.Like c.in-Like.negated x c.in-Like.pattern) c.get-in-Like.ensures ∙ sym c.in-Like.is) (sym c.in-Ok-None.ensures ∙ c.in-Ok-None.field-0-is)
    (c.like.ensures _ c.translate-in-Like.ensures)

pub translate-returns-in-Between : goal.translate-returns-in-Between
translate-returns-in-Between t c =
    by_parts (given_in c.args.scope.now c.args.basis.now) (node.Between c.in-Between.negated c.get-in-Between.result.now c.get-in-Between-2.result.now c.get-in-Between-3.result.now) c.args.expr.now _
    (tree.rolls-Between _ _ _ _ ∙ (λ i. tree.Between c.in-Between.negated (c.get-in-Between.ensures i) (c.get-in-Between-2.ensures i) (c.get-in-Between-3.ensures i)) ∙ sym c.in-Between.is) (sym c.in-Ok-None.ensures ∙ c.in-Ok-None.field-0-is)
    (c.between.ensures _ _ _ c.translate-subject.ensures c.translate-low.ensures c.translate-in-Between.ensures)

pub translate-returns-in-In : goal.translate-returns-in-In
translate-returns-in-In t c =
    by_parts (given_in c.args.scope.now c.args.basis.now) (node.In c.in-In.negated c.get-in-In.result.now c.as_slice.result.now) c.args.expr.now _
    (tree.rolls-In _ _ _ ∙ ap₂ (tree.In c.in-In.negated) c.get-in-In.ensures c.as_slice.ensures ∙ sym c.in-In.is) (sym c.in-Ok-None.ensures ∙ c.in-Ok-None.field-0-is)
    (c.listed.ensures _ _ c.translate-subject-in-In.ensures c.translate_entries.ensures)

pub translate-returns-in-Coalesce : goal.translate-returns-in-Coalesce
translate-returns-in-Coalesce t c =
    by_parts (given_in c.args.scope.now c.args.basis.now) (node.Coalesce c.as_slice-in-Coalesce.result.now) c.args.expr.now _
    (tree.rolls-Coalesce _ ∙ ap tree.Coalesce c.as_slice-in-Coalesce.ensures ∙ sym c.in-Coalesce.is) (sym c.in-Ok-None.ensures ∙ c.in-Ok-None.field-0-is)
    (c.coalesce.ensures _ c.translate_entries-in-Coalesce.ensures)

pub translate-returns-in-Case : goal.translate-returns-in-Case
translate-returns-in-Case t c =
    by_parts (given_in c.args.scope.now c.args.basis.now) (node.Case c.as_slice-in-Case.result.now c.in-Case.otherwise) c.args.expr.now _
    (tree.rolls-Case _ _ ∙ ap (λ (arms : List Arm). tree.Case arms c.in-Case.otherwise) c.as_slice-in-Case.ensures ∙ sym c.in-Case.is) (sym c.in-Ok-None.ensures ∙ c.in-Ok-None.field-0-is)
    (search (rules, case_parts (given_in c.args.scope.now c.args.basis.now) c.as_slice-in-Case.result.now c.in-Case.otherwise, c.case.ensures _ _ c.translate_arms-arms.ensures c.translate_else.ensures))

pub push_entries-loop-entry-preserved : goal.push_entries-loop-entry-preserved
push_entries-loop-entry-preserved t c =
    let g = translated (given_in c.args.scope.now c.args.basis.now) in
    let front = next_left c.args.entries.now c.loop-entry.entry-index c.entry-item.result _ c.loop-entry-test.true c.entry-item.is in
    goes_on c.loop-entry.out c.put.new.out (g c.entry-item.result) _ _
    (there c.put.result c.in_ok-put.field-0 _ _ c.in_ok-put.was (search rules) (c.put.ensures _ c.translate.ensures))
    (ap (λ (es : List Expr). behind c.loop-entry.out (all_some (map g es))) (sym front) ∙ c.loop-entry.invariant)

pub push_entries-returns-then-not-branch : goal.push_entries-returns-then-not-branch
push_entries-returns-then-not-branch t c =
    let g = translated (given_in c.args.scope.now c.args.basis.now) in
    let front = next_left c.args.entries.now c.loop-entry.entry-index c.entry-item.result _ c.loop-entry-test.true c.entry-item.is in
    stops c.loop-entry.out (g c.entry-item.result) _ _
    (missing c.put.result c.in_ok-put.field-0 c.put.new.out _ c.in_ok-put.was (search rules) (c.put.ensures _ c.translate.ensures))
    (ap (λ (es : List Expr). behind c.loop-entry.out (all_some (map g es))) (sym front) ∙ c.loop-entry.invariant)

pub translate_entries-returns : goal.translate_entries-returns
translate_entries-returns t c = c.list_if.ensures _ (from_none c.push_entries-all.result _ _ _ c.new-list.ensures c.push_entries-all.ensures)

pub push_arms-loop-arm_here-preserved : goal.push_arms-loop-arm_here-preserved
push_arms-loop-arm_here-preserved t c =
    let g = translated_arm (given_in c.args.scope.now c.args.basis.now) in
    let front = next_left c.args.arms.now c.loop-arm_here.arm_here-index c.arm_here-item.result _ c.loop-arm_here-test.true c.arm_here-item.is in
    goes_on c.loop-arm_here.out c.put_arm.new.out (arm_of (g c.arm_here-item.result)) _ _
    (there c.put_arm.result c.in_ok-put_arm.field-0 _ _ c.in_ok-put_arm.was (search rules) (c.put_arm.ensures _ (c.arm.ensures _ _ c.translate-when.ensures c.translate.ensures)))
    (ap (λ (es : List Arm). behind c.loop-arm_here.out (all_some (map arm_of (map g es)))) (sym front) ∙ c.loop-arm_here.invariant)

pub push_arms-returns-then-not-branch : goal.push_arms-returns-then-not-branch
push_arms-returns-then-not-branch t c =
    let g = translated_arm (given_in c.args.scope.now c.args.basis.now) in
    let front = next_left c.args.arms.now c.loop-arm_here.arm_here-index c.arm_here-item.result _ c.loop-arm_here-test.true c.arm_here-item.is in
    stops c.loop-arm_here.out (arm_of (g c.arm_here-item.result)) _ _
    (missing c.put_arm.result c.in_ok-put_arm.field-0 c.put_arm.new.out _ c.in_ok-put_arm.was (search rules) (c.put_arm.ensures _ (c.arm.ensures _ _ c.translate-when.ensures c.translate.ensures)))
    (ap (λ (es : List Arm). behind c.loop-arm_here.out (all_some (map arm_of (map g es)))) (sym front) ∙ c.loop-arm_here.invariant)

pub translate_arms-returns : goal.translate_arms-returns
translate_arms-returns t c = c.list_if.ensures _ (from_none c.push_arms-all.result _ _ _ c.new-list.ensures c.push_arms-all.ensures)
