-- Proofs of the goals of `+gather` (`aggregates`).
use Rattle.std.proofs.Common.{rules, ◌≡◌, ◌+◌, true, false, List, map, drop, option_map, option_to_list, ap, ap₂, sym, ◌∙◌}
use Rattle.sql_syntax.specs.declared.tree.Arm.{Arm}
use Rattle.sql_syntax.specs.declared.tree.Expr.{Expr}
use Rattle.sql_syntax.specs.declared.tree.Expr.TheOpen as node
use Rattle.sql_syntax.specs.declared.tree.Expr.TheVariants as tree
use Rattle.sql_syntax.specs.declared.tree.Expr.TheFolds.{the_lemmas}
use Rattle.planner_clauses.specs.declared.aggregates.Aggregates.{Aggregates}
use Rattle.planner_clauses.specs.Aggregates.{is_aggregate, aggregates_in, arm_aggregates, arm_parts, with_aggregates, with_parts}
use Rattle.planner_clauses.proofs.Topmost.{if_so}
use Rattle.planner_clauses.proofs.Gathering.{at_node, at_aggregate, case_parts}
use Rattle.planner_expressions.proofs.Steps.{next_left}
use Rattle.planner_clauses.proofs.aggregates.+gather.Goals as goal

pub gather-returns-in-Aggregate : goal.gather-returns-in-Aggregate
gather-returns-in-Aggregate t c =
    let there : is_aggregate c.args.expr.now ≡ true = search (rules, the_lemmas) in
    if_so c.add-in-Aggregate.result (at_aggregate c.args.scope.now c.args.out.now c.add-in-Aggregate.new.out c.args.expr.now there) c.add-in-Aggregate.ensures

pub gather-returns-in-Arithmetic : goal.gather-returns-in-Arithmetic
gather-returns-in-Arithmetic t c =
    let other : is_aggregate c.args.expr.now ≡ false = search (rules, the_lemmas) in
    let is = tree.rolls-Arithmetic _ _ _ ∙ ap₂ (tree.Arithmetic c.in-Arithmetic.operator) c.get-in-Arithmetic.ensures c.get-in-Arithmetic-2.ensures ∙ sym c.in-Arithmetic.is in
    if_so c.gather_two.result
    (λ new. new ∙ at_node c.args.scope.now c.args.out.now (node.Arithmetic c.in-Arithmetic.operator c.get-in-Arithmetic.result.now c.get-in-Arithmetic-2.result.now) c.args.expr.now is other)
    c.gather_two.ensures

pub gather-returns-in-Compare : goal.gather-returns-in-Compare
gather-returns-in-Compare t c =
    let other : is_aggregate c.args.expr.now ≡ false = search (rules, the_lemmas) in
    let is = tree.rolls-Compare _ _ _ ∙ ap₂ (tree.Compare c.in-Compare.operator) c.get-in-Compare.ensures c.get-in-Compare-2.ensures ∙ sym c.in-Compare.is in
    if_so c.gather_two-in-Compare.result
    (λ new. new ∙ at_node c.args.scope.now c.args.out.now (node.Compare c.in-Compare.operator c.get-in-Compare.result.now c.get-in-Compare-2.result.now) c.args.expr.now is other)
    c.gather_two-in-Compare.ensures

pub gather-returns-in-And : goal.gather-returns-in-And
gather-returns-in-And t c =
    let other : is_aggregate c.args.expr.now ≡ false = search (rules, the_lemmas) in
    let is = tree.rolls-And _ _ ∙ ap₂ tree.And c.get-in-And.ensures c.get-in-And-2.ensures ∙ sym c.in-And.is in
    if_so c.gather_two-in-And.result
    (λ new. new ∙ at_node c.args.scope.now c.args.out.now (node.And c.get-in-And.result.now c.get-in-And-2.result.now) c.args.expr.now is other)
    c.gather_two-in-And.ensures

pub gather-returns-in-Or : goal.gather-returns-in-Or
gather-returns-in-Or t c =
    let other : is_aggregate c.args.expr.now ≡ false = search (rules, the_lemmas) in
    let is = tree.rolls-Or _ _ ∙ ap₂ tree.Or c.get-in-Or.ensures c.get-in-Or-2.ensures ∙ sym c.in-Or.is in
    if_so c.gather_two-in-Or.result
    (λ new. new ∙ at_node c.args.scope.now c.args.out.now (node.Or c.get-in-Or.result.now c.get-in-Or-2.result.now) c.args.expr.now is other)
    c.gather_two-in-Or.ensures

pub gather-returns-in-Between : goal.gather-returns-in-Between
gather-returns-in-Between t c =
    let other : is_aggregate c.args.expr.now ≡ false = search (rules, the_lemmas) in
    let is = tree.rolls-Between _ _ _ _ ∙ (λ i. tree.Between c.in-Between.negated (c.get-in-Between.ensures i) (c.get-in-Between-2.ensures i) (c.get-in-Between-3.ensures i)) ∙ sym c.in-Between.is in
    if_so c.gather_three.result
    (λ new. new ∙ at_node c.args.scope.now c.args.out.now (node.Between c.in-Between.negated c.get-in-Between.result.now c.get-in-Between-2.result.now c.get-in-Between-3.result.now) c.args.expr.now is other)
    c.gather_three.ensures

pub gather-returns-in-In : goal.gather-returns-in-In
gather-returns-in-In t c =
    let other : is_aggregate c.args.expr.now ≡ false = search (rules, the_lemmas) in
    let is = tree.rolls-In _ _ _ ∙ ap₂ (tree.In c.in-In.negated) c.get-in-In.ensures c.as_slice.ensures ∙ sym c.in-In.is in
    if_so c.gather_in.result
    (λ new. new ∙ at_node c.args.scope.now c.args.out.now (node.In c.in-In.negated c.get-in-In.result.now c.as_slice.result.now) c.args.expr.now is other)
    c.gather_in.ensures

pub gather-returns-in-Coalesce : goal.gather-returns-in-Coalesce
gather-returns-in-Coalesce t c =
    let other : is_aggregate c.args.expr.now ≡ false = search (rules, the_lemmas) in
    let is = tree.rolls-Coalesce _ ∙ ap tree.Coalesce c.as_slice-in-Coalesce.ensures ∙ sym c.in-Coalesce.is in
    if_so c.gather_entries.result
    (λ new. new ∙ at_node c.args.scope.now c.args.out.now (node.Coalesce c.as_slice-in-Coalesce.result.now) c.args.expr.now is other)
    c.gather_entries.ensures

pub gather-returns-in_ok-gather_arms-in-Case : goal.gather-returns-in_ok-gather_arms-in-Case
gather-returns-in_ok-gather_arms-in-Case t c =
    let other : is_aggregate c.args.expr.now ≡ false = search (rules, the_lemmas) in
    let is = tree.rolls-Case _ _ ∙ ap (λ (arms : List Arm). tree.Case arms c.in-Case.otherwise) c.as_slice-in-Case.ensures ∙ sym c.in-Case.is in
    if_so c.gather_else.result
    (λ new. new
    ∙ ap (λ (m : Aggregates). with_parts c.args.scope.now m (option_to_list (option_map aggregates_in c.in-Case.otherwise))) c.in_ok-gather_arms-in-Case.ensures
    ∙ case_parts c.args.scope.now c.args.out.now c.as_slice-in-Case.result.now c.in-Case.otherwise
    ∙ at_node c.args.scope.now c.args.out.now (node.Case c.as_slice-in-Case.result.now c.in-Case.otherwise) c.args.expr.now is other)
    c.gather_else.ensures

pub gather_entries-loop-entry-preserved : goal.gather_entries-loop-entry-preserved
gather_entries-loop-entry-preserved t c =
    let s = c.args.scope.now in
    let front = next_left c.args.entries.now c.loop-entry.entry-index c.entry-item.result _ c.loop-entry-test.true c.entry-item.is in
    ap (λ (new : Aggregates). with_parts s new (map aggregates_in (drop (c.loop-entry.entry-index + 1) c.args.entries.now))) c.in_ok-gather.ensures
    ∙ ap (λ (es : List Expr). with_parts s c.loop-entry.out (map aggregates_in es)) (sym front)
    ∙ c.loop-entry.invariant

pub gather_arms-loop-arm-preserved : goal.gather_arms-loop-arm-preserved
gather_arms-loop-arm-preserved t c =
    let s = c.args.scope.now in
    let front = next_left c.args.arms.now c.loop-arm.arm-index c.arm-item.result _ c.loop-arm-test.true c.arm-item.is in
    ap (λ (new : Aggregates). with_parts s new (arm_parts (map arm_aggregates (drop (c.loop-arm.arm-index + 1) c.args.arms.now))))
    (c.in_ok-gather-2.ensures ∙ ap (λ (new : Aggregates). with_aggregates s new (aggregates_in c.arm-item.result.value)) c.in_ok-gather.ensures)
    ∙ ap (λ (list : List Arm). with_parts s c.loop-arm.out (arm_parts (map arm_aggregates list))) (sym front)
    ∙ c.loop-arm.invariant
