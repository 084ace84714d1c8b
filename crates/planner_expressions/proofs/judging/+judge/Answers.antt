-- Proofs of the goals of `+judge` (`judging`).
use Rattle.std.proofs.Common.{rules, ap, sym, ◌∙◌}
use Rattle.sql_syntax.specs.declared.tree.Expr.TheFolds.{the_lemmas}
use Rattle.sql_syntax.specs.declared.tree.Expr.{Expr}
use Rattle.planner_expressions.specs.Judged.{judged}
use Rattle.planner_expressions.proofs.Sorting.{listed_is, coalesced_is, without_is, with_is}
use Rattle.planner_expressions.proofs.judging.+judge.Goals as goal

pub judge-returns-in-Ok : goal.judge-returns-in-Ok
judge-returns-in-Ok t c =
    search (
      rules,
      the_lemmas,
      listed_is _ _ _ _ _ _ _ (sym c.judge-in-In.ensures ∙ c.in-Ok.is) c.none.ensures c.with.ensures c.judge_entries.ensures c.listed.ensures,
    )

pub judge-returns-in-Coalesce : goal.judge-returns-in-Coalesce
judge-returns-in-Coalesce t c =
    search (rules, the_lemmas, coalesced_is _ _ _ _ c.none-in-Coalesce.ensures c.judge_entries-in-Coalesce.ensures c.coalesced.ensures)

pub judge-returns-in-Some : goal.judge-returns-in-Some
judge-returns-in-Some t c =
    let value = c.judge-in-Some.ensures ∙ ap (λ (e : Expr). judged c.args.scope.now e c.args.barred) c.get-in-Some.ensures in
    with_is c.args.scope.now c.args.barred _ _ _ _ _ _ _ _ _ c.in-Case.is c.in-Some.is c.as_slice-in-Case.ensures value c.judge_arms.ensures c.in-Ok-judge_arms.is c.with_else.ensures

pub judge-returns-in-None : goal.judge-returns-in-None
judge-returns-in-None t c = search (rules, the_lemmas, without_is _ _ _ _ c.judge_arms.ensures c.in-Ok-judge_arms.is c.without_else.ensures)
