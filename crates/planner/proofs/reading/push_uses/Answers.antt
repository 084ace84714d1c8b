-- Proofs of the goals of `push_uses` (`reading`).
use Rattle.std.proofs.Common.{List, ◌++◌, map, filter, ap, sym, ◌∙◌}
use Rattle.planner_expressions.specs.declared.scope.ScopeColumn.{ScopeColumn}
use Rattle.planner_expressions.proofs.Steps.{next_left}
use Rattle.planner.specs.Planned.{is_read, use_of}
use Rattle.planner.proofs.Uses.{uses_step}
use Rattle.planner.proofs.reading.push_uses.Goals as goal

pub loop-column-preserved : goal.loop-column-preserved
loop-column-preserved c =
    let front = next_left c.args.columns.now c.loop-column.column-index c.column-item.result _ c.loop-column-test.true c.column-item.is in
    uses_step (is_read c.args.query.now c.args.join) c.loop-column.out c.push_use.new.out c.column-item.result _ c.in_ok-push_use.ensures
    ∙ ap (λ (ps : List ScopeColumn). c.loop-column.out ++ map use_of (filter (is_read c.args.query.now c.args.join) ps)) (sym front)
    ∙ c.loop-column.invariant
