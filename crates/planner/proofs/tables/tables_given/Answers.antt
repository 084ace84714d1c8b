-- Proofs of the goals of `tables_given` (`tables`).
use Rattle.planner.proofs.Parting.{tables_given}
use Rattle.planner.proofs.tables.tables_given.Goals as goal

pub returns-in-Ok : goal.returns-in-Ok
returns-in-Ok c =
    tables_given c.args.scope.now c.args.query.now c.args.fact.now c.args.conjuncts _ c.joins.result c.in-Ok.joins c.tables_from.result
    c.requires c.as_slice.ensures c.in-Ok.is c.joins.ensures (c.tables_from.ensures _ c.table_use-fact.ensures)
