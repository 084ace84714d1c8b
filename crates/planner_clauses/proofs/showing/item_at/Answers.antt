-- Proofs of the goals of `item_at` (`showing`).
use Rattle.planner_clauses.proofs.Reporting.{goes}
use Rattle.planner_clauses.proofs.showing.item_at.Goals as goal

pub returns-in-Ok : goal.returns-in-Ok
returns-in-Ok c = goes c.over_group.result _ c.in-Ok.found _ c.with_name.result c.in-Ok.is c.over_group.ensures (c.with_name.ensures _ c.header.ensures)
