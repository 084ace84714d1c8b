-- Proofs of the goals of `scopes_are_tables` (`laws`).
use Rattle.planner_expressions.proofs.Tables.{scopes_are_tables}
use Rattle.planner_expressions.proofs.laws.scopes_are_tables.Goals as goal

pub returns : goal.returns
returns c = scopes_are_tables
