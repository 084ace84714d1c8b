-- Proofs of the goals of `rows_are_typed` (`laws`).
use Rattle.planner_expressions.proofs.TypedRows.{rows_are_typed}
use Rattle.planner_expressions.proofs.laws.rows_are_typed.Goals as goal

pub returns : goal.returns
returns c = rows_are_typed
