-- Proofs of the goals of `rows_mean` (`laws`).
use Rattle.planner_expressions.proofs.Meaning.{rows_mean}
use Rattle.planner_expressions.proofs.laws.rows_mean.Goals as goal

pub returns : goal.returns
returns c = rows_mean
