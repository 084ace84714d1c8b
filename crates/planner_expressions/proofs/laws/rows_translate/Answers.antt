-- Proofs of the goals of `rows_translate` (`laws`).
use Rattle.planner_expressions.proofs.Accepted.{rows_translate}
use Rattle.planner_expressions.proofs.laws.rows_translate.Goals as goal

pub returns : goal.returns
returns c = rows_translate
