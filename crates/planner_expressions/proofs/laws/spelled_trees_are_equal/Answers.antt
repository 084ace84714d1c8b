-- Proofs of the goals of `spelled_trees_are_equal` (`laws`).
use Rattle.planner_expressions.proofs.FullNames.{spelled_alike}
use Rattle.planner_expressions.proofs.laws.spelled_trees_are_equal.Goals as goal

pub returns : goal.returns
returns c = spelled_alike
