-- Proofs of the goals of `spelled_trees_mean` (`laws`).
use Rattle.planner_expressions.proofs.AlikeTrees.{spelled_mean}
use Rattle.planner_expressions.proofs.laws.spelled_trees_mean.Goals as goal

pub returns : goal.returns
returns c = spelled_mean
