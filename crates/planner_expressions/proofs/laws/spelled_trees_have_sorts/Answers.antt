-- Proofs of the goals of `spelled_trees_have_sorts` (`laws`).
use Rattle.planner_expressions.proofs.AlikeTrees.{spelled_sorts}
use Rattle.planner_expressions.proofs.laws.spelled_trees_have_sorts.Goals as goal

pub returns : goal.returns
returns c = spelled_sorts
