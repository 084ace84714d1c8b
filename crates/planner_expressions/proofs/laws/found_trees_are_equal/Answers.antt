-- Proofs of the goals of `found_trees_are_equal` (`laws`).
use Rattle.planner_expressions.proofs.FullNames.{found_alike}
use Rattle.planner_expressions.proofs.laws.found_trees_are_equal.Goals as goal

pub returns : goal.returns
returns c = found_alike
