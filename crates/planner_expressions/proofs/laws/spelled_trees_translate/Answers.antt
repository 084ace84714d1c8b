-- Proofs of the goals of `spelled_trees_translate` (`laws`).
use Rattle.planner_expressions.proofs.AlikeTrees.{spelled_translate}
use Rattle.planner_expressions.proofs.laws.spelled_trees_translate.Goals as goal

pub returns : goal.returns
returns c = spelled_translate
