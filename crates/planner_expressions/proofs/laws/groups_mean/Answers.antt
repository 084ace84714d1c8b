-- Proofs of the goals of `groups_mean` (`laws`).
use Rattle.planner_expressions.proofs.Meaning.{groups_mean}
use Rattle.planner_expressions.proofs.laws.groups_mean.Goals as goal

pub returns : goal.returns
returns c = groups_mean
