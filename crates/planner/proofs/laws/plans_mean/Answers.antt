-- Proofs of the goals of `plans_mean` (`laws`).
use Rattle.planner.proofs.PlansMean.{plans_mean}
use Rattle.planner.proofs.laws.plans_mean.Goals as goal

pub returns : goal.returns
returns c = plans_mean
