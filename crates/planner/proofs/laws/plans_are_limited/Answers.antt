-- Proofs of the goals of `plans_are_limited` (`laws`).
use Rattle.planner.proofs.LimitedPlans.{plans_are_limited}
use Rattle.planner.proofs.laws.plans_are_limited.Goals as goal

pub returns : goal.returns
returns c = plans_are_limited
