-- Proofs of the goals of `plans_are_typed` (`laws`).
use Rattle.planner.proofs.TypedPlans.{plans_are_typed}
use Rattle.planner.proofs.laws.plans_are_typed.Goals as goal

pub returns : goal.returns
returns c = plans_are_typed
