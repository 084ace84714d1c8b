-- Proofs of the goals of `plans_serve` (`laws`).
use Rattle.planner.proofs.TypedPlans.{plans_serve}
use Rattle.planner.proofs.laws.plans_serve.Goals as goal

pub returns : goal.returns
returns c = plans_serve
