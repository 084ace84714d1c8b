-- Proofs of the goals of `plans_agree` (`laws`).
use Rattle.planner.proofs.PlansAgree.{plans_agree}
use Rattle.planner.proofs.laws.plans_agree.Goals as goal

pub returns : goal.returns
returns c = plans_agree
