-- Proofs of the goals of `plans_are_declared` (`laws`).
use Rattle.planner.proofs.DeclaredColumns.{plans_are_declared}
use Rattle.planner.proofs.laws.plans_are_declared.Goals as goal

pub returns : goal.returns
returns c = plans_are_declared
