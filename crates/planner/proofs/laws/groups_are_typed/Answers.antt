-- Proofs of the goals of `groups_are_typed` (`laws`).
use Rattle.planner.proofs.GroupTypes.{groups_are_typed}
use Rattle.planner.proofs.laws.groups_are_typed.Goals as goal

pub returns : goal.returns
returns c = groups_are_typed
