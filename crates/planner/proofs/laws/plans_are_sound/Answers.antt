-- Proofs of the goals of `plans_are_sound` (`laws`).
use Rattle.planner.proofs.SoundPlans.{plans_are_sound}
use Rattle.planner.proofs.laws.plans_are_sound.Goals as goal

pub returns : goal.returns
returns c = plans_are_sound
