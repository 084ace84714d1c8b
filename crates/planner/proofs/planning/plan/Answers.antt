-- Proofs of the goals of `plan` (`planning`).
use Rattle.planner.proofs.SoundPlans.{sound_returned}
use Rattle.planner.proofs.TypedPlans.{typed_returned}
use Rattle.planner.proofs.planning.plan.Goals as goal

pub returns-clause-typed : goal.returns-clause-typed
returns-clause-typed c = typed_returned c.args.catalog.now c.args.query.now c.plan_returned.result c.plan_returned.ensures

pub returns-clause-sound : goal.returns-clause-sound
returns-clause-sound c = sound_returned c.args.catalog.now c.args.query.now c.plan_returned.result c.plan_returned.ensures
