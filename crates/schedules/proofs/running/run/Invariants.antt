-- Loop invariants of `run` (`running`).
use Rattle.schedules.specs.World.{Stands}
use Rattle.schedules.proofs.Runs.{heard_by}
use Rattle.schedules.proofs.running.run.Given as goal

abbrev pub invariant-loop-event : goal.invariant-loop-event
invariant-loop-event l = Stands l.job l.world (heard_by l.job l.n l.events l.event-index)
