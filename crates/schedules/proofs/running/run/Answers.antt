-- Proofs of the goals of `run` (`running`).
use Rattle.std.proofs.Common.{map, subst, sym}
use Rattle.schedules.specs.World.{AreCoordinators, event_of}
use Rattle.schedules.proofs.Runs.{ended, next}
use Rattle.schedules.proofs.running.run.Goals as goal

pub loop-event-preserved : goal.loop-event-preserved
loop-event-preserved c = next c.args.job.now c.args.n c.args.events.now c.loop-event.event-index c.event-item.result c.loop-event.world c.step.new.self c.loop-event-test.true c.event-item.is c.loop-event.invariant c.in_ok-step.ensures

pub returns : goal.returns
returns c = subst (λ gathers. AreCoordinators c.args.job.now c.args.n (map (event_of c.args.job.now) c.args.events.now) gathers.items) (sym c.into_gathers.ensures)
    (ended c.args.job.now c.args.n c.args.events.now c.loop-event.event-index c.loop-event.world c.loop-event-test.false c.loop-event.invariant)
