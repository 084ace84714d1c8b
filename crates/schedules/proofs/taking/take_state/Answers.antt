-- Proofs of the goals of `take_state` (`taking`).
use Rattle.std.proofs.Common.{subst}
use Rattle.partial_codec.specs.Job.{IsJob}
use Rattle.schedules.proofs.Taken.{shared_with}
use Rattle.schedules.proofs.taking.take_state.Goals as goal

pub returns-in-Ok : goal.returns-in-Ok
returns-in-Ok c = λ job answers others held there.
    shared_with job c.args.bytes.now c.args.gather.now c.absorb_state.new.self c.in-Ok.ensures.joins.0 answers others (subst IsJob c.job.ensures.value c.plan-plan.ensures.within_limits) c.in-Ok.ensures.joins.1 c.in-Ok.ensures.joins.2 held there
