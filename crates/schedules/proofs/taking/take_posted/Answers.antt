-- Proofs of the goals of `take_posted` (`taking`).
use Rattle.std.proofs.Common.{subst}
use Rattle.partial_codec.specs.Job.{IsJob}
use Rattle.schedules.proofs.Taken.{posted}
use Rattle.schedules.proofs.taking.take_posted.Goals as goal

pub returns-in-Ok : goal.returns-in-Ok
returns-in-Ok c = λ job answers held.
    posted job c.args.bytes.now c.args.gather.now c.absorb.new.self c.in-Ok.field-0 answers (subst IsJob c.job.ensures.value c.plan-plan.ensures.within_limits) c.in-Ok.ensures.takes c.in-Ok.ensures.joins held
