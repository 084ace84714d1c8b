-- Proofs of the goals of `restored` (`copying`).
use Rattle.schedules.proofs.Taken.{restored_as}
use Rattle.schedules.proofs.copying.restored.Goals as goal

pub returns-in-Ok : goal.returns-in-Ok
returns-in-Ok c = λ answers held.
    restored_as c.args.job.now c.in_ok-copy_job-in-Some.field-0 c.in-Ok.gather c.in-Some.bytes c.deref.result.now c.args.saved.now answers c.plan-plan.ensures.within_limits c.in_ok-copy_job-in-Some.ensures c.in-Ok.ensures.reads.0 c.in-Ok.ensures.reads.1
    c.in-Some.is c.deref.ensures.value held
