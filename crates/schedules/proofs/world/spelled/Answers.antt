-- Proofs of the goals of `spelled` (`world`).
use Rattle.schedules.proofs.Taken.{spelled_as}
use Rattle.schedules.proofs.world.spelled.Goals as goal

pub returns-in-Ok : goal.returns-in-Ok
returns-in-Ok c = λ job answers held. spelled_as job c.args.gather.now c.in-Ok.bytes.items answers c.job-job.ensures.sound c.in-Ok.ensures.spelled held
