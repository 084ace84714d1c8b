-- Proofs of the goals of `spelled_answer` (`working`).
use Rattle.std.proofs.Common.{inl}
use Rattle.std.proofs.lemmas.Result.{err_from_is_err_and}
use Rattle.jobs.proofs.Refusals.{no_job}
use Rattle.jobs.proofs.working.spelled_answer.Goals as goal

pub returns-in_err-job-clause-refused : goal.returns-in_err-job-clause-refused
returns-in_err-job-clause-refused g c =
    let holds = g.F.Folder.holds c.args.folder.now in
    let command = c.args.command.now in
    let p = err_from_is_err_and c.from_residual.result c.from_residual.ensures.1 in
    rw (p.1, p.2) (inl (no_job holds command.folder command.query c.as_str.result.now c.as_str-2.result.now c.in_err-job.field-0.0 c.as_str.ensures c.as_str-2.ensures c.in_err-job.ensures.refused))
