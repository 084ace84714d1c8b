-- Proofs of the goals of `gather_in_memory` (`gather_command`).
use Rattle.std.proofs.Common.{ap, false, inl, inr, subst}
use Rattle.std.proofs.lemmas.Result.{err_from_is_err_and}
use Rattle.jobs.specs.Gathering.{has_journal}
use Rattle.jobs.specs.Job.{IsJobOf}
use Rattle.jobs.proofs.Gathered.{files_unread, gathered_in_memory, taking_refused}
use Rattle.jobs.proofs.Refusals.{no_job}
use Rattle.jobs.proofs.gather_command.gather_in_memory.Goals as goal

pub returns-in_err-job-clause-refused : goal.returns-in_err-job-clause-refused
returns-in_err-job-clause-refused g c =
    let holds = g.F.Folder.holds c.args.folder.now in
    let command = c.args.command.now in
    let p = err_from_is_err_and c.from_residual.result c.from_residual.ensures.1 in
    rw (p.1, p.2) (inl (no_job holds command.folder command.query c.as_str.result.now c.as_str-2.result.now c.in_err-job.field-0.0 c.as_str.ensures c.as_str-2.ensures c.in_err-job.ensures.refused))

pub returns-in-Ok-clause-gathered : goal.returns-in-Ok-clause-gathered
returns-in-Ok-clause-gathered g c =
    let holds = g.F.Folder.holds c.args.folder.now in
    let command = c.args.command.now in
    gathered_in_memory holds command c.in_ok-job.job c.as_slice.result.now (g.E.Write.contents c.args.err.now) (g.E.Write.contents c.take_files.new.err) c.in_ok-gather.gather c.take_files.new.taker
    (subst (λ f. IsJobOf holds f command.query c.in_ok-job.job) c.as_str.ensures (subst (λ q. IsJobOf holds c.as_str.result.now q c.in_ok-job.job) c.as_str-2.ensures c.in_ok-job.ensures.job))
    c.in_ok-gather.ensures.job c.as_slice.ensures c.requires c.in_ok-gather.ensures.cells c.in-Ok.ensures.took

pub returns-in-Err-clause-refused : goal.returns-in-Err-clause-refused
returns-in-Err-clause-refused g c =
    let holds = g.F.Folder.holds c.args.folder.now in
    let command = c.args.command.now in
    inr (
      c.in_ok-job.job,
      subst (λ f. IsJobOf holds f command.query c.in_ok-job.job) c.as_str.ensures (subst (λ q. IsJobOf holds c.as_str.result.now q c.in_ok-job.job) c.as_str-2.ensures c.in_ok-job.ensures.job),
      inr (taking_refused false holds command.journal c.as_slice.result.now command.files c.in-Err.refusal (ap has_journal c.requires) c.as_slice.ensures c.in-Err.ensures.refused),
    )

pub returns-in-Err-clause-first : goal.returns-in-Err-clause-first
returns-in-Err-clause-first g c =
    files_unread (g.F.Folder.opens c.args.folder.now) (g.F.Folder.shuts c.args.folder.now) c.args.command.now c.as_slice.result.now c.in-Err.refusal c.as_slice.ensures c.in-Err.ensures.first
