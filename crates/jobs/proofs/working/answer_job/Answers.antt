-- Proofs of the goals of `answer_job` (`working`).
use Rattle.std.proofs.Common.{List, ℕ, subst}
use Rattle.std.proofs.lemmas.Result.{IfErr-weaker, err_from_is_err_and}
use Rattle.jobs.proofs.FirstUnread.{dims_unread, fragment_unread}
use Rattle.jobs.specs.Working.{IsReaderRefused}
use Rattle.jobs.proofs.ReadFiles.{files_unread}
use Rattle.jobs.proofs.working.answer_job.Goals as goal

pub returns-in_err-path-clause-first : goal.returns-in_err-path-clause-first
returns-in_err-path-clause-first g c =
    let p = err_from_is_err_and c.from_residual.result c.from_residual.ensures.1 in
    rw (p.1, p.2) (fragment_unread (g.F.Folder.opens c.args.folder.now) c.args.command.now c.args.job.now c.plan-plan.result.now c.as_str-directory.result.now c.as_str.result.now c.in_err-path.field-0.0
    c.as_str-directory.ensures c.as_str.ensures c.plan-plan.ensures.value c.in_err-path.ensures.refused)

pub returns-in_err-dims-clause-first : goal.returns-in_err-dims-clause-first
returns-in_err-dims-clause-first g c =
    let p = err_from_is_err_and c.from_residual-in_err-dims.result c.from_residual-in_err-dims.ensures.1 in
    rw (p.1, p.2) (dims_unread (g.F.Folder.opens c.args.folder.now) c.args.command.now c.args.job.now c.plan-plan.result.now c.as_str-directory.result.now c.as_str.result.now c.as_slice.result.now c.in_err-dims.field-0.0
    c.as_str-directory.ensures c.as_str.ensures c.plan-plan.ensures.value c.as_slice.ensures c.in_ok-path.ensures.opened c.in_err-dims.ensures.first)

pub returns-clause-first : goal.returns-clause-first
returns-clause-first g c =
    let command = c.args.command.now in
    IfErr-weaker c.answer_files.result _ _
    (λ e refused. files_unread (g.F.Folder.holds c.args.folder.now) (g.F.Folder.opens c.args.folder.now) command c.args.job.now c.plan-plan.result.now c.as_str-directory.result.now c.as_str.result.now c.in_ok-path.path c.as_slice.result.now (g.F.Reader.Read.remaining c.in_ok-path.fragment) c.in_ok-dims.dims.items
    c.as_str-directory.ensures c.as_str.ensures c.plan-plan.ensures.value c.as_slice.ensures c.in_ok-path.ensures.path c.in_ok-path.ensures.held c.in_ok-dims.ensures.held e
    (subst (λ (ds : List (List ℕ)). IsReaderRefused c.args.job.now command.fragment command.vector c.in_ok-path.path (g.F.Reader.Read.remaining c.in_ok-path.fragment) ds e) c.as_slice-2.ensures.value refused))
    c.answer_files.ensures.refused
