-- Proofs of the goals of `report_from_journal` (`gather_command`).
use Rattle.std.proofs.Common.{inl}
use Rattle.std.proofs.lemmas.Result.{IfErr-weaker, err_from_is_err_and}
use Rattle.folders.proofs.Others.{other_tried}
use Rattle.jobs.proofs.Printed.{together_apart}
use Rattle.jobs.proofs.Unwritten.{together_other}
use Rattle.jobs.proofs.gather_command.report_from_journal.Goals as goal

pub returns-in_err-durable-clause-refused : goal.returns-in_err-durable-clause-refused
returns-in_err-durable-clause-refused g c =
    let p = err_from_is_err_and c.from_residual.result c.from_residual.ensures.1 in
    rw (p.1, p.2) (inl c.in_err-durable.ensures.refused)

pub returns-in_err-durable-clause-unwritten : goal.returns-in_err-durable-clause-unwritten
returns-in_err-durable-clause-unwritten g c =
    let e = c.in_err-durable.field-0.0 in
    let p = err_from_is_err_and c.from_residual.result c.from_residual.ensures.1 in
    rw (p.1, p.2) (other_tried (g.F.Folder.tries c.args.folder.now) e (together_other (g.F.Folder.holds c.args.folder.now) c.args.command.now e c.in_err-durable.ensures.refused))

pub returns-in_err-durable-clause-saved : goal.returns-in_err-durable-clause-saved
returns-in_err-durable-clause-saved g c =
    let e = c.in_err-durable.field-0.0 in
    let p = err_from_is_err_and c.from_residual.result c.from_residual.ensures.1 in
    rw (p.1, p.2) (λ is. absurd (together_apart (g.F.Folder.holds c.args.folder.now) c.args.command.now e c.in_err-durable.ensures.refused is))

pub returns-clause-saved : goal.returns-clause-saved
returns-clause-saved g c =
    IfErr-weaker c.save_and_show_durable-report.result _ _ (λ e saved is. (c.in_ok-durable.durable.gather, _, c.in_ok-durable.ensures.gathered, saved is)) c.save_and_show_durable-report.ensures.saved
