-- Proofs of the goals of `answer_fragment` (`working`).
use Rattle.std.proofs.Common.{inl, sym, subst, ◌∙◌}
use Rattle.std.proofs.lemmas.Result.{err_from_is_err_and, on_ok_weaker}
use Rattle.jobs.specs.Working.{IsSpelled}
use Rattle.jobs.proofs.OwnAnswers.{own_spelled}
use Rattle.folders.proofs.Others.{other_tried}
use Rattle.jobs.proofs.Unwritten.{spelled_other}
use Rattle.jobs.proofs.working.answer_fragment.Goals as goal

pub returns-in_err-bytes-clause-refused : goal.returns-in_err-bytes-clause-refused
returns-in_err-bytes-clause-refused g c =
    let p = err_from_is_err_and c.from_residual.result c.from_residual.ensures.1 in
    rw (p.1, p.2) (inl c.in_err-bytes.ensures.refused)

pub returns-clause-own : goal.returns-clause-own
returns-clause-own g c = on_ok_weaker c.write_file.result (λ written rows tables old known.
    let holds = g.F.Folder.holds c.args.folder.now in
    let command = c.args.command.now in
    let (bytes, same, is) = written old known in
    (bytes, same, own_spelled holds command rows tables bytes (subst (IsSpelled holds command) (sym (is ∙ c.as_slice.ensures.value)) c.in_ok-bytes.ensures.spelled))) c.write_file.ensures.written

pub returns-in_err-bytes-clause-unwritten : goal.returns-in_err-bytes-clause-unwritten
returns-in_err-bytes-clause-unwritten g c =
    let e = c.in_err-bytes.field-0.0 in
    let p = err_from_is_err_and c.from_residual.result c.from_residual.ensures.1 in
    rw (p.1, p.2) (other_tried (g.F.Folder.tries c.args.folder.now) e (spelled_other (g.F.Folder.holds c.args.folder.now) c.args.command.now e c.in_err-bytes.ensures.refused))
