-- Proofs of the goals of `answer` (`running`).
use Rattle.std.proofs.Common.{sym}
use Rattle.std.proofs.lemmas.Result.{err_from_is_err_and}
use Rattle.folders.specs.Folder.{AreHeld, catalog_path}
use Rattle.cli.proofs.Questions.{done, refused}
use Rattle.cli.proofs.running.answer.Goals as goal

pub returns-clause-done : goal.returns-clause-done
returns-clause-done g c =
    let declared = sym (c.in_ok-catalog.ensures.value (λ is. cc is)) in
    let held : AreHeld (g.F.Folder.holds c.args.folder.now (catalog_path c.args.request.now.directory.now)) c.as_slice.result.now = rw c.as_slice.ensures.value c.in_ok-bytes.ensures.held in
    done (g.F.Folder.holds c.args.folder.now) c.args.request.now.directory.now c.in_ok-catalog.catalog c.args.request.now.query.now c.args.request.now.rows c.args.request.now.vector c.as_slice.result.now held declared
    (g.O.Write.contents c.args.out.now) (g.O.Write.contents c.answer_declared-ended.new.out) c.in_ok-ended.field-0 c.status_of.result c.status_of.ensures c.in_ok-ended.ensures.answered

pub returns-in_err-ended-clause-refused : goal.returns-in_err-ended-clause-refused
returns-in_err-ended-clause-refused g c =
    let declared = sym (c.in_ok-catalog.ensures.value (λ is. cc is)) in
    let held : AreHeld (g.F.Folder.holds c.args.folder.now (catalog_path c.args.request.now.directory.now)) c.as_slice.result.now = rw c.as_slice.ensures.value c.in_ok-bytes.ensures.held in
    let p = err_from_is_err_and c.from_residual-in_err-ended.result c.from_residual-in_err-ended.ensures.1 in
    rw (p.1, p.2) (refused (g.F.Folder.holds c.args.folder.now) c.args.request.now.directory.now c.in_ok-catalog.catalog c.args.request.now.query.now c.args.request.now.rows c.args.request.now.vector c.as_slice.result.now held declared c.in_err-ended.field-0.0 c.in_err-ended.ensures.refused)

pub returns-in_err-ended-clause-unread : goal.returns-in_err-ended-clause-unread
returns-in_err-ended-clause-unread g c =
    let declared = sym (c.in_ok-catalog.ensures.value (λ is. cc is)) in
    let p = err_from_is_err_and c.from_residual-in_err-ended.result c.from_residual-in_err-ended.ensures.1 in
    rw (p.1, p.2) (c.in_err-ended.ensures.unread c.as_slice.result.now declared)
