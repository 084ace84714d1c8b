-- Proofs of the goals of `save_written` (`load`).
use Rattle.std.proofs.Common.{List, inl, inr}
use Rattle.std.proofs.lemmas.Result.{on_err_weaker, on_ok_weaker}
use Rattle.columns.specs.Column.{ColumnSpec}
use Rattle.loads.specs.Loading.{AreFragmentsClosed}
use Rattle.loads.proofs.HandedOn.{ok_part}
use Rattle.loads.proofs.load.save_written.Goals as goal

pub returns-clause-written : goal.returns-clause-written
returns-clause-written g c =
    let F = g.F.Folder in
    let target = c.args.target.now in
    let files = c.in_ok-files.files in
    on_ok_weaker c.save.result (λ written fragments closed. written fragments
    (ok_part c.args.files files (λ fs. AreFragmentsClosed F.enclosed (F.wrote c.args.folder.now) target.load target.catalog.now.fact c.args.cut.now fragments fs.items) c.in_ok-files.was closed)) c.save.ensures.written

pub returns-clause-left : goal.returns-clause-left
returns-clause-left g c =
    let F = g.F.Folder in
    let target = c.args.target.now in
    let files = c.in_ok-files.files in
    on_err_weaker c.save.result (λ left. inr (λ fragments closed. left fragments
    (ok_part c.args.files files (λ fs. AreFragmentsClosed F.enclosed (F.wrote c.args.folder.now) target.load target.catalog.now.fact c.args.cut.now fragments fs.items) c.in_ok-files.was closed))) c.save.ensures.left
