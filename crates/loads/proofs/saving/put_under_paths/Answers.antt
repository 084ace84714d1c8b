-- Proofs of the goals of `put_under_paths` (`saving`).
use Rattle.std.proofs.Common.{List, inl, inr, refl, subst, ◌∙◌, arith}
use Rattle.std.proofs.lemmas.Result.{IfErr-weaker, on_err_weaker, on_ok_weaker}
use Rattle.loads.proofs.NotPut.{files_unwritten}
use Rattle.loads.proofs.Planned.{files_begun, files_made, none_begun, on_any_err}
use Rattle.loads.proofs.saving.put_under_paths.Goals as goal

pub returns-clause-written : goal.returns-clause-written
returns-clause-written g c =
    let F = g.F.Folder in
    let target = c.args.target.now in
    on_ok_weaker c.put_files.result (λ made fragments columns closed dims_closed.
    files_made F.enclosed target.directory.now target.load target.catalog.now c.args.cut.now fragments columns c.args.files.items c.in_ok-fragments.fragments.items c.args.dims.items c.as_slice.result.now c.args.cut_file
    (F.wrote c.args.folder.now) (F.wrote c.put_files.new.folder) closed c.in_ok-fragments.ensures dims_closed c.requires.cut_ready (c.as_slice.ensures.value ∙ c.in_ok-others.ensures) made) c.put_files.ensures.written

pub returns-clause-left : goal.returns-clause-left
returns-clause-left g c =
    let F = g.F.Folder in
    let target = c.args.target.now in
    on_err_weaker c.put_files.result (λ made fragments columns closed dims_closed.
    files_begun F.enclosed target.directory.now target.load target.catalog.now c.args.cut.now fragments columns c.args.files.items c.in_ok-fragments.fragments.items c.args.dims.items c.as_slice.result.now
    (F.wrote c.args.folder.now) (F.wrote c.put_files.new.folder) closed c.in_ok-fragments.ensures dims_closed (c.as_slice.ensures.value ∙ c.in_ok-others.ensures) made) c.put_files.ensures.left

pub returns-clause-refused : goal.returns-clause-refused
returns-clause-refused g c =
    let F = g.F.Folder in
    let target = c.args.target.now in
    IfErr-weaker c.put_files.result _ _ (λ e unput columns dims_closed.
    files_unwritten F.enclosed (F.wrote c.args.folder.now) target.directory.now target.load target.catalog.now c.args.cut.now columns c.args.files.items c.in_ok-fragments.fragments.items c.args.dims.items c.as_slice.result.now c.args.cut_file.path e
    c.requires.files (omega arith) c.in_ok-fragments.ensures dims_closed (c.as_slice.ensures.value ∙ c.in_ok-others.ensures) c.requires.cut_ready.0 unput) c.put_files.ensures.refused

pub returns-in_err-fragments-clause-left : goal.returns-in_err-fragments-clause-left
returns-in_err-fragments-clause-left g c =
    let target = c.args.target.now in
    on_any_err c.from_residual.result (λ fragments columns closed dims_closed. none_begun target.directory.now target.load target.catalog.now c.args.cut.now fragments columns (g.F.Folder.wrote c.args.folder.now) (g.F.Folder.wrote c.args.folder.now) refl)

pub returns-in_err-others-clause-left : goal.returns-in_err-others-clause-left
returns-in_err-others-clause-left g c =
    let target = c.args.target.now in
    on_any_err c.from_residual-in_err-others.result (λ fragments columns closed dims_closed. none_begun target.directory.now target.load target.catalog.now c.args.cut.now fragments columns (g.F.Folder.wrote c.args.folder.now) (g.F.Folder.wrote c.args.folder.now) refl)
