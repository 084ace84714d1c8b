-- Proofs of the goals of `save` (`saving`).
use Rattle.std.proofs.Common.{◌≡◌, Option, List, inl, inr, sym, subst, ◌∙◌}
use Rattle.std.specs.Prelude.{zip}
use Rattle.std.proofs.lemmas.Result.{IfErr-weaker, err_from_is_err_and, on_err_weaker, on_ok_weaker}
use Rattle.folders.specs.Each.{AreEach}
use Rattle.folders.specs.Folder.{Change, Writes}
use Rattle.loads.specs.Loading.{AreFiles, AreFilesBegun, AreFragmentsClosed, IsCutReady, IsDimensionReady}
use Rattle.loads.proofs.Planned.{none_begun, whole_since}
use Rattle.loads.proofs.Tried.{tried_before}
use Rattle.loads.proofs.saving.save.Goals as goal

pub put_under_paths-requires-clause-cut_ready : goal.put_under_paths-requires-clause-cut_ready
put_under_paths-requires-clause-cut_ready g c =
    let F = g.F.Folder in
    let target = c.args.target.now in
    subst (λ (w : Option (List Change)). IsCutReady F.enclosed w target.directory.now target.load c.args.cut.now c.in_ok-cut_file.cut_file) (sym c.in_ok-cut_file.ensures.same) c.in_ok-cut_file.ensures.ready

pub returns-clause-written : goal.returns-clause-written
returns-clause-written g c =
    let F = g.F.Folder in
    let target = c.args.target.now in
    let same = c.in_ok-cut_file.ensures.same ∙ c.in_ok-ready.ensures.same in
    let dims = subst (λ (w : Option (List Change)). AreEach (IsDimensionReady F.enclosed w target.directory.now target.load) (zip target.catalog.now.dims c.args.dims.now) c.in_ok-ready.ready.items) (sym same) c.in_ok-ready.ensures.ready in
    on_ok_weaker c.put_under_paths.result (λ written fragments closed.
    subst (λ (w : Option (List Change)). Writes (AreFiles target.directory.now target.load target.catalog.now c.args.cut.now fragments c.args.dims.now) w (F.wrote c.put_under_paths.new.folder)) same
    (written fragments c.args.dims.now (subst (λ (w : Option (List Change)). AreFragmentsClosed F.enclosed w target.load target.catalog.now.fact c.args.cut.now fragments c.args.files.items) (sym same) closed) dims)) c.put_under_paths.ensures.written

pub returns-clause-left : goal.returns-clause-left
returns-clause-left g c =
    let F = g.F.Folder in
    let target = c.args.target.now in
    let same = c.in_ok-cut_file.ensures.same ∙ c.in_ok-ready.ensures.same in
    let dims = subst (λ (w : Option (List Change)). AreEach (IsDimensionReady F.enclosed w target.directory.now target.load) (zip target.catalog.now.dims c.args.dims.now) c.in_ok-ready.ready.items) (sym same) c.in_ok-ready.ensures.ready in
    on_err_weaker c.put_under_paths.result (λ left fragments closed.
    subst (λ (w : Option (List Change)). Writes (AreFilesBegun target.directory.now target.load target.catalog.now c.args.cut.now fragments c.args.dims.now) w (F.wrote c.put_under_paths.new.folder)) same
    (left fragments c.args.dims.now (subst (λ (w : Option (List Change)). AreFragmentsClosed F.enclosed w target.load target.catalog.now.fact c.args.cut.now fragments c.args.files.items) (sym same) closed) dims)) c.put_under_paths.ensures.left

pub returns-clause-refused : goal.returns-clause-refused
returns-clause-refused g c =
    let F = g.F.Folder in
    let target = c.args.target.now in
    let same = c.in_ok-cut_file.ensures.same ∙ c.in_ok-ready.ensures.same in
    let dims = subst (λ (w : Option (List Change)). AreEach (IsDimensionReady F.enclosed w target.directory.now target.load) (zip target.catalog.now.dims c.args.dims.now) c.in_ok-ready.ready.items) (sym same) c.in_ok-ready.ensures.ready in
    IfErr-weaker c.put_under_paths.result _ _ (λ e unput. unput c.args.dims.now dims) c.put_under_paths.ensures.refused

pub returns-clause-whole : goal.returns-clause-whole
returns-clause-whole g c =
    let F = g.F.Folder in
    let same = c.in_ok-cut_file.ensures.same ∙ c.in_ok-ready.ensures.same in
    IfErr-weaker c.put_under_paths.result _ _ (λ e whole. whole_since (F.wrote c.args.folder.now) (F.wrote c.write_cut_file.new.folder) (F.wrote c.put_under_paths.new.folder) same whole) c.put_under_paths.ensures.whole

pub returns-in_err-ready-clause-left : goal.returns-in_err-ready-clause-left
returns-in_err-ready-clause-left g c =
    let target = c.args.target.now in
    let p = err_from_is_err_and c.from_residual.result c.from_residual.ensures.1 in
    rw p.1 (λ fragments closed. none_begun target.directory.now target.load target.catalog.now c.args.cut.now fragments c.args.dims.now _ _ c.in_err-ready.ensures.same)

pub returns-in_err-cut_file-clause-left : goal.returns-in_err-cut_file-clause-left
returns-in_err-cut_file-clause-left g c =
    let target = c.args.target.now in
    let p = err_from_is_err_and c.from_residual-in_err-cut_file.result c.from_residual-in_err-cut_file.ensures.1 in
    rw p.1 (λ fragments closed. none_begun target.directory.now target.load target.catalog.now c.args.cut.now fragments c.args.dims.now _ _ (c.in_err-cut_file.ensures.same ∙ c.in_ok-ready.ensures.same))
