-- Proofs of the goals of `load_declared` (`load`).
use Rattle.std.proofs.Common.{◌≡◌, List, Option, subst, sym, inl}
use Rattle.columns.specs.Column.{ColumnSpec}
use Rattle.folders.specs.Each.{AreEach}
use Rattle.loads.specs.Refusing.{IsUntouched, IsWrittenSoFar}
use Rattle.std.specs.Prelude.{IfOk}
use Rattle.folders.specs.Folder.{Change}
use Rattle.loads.specs.Loading.{AreFragmentsClosed, IsDimensionLoaded}
use Rattle.std.proofs.lemmas.Result.{IfOk-weaker, err_from_is_err_and, on_ok_weaker}
use Rattle.loads.proofs.Finished.{catalog_loaded, closed_count, left_behind, left_of, refused_behind}
use Rattle.folders.proofs.Others.{other_tried}
use Rattle.loads.proofs.Printed.{fact_apart}
use Rattle.loads.proofs.Tried.{fact_other, tried_either}
use Rattle.loads.proofs.Planned.{whole_behind}
use Rattle.loads.proofs.load.load_declared.Goals as goal

pub returns-in_err-fact-clause-refused : goal.returns-in_err-fact-clause-refused
returns-in_err-fact-clause-refused g c =
    let p = err_from_is_err_and c.from_residual.result c.from_residual.ensures.1 in
    rw (p.1, p.2) (inl c.in_err-fact.ensures.refused)

pub finish_load-requires-clause-closed : goal.finish_load-requires-clause-closed
finish_load-requires-clause-closed g c =
    let F = g.F.Folder in
    let target = c.args.target.now in
    let fact = c.in_ok-fact.fact in
    let loaded = c.in_ok-fact.ensures.loaded in
    IfOk-weaker fact.files _ _ (λ files closed. closed_count F.enclosed (F.wrote c.args.folder.now) target.load target.catalog.now.fact fact.cut loaded.0 files.items loaded.1.each closed) loaded.2

pub returns-clause-loaded : goal.returns-clause-loaded
returns-clause-loaded g c =
    let F = g.F.Folder in
    let target = c.args.target.now in
    let fact = c.in_ok-fact.fact in
    let loaded = c.in_ok-fact.ensures.loaded in
    let closed = subst (λ (w : Option (List Change)). IfOk fact.files (λ files. AreFragmentsClosed F.enclosed w target.load target.catalog.now.fact fact.cut loaded.0 files.items)) (sym c.in_ok-fact.ensures.same) loaded.2 in
    on_ok_weaker c.finish_load.result (λ finished. catalog_loaded (F.holds c.args.folder.now) (F.holds c.load_fact.new.folder) target.directory.now target.load c.args.rows target.catalog.now fact.cut loaded.0
    (g.O.Write.contents c.args.out.now) (g.O.Write.contents c.finish_load.new.out) (F.wrote c.args.folder.now) (F.wrote c.load_fact.new.folder) (F.wrote c.finish_load.new.folder)
    c.in_ok-fact.ensures.held c.in_ok-fact.ensures.same loaded.1 (finished loaded.0 closed)) c.finish_load.ensures.finished

pub returns-clause-refused : goal.returns-clause-refused
returns-clause-refused g c =
    let F = g.F.Folder in
    let target = c.args.target.now in
    let loaded = c.in_ok-fact.ensures.loaded in
    refused_behind (F.holds c.args.folder.now) (F.holds c.load_fact.new.folder) target.directory.now target.catalog.now c.args.rows c.in_ok-fact.fact.cut loaded.0 c.finish_load.result c.in_ok-fact.ensures.held loaded.1 c.finish_load.ensures.refused

pub returns-clause-left : goal.returns-clause-left
returns-clause-left g c =
    let F = g.F.Folder in
    let target = c.args.target.now in
    let fact = c.in_ok-fact.fact in
    let loaded = c.in_ok-fact.ensures.loaded in
    let closed = subst (λ (w : Option (List Change)). IfOk fact.files (λ files. AreFragmentsClosed F.enclosed w target.load target.catalog.now.fact fact.cut loaded.0 files.items)) (sym c.in_ok-fact.ensures.same) loaded.2 in
    left_behind (F.holds c.args.folder.now) (F.holds c.load_fact.new.folder) target.directory.now target.load c.args.rows target.catalog.now fact.cut loaded.0
    (F.wrote c.args.folder.now) (F.wrote c.load_fact.new.folder) (F.wrote c.finish_load.new.folder) c.finish_load.result c.in_ok-fact.ensures.held c.in_ok-fact.ensures.same loaded.1
    (left_of (λ e. IsUntouched e (F.wrote c.load_fact.new.folder) (F.wrote c.finish_load.new.folder))
    (λ (fragments : List (List ColumnSpec)). IfOk fact.files (λ files. AreFragmentsClosed F.enclosed (F.wrote c.load_fact.new.folder) target.load target.catalog.now.fact fact.cut fragments files.items))
    (λ fragments e. (dims : List (List ColumnSpec)) × AreEach (IsDimensionLoaded (F.holds c.load_fact.new.folder) target.directory.now) target.catalog.now.dims dims
    × IsWrittenSoFar target.directory.now target.load target.catalog.now fact.cut fragments dims e (F.wrote c.load_fact.new.folder) (F.wrote c.finish_load.new.folder))
    c.finish_load.result loaded.0 closed c.finish_load.ensures.left)

pub returns-in_err-fact-clause-left : goal.returns-in_err-fact-clause-left
returns-in_err-fact-clause-left g c =
    let F = g.F.Folder in
    let target = c.args.target.now in
    let e = c.in_err-fact.field-0.0 in
    let p = err_from_is_err_and c.from_residual.result c.from_residual.ensures.1 in
    rw (p.1, p.2) (inl (fact_apart (F.holds c.args.folder.now) target.directory.now target.catalog.now c.args.rows e c.in_err-fact.ensures.refused, c.in_err-fact.ensures.same))

pub returns-in_err-fact-clause-unwritten : goal.returns-in_err-fact-clause-unwritten
returns-in_err-fact-clause-unwritten g c =
    let F = g.F.Folder in
    let target = c.args.target.now in
    let e = c.in_err-fact.field-0.0 in
    let p = err_from_is_err_and c.from_residual.result c.from_residual.ensures.1 in
    rw (p.1, p.2) (other_tried (F.tries c.args.folder.now) e (fact_other (F.holds c.args.folder.now) target.directory.now target.catalog.now c.args.rows e c.in_err-fact.ensures.refused))

pub returns-clause-unwritten : goal.returns-clause-unwritten
returns-clause-unwritten g c =
    let F = g.F.Folder in
    tried_either (F.tries c.args.folder.now) (F.tries c.load_fact.new.folder) c.in_ok-fact.fact.files c.finish_load.result c.in_ok-fact.ensures.trying c.in_ok-fact.ensures.unwritten c.finish_load.ensures.unwritten

pub returns-clause-whole : goal.returns-clause-whole
returns-clause-whole g c =
    let F = g.F.Folder in
    whole_behind F.stays (F.wrote c.args.folder.now) (F.wrote c.load_fact.new.folder) (F.wrote c.finish_load.new.folder) c.finish_load.result c.in_ok-fact.ensures.same c.finish_load.ensures.whole
