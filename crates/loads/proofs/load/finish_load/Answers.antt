-- Proofs of the goals of `finish_load` (`load`).
use Rattle.std.proofs.Common.{List, refl, subst, sym, inl, inr}
use Rattle.std.proofs.lemmas.Result.{IfErr-weaker, on_ok_weaker}
use Rattle.columns.specs.Column.{ColumnSpec}
use Rattle.folders.specs.Each.{AreEach}
use Rattle.folders.specs.Folder.{Writes}
use Rattle.loads.specs.Loading.{AreDimensionColumns, AreFiles}
use Rattle.loads.specs.Refusing.{IsWrittenSoFar}
use Rattle.loads.proofs.Finished.{loaded_left}
use Rattle.loads.proofs.LoadedColumns.{dimensions_fit}
use Rattle.loads.proofs.Refusals.{unsaved_asked}
use Rattle.folders.proofs.Others.{other_tried}
use Rattle.loads.proofs.Printed.{dimensions_apart}
use Rattle.loads.proofs.Tried.{dimensions_other}
use Rattle.loads.proofs.load.finish_load.Goals as goal

pub save_and_print-saved-requires-clause-dims : goal.save_and_print-saved-requires-clause-dims
save_and_print-saved-requires-clause-dims g c =
    let target = c.args.target.now in
    subst (λ (l : List (List ColumnSpec)). AreEach AreDimensionColumns target.catalog.now.dims l) (sym c.as_slice.ensures.value)
    (dimensions_fit (g.F.Folder.holds c.args.folder.now) target.directory.now target.catalog.now.dims c.in-Ok.dims.items c.in-Ok.ensures.loaded)

pub returns-in-Ok-clause-finished : goal.returns-in-Ok-clause-finished
returns-in-Ok-clause-finished g c =
    let F = g.F.Folder in
    let target = c.args.target.now in
    let cut = c.args.fact.cut in
    on_ok_weaker c.save_and_print-saved.result (λ saved fragments closed.
    let (printed, written) = saved fragments closed in (
      c.in-Ok.dims.items,
      c.in-Ok.ensures.loaded,
      printed,
      subst (λ (l : List (List ColumnSpec)). Writes (AreFiles target.directory.now target.load target.catalog.now cut fragments l) (F.wrote c.args.folder.now) (F.wrote c.save_and_print-saved.new.folder)) c.as_slice.ensures.value written,
    )) c.save_and_print-saved.ensures.saved

pub returns-in-Ok-clause-refused : goal.returns-in-Ok-clause-refused
returns-in-Ok-clause-refused g c =
    IfErr-weaker c.save_and_print-saved.result _ _ (λ e unsaved. inr (c.in-Ok.dims.items, c.in-Ok.ensures.loaded, unsaved)) c.save_and_print-saved.ensures.refused

pub returns-in-Ok-clause-left : goal.returns-in-Ok-clause-left
returns-in-Ok-clause-left g c =
    let F = g.F.Folder in
    let target = c.args.target.now in
    let cut = c.args.fact.cut in
    IfErr-weaker c.save_and_print-saved.result _ _ (λ e left. loaded_left left (λ fragments so_far. (
      c.in-Ok.dims.items,
      c.in-Ok.ensures.loaded,
      subst (λ (l : List (List ColumnSpec)). IsWrittenSoFar target.directory.now target.load target.catalog.now cut fragments l e (F.wrote c.args.folder.now) (F.wrote c.save_and_print-saved.new.folder)) c.as_slice.ensures.value so_far,
    ))) c.save_and_print-saved.ensures.left

pub returns-in-Ok-clause-unread : goal.returns-in-Ok-clause-unread
returns-in-Ok-clause-unread g c =
    let target = c.args.target.now in
    IfErr-weaker c.save_and_print-saved.result _ _ (λ e unsaved. unsaved_asked (g.F.Folder.asks c.args.folder.now) target.directory.now target.catalog.now c.args.fact.cut e unsaved) c.save_and_print-saved.ensures.refused

pub returns-in-Err-clause-unwritten : goal.returns-in-Err-clause-unwritten
returns-in-Err-clause-unwritten g c =
    let F = g.F.Folder in
    let target = c.args.target.now in
    inl (other_tried (F.tries c.args.folder.now) c.in-Err.refusal (dimensions_other (F.holds c.args.folder.now) target.directory.now target.catalog.now.dims c.in-Err.refusal c.in-Err.ensures.refused))

pub returns-in-Err-clause-left : goal.returns-in-Err-clause-left
returns-in-Err-clause-left g c =
    let target = c.args.target.now in
    inl (dimensions_apart (g.F.Folder.holds c.args.folder.now) target.directory.now target.catalog.now.dims c.in-Err.refusal c.in-Err.ensures.refused, refl)
