-- Proofs of the goals of `load_tables` (`load`).
use Rattle.std.proofs.Common.{inl, refl}
use Rattle.std.proofs.lemmas.Result.{err_from_is_err_and}
use Rattle.folders.proofs.Others.{catalog_other, other_tried}
use Rattle.folders.proofs.Unprinted.{catalog_apart}
use Rattle.loads.proofs.load.load_tables.Goals as goal

pub returns-in_err-catalog-clause-unwritten : goal.returns-in_err-catalog-clause-unwritten
returns-in_err-catalog-clause-unwritten g c =
    let F = g.F.Folder in
    let e = c.in_err-catalog.field-0.0 in
    let p = err_from_is_err_and c.from_residual.result c.from_residual.ensures.1 in
    rw (p.1, p.2) (other_tried (F.tries c.args.folder.now) e (catalog_other (F.holds c.args.folder.now) c.args.directory.now e c.in_err-catalog.ensures.refused))

pub returns-in_err-catalog-clause-left : goal.returns-in_err-catalog-clause-left
returns-in_err-catalog-clause-left g c =
    let e = c.in_err-catalog.field-0.0 in
    let p = err_from_is_err_and c.from_residual.result c.from_residual.ensures.1 in
    rw (p.1, p.2) (inl (catalog_apart (g.F.Folder.holds c.args.folder.now) c.args.directory.now e c.in_err-catalog.ensures.refused, refl))
