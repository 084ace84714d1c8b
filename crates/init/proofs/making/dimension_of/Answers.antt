-- Proofs of the goals of `dimension_of` (`making`).
use Rattle.std.proofs.Common.{inl, inr, subst}
use Rattle.std.proofs.lemmas.Result.{err_from_is_err_and}
use Rattle.folders.specs.Folder.{csv_path}
use Rattle.init.specs.Guessing.{IsKeyRefused}
use Rattle.init.proofs.making.dimension_of.Goals as goal

pub returns-in_err-dimension-clause-refused : goal.returns-in_err-dimension-clause-refused
returns-in_err-dimension-clause-refused g c =
    let e = c.in_err-dimension.field-0.0 in
    let holds = g.F.Folder.holds c.args.folder.now in
    let columns = c.in_ok-table.table.columns in
    let refused = subst (λ name. IsKeyRefused holds (csv_path c.args.directory.now name) (record { name = name; columns = columns }) e) c.in_ok-table.ensures.named c.in_err-dimension.ensures.refused in
    let p = err_from_is_err_and c.from_residual-in_err-dimension.result c.from_residual-in_err-dimension.ensures.1 in
    rw (p.1, p.2) (inr (c.in_ok-table.ensures.short, columns, c.in_ok-table.ensures.shown, inl refused))

pub returns-in-Err-clause-refused : goal.returns-in-Err-clause-refused
returns-in-Err-clause-refused g c = inr (c.in_ok-table.ensures.short, c.in_ok-table.table.columns, c.in_ok-table.ensures.shown, inr c.in-Err.ensures.refused)
