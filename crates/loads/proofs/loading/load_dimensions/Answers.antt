-- Proofs of the goals of `load_dimensions` (`loading`).
use Rattle.std.proofs.Common.{inr}
use Rattle.std.proofs.lemmas.Result.{err_from_is_err_and}
use Rattle.loads.specs.Loading.{IsDimensionLoaded}
use Rattle.loads.proofs.Refusals.{first_refused}
use Rattle.folders.proofs.Each.{each_next}
use Rattle.loads.proofs.loading.load_dimensions.Goals as goal

pub loop-dim-preserved : goal.loop-dim-preserved
loop-dim-preserved g c =
    each_next (IsDimensionLoaded (g.F.Folder.holds c.args.folder.now) c.args.directory.now) c.as_slice-dim-items.result.now c.loop-dim.dims.items c.push.new.self.items c.loop-dim.dim-index
    c.dim-item.result c.in_ok-load_dimension_table.field-0 c.loop-dim-test.true c.dim-item.is c.in_ok-push.ensures.items c.loop-dim.invariant c.in_ok-load_dimension_table.ensures.loaded

pub returns-in_err-load_dimension_table-clause-refused : goal.returns-in_err-load_dimension_table-clause-refused
returns-in_err-load_dimension_table-clause-refused g c =
    let p = err_from_is_err_and c.from_residual.result c.from_residual.ensures.1 in
    rw (p.1, p.2) (inr (first_refused (g.F.Folder.holds c.args.folder.now) c.args.directory.now c.args.catalog.now.dims c.as_slice-dim-items.result.now c.loop-dim.dim-index c.dim-item.result
    c.loop-dim.dims.items c.in_err-load_dimension_table.field-0.0 c.as_slice-dim-items.ensures c.loop-dim-test.true c.dim-item.is c.loop-dim.invariant c.in_err-load_dimension_table.ensures.refused))
