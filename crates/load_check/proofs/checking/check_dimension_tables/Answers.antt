-- Proofs of the goals of `check_dimension_tables` (`checking`).
use Rattle.std.proofs.Common.{◌≤◌, All, length, subst, arith}
use Rattle.std.proofs.lemmas.List.{take_all}
use Rattle.std.proofs.lemmas.Result.{err_from_is_err_and}
use Rattle.init.specs.Making.{IsDimensionFit}
use Rattle.init.proofs.Loading.{next_fits}
use Rattle.load_check.proofs.FirstUnfit.{first_refused}
use Rattle.load_check.proofs.checking.check_dimension_tables.Goals as goal

pub loop-index-preserved : goal.loop-index-preserved
loop-index-preserved g c =
    next_fits (IsDimensionFit (g.F.Folder.holds c.args.folder.now) c.args.directory.now) c.args.dims.now c.loop-index.index c.index-dims-index.result c.loop-index-test.true c.index-dims-index.is
    c.loop-index.invariant c.in_ok-check_dimension_table.ensures.fit

pub returns-clause-fit : goal.returns-clause-fit
returns-clause-fit g c =
    let past : length c.args.dims.now ≤ c.loop-index.index = omega (arith, c.loop-index-test.false) in
    subst (All (IsDimensionFit (g.F.Folder.holds c.args.folder.now) c.args.directory.now)) (take_all c.loop-index.index c.args.dims.now past) c.loop-index.invariant

pub returns-in_err-check_dimension_table-clause-refused : goal.returns-in_err-check_dimension_table-clause-refused
returns-in_err-check_dimension_table-clause-refused g c =
    let p = err_from_is_err_and c.from_residual.result c.from_residual.ensures.1 in
    rw (p.1, p.2) (
      c.loop-index.index,
      c.in_err-check_dimension_table.ensures.table,
      first_refused (g.F.Folder.holds c.args.folder.now) c.args.directory.now c.args.dims.now c.loop-index.index c.index-dims-index.result c.in_err-check_dimension_table.field-0.0.fault c.loop-index-test.true c.index-dims-index.is c.loop-index.invariant
          c.in_err-check_dimension_table.ensures.refused,
    )
