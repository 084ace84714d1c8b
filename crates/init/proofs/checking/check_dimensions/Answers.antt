-- Proofs of the goals of `check_dimensions` (`checking`).
use Rattle.std.proofs.Common.{◌≤◌, All, length, subst, arith}
use Rattle.std.proofs.lemmas.List.{take_all}
use Rattle.init.specs.Making.{IsDimensionFit}
use Rattle.std.proofs.lemmas.Result.{err_from_is_err_and}
use Rattle.init.proofs.Loading.{next_fits}
use Rattle.init.proofs.Refusals.{first_refused}
use Rattle.init.proofs.checking.check_dimensions.Goals as goal

pub loop-dimension-preserved : goal.loop-dimension-preserved
loop-dimension-preserved g c =
    next_fits (IsDimensionFit (g.F.Folder.holds c.args.folder.now) c.args.directory.now) c.args.dimensions.now c.loop-dimension.dimension-index c.dimension-item.result c.loop-dimension-test.true c.dimension-item.is
    c.loop-dimension.invariant c.in_ok-check_dimension.ensures.fit

pub returns-clause-fit : goal.returns-clause-fit
returns-clause-fit g c =
    let past : length c.args.dimensions.now ≤ c.loop-dimension.dimension-index = omega (arith, c.loop-dimension-test.false) in
    subst (All (IsDimensionFit (g.F.Folder.holds c.args.folder.now) c.args.directory.now)) (take_all c.loop-dimension.dimension-index c.args.dimensions.now past) c.loop-dimension.invariant

pub returns-in_err-check_dimension-clause-refused : goal.returns-in_err-check_dimension-clause-refused
returns-in_err-check_dimension-clause-refused g c =
    let p = err_from_is_err_and c.from_residual.result c.from_residual.ensures.1 in
    rw (p.1, p.2) (first_refused (g.F.Folder.holds c.args.folder.now) c.args.directory.now c.args.dimensions.now c.loop-dimension.dimension-index c.dimension-item.result c.in_err-check_dimension.field-0.0
    c.loop-dimension-test.true c.dimension-item.is c.loop-dimension.invariant c.in_err-check_dimension.ensures.refused)
