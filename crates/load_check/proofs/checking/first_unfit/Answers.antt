-- Proofs of the goals of `first_unfit` (`checking`).
use Rattle.std.proofs.Common.{◌≡◌, ℕ, List, All, Some, sym, subst}
use Rattle.std.specs.Prelude.{OnOk}
use Rattle.std.proofs.lemmas.Result.{IfErr-weaker, err_from_is_err_and, on_ok_weaker}
use Rattle.meaning.specs.declared.catalog.Dimension.{Dimension}
use Rattle.init.specs.Making.{IsDimensionFit}
use Rattle.load_check.specs.Checking.{IsFirstRefused}
use Rattle.load_check.proofs.FirstUnfit.{dimension_unfit, fact_unfit}
use Rattle.load_check.proofs.checking.first_unfit.Goals as goal

pub returns-in_err-check_fact_table-clause-refused : goal.returns-in_err-check_fact_table-clause-refused
returns-in_err-check_fact_table-clause-refused g c =
    let p = err_from_is_err_and c.from_residual.result c.from_residual.ensures.1 in
    rw (p.1, p.2) (fact_unfit (g.F.Folder.holds c.args.folder.now) c.args.directory.now c.args.catalog.now c.in_err-check_fact_table.field-0.0 c.in_err-check_fact_table.ensures.table c.in_err-check_fact_table.ensures.refused)

pub returns-clause-refused : goal.returns-clause-refused
returns-clause-refused g c =
    let holds = g.F.Folder.holds c.args.folder.now in
    let folder = c.args.directory.now in
    IfErr-weaker c.check_dimension_tables.result _ _ (λ unfit of.
    dimension_unfit holds folder c.args.catalog.now unfit of.0 of.1 c.in_ok-check_fact_table.ensures.fit
    (subst (λ (ds : List Dimension). IsFirstRefused holds folder ds of.0 unfit.fault) c.as_slice.ensures of.2)) c.check_dimension_tables.ensures.refused

pub returns-clause-fit : goal.returns-clause-fit
returns-clause-fit g c =
    on_ok_weaker c.check_dimension_tables.result (λ dims. (
      c.in_ok-check_fact_table.ensures.fit,
      subst (λ (ds : List Dimension). All (IsDimensionFit (g.F.Folder.holds c.args.folder.now) c.args.directory.now) ds) c.as_slice.ensures dims,
    )) c.check_dimension_tables.ensures.fit
