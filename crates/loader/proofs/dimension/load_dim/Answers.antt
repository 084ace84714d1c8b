-- Proofs of the goals of `load_dim` (`dimension`).
use Rattle.std.proofs.Common.{sym, subst}
use Rattle.std.specs.Prelude.{IfOk}
use Rattle.meaning.specs.Limits.{max_rows}
use Rattle.meaning.specs.declared.catalog.Dimension.{Dimension}
use Rattle.loader.specs.Columns.{AreAtMost, dimension_named}
use Rattle.loader.proofs.DimensionSteps.{one_found}
use Rattle.loader.proofs.dimension.load_dim.Goals as goal

pub returns-clause-declared : goal.returns-clause-declared
returns-clause-declared g c d found =
    let same = one_found (dimension_named c.args.catalog.now c.args.name.now) c.in-Some.dimension.now d c.in-Some.ensures found in
    subst (λ (x : Dimension). IfOk c.load_dimension.result (AreAtMost x.table.columns max_rows)) same c.load_dimension.ensures.declared

pub returns-clause-loaded : goal.returns-clause-loaded
returns-clause-loaded g c d bytes found known =
    let same = one_found (dimension_named c.args.catalog.now c.args.name.now) c.in-Some.dimension.now d c.in-Some.ensures found in
    rw (sym same) (c.load_dimension.ensures.loaded bytes known)
