-- Proofs of the goals of `check_tables` (`checking`).
use Rattle.std.proofs.Common.{List, All, subst}
use Rattle.std.specs.Prelude.{OnOk}
use Rattle.meaning.specs.declared.catalog.Dimension.{Dimension}
use Rattle.init.specs.Making.{IsDimensionFit}
use Rattle.init.proofs.checking.check_tables.Goals as goal

pub returns-clause-dims : goal.returns-clause-dims
returns-clause-dims g c =
    subst (λ (ds : List Dimension). OnOk c.check_dimensions.result (All (IsDimensionFit (g.F.Folder.holds c.args.folder.now) c.args.directory.now) ds)) c.as_slice.ensures c.check_dimensions.ensures.fit
