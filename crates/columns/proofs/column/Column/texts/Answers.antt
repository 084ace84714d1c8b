-- Proofs of the goals of `Column::texts` (`column`).
use Rattle.std.proofs.Common.{ap}
use Rattle.columns.specs.Cells.{type_of, cells_in}
use Rattle.columns.proofs.CellLaws.{texts_lent}
use Rattle.columns.proofs.column.Column.texts.Goals as goal

pub returns-in-Texts-clause-values : goal.returns-in-Texts-clause-values
returns-in-Texts-clause-values c =
    texts_lent c.self.inside.cells _ _ _ _ c.self.invariant (ap (λ x. x.values) c.self.view_is) (ap type_of c.in-Texts.is) (ap cells_in c.in-Texts.is)
