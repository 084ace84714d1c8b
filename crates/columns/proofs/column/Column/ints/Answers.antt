-- Proofs of the goals of `Column::ints` (`column`).
use Rattle.std.proofs.Common.{◌∙◌, ap, sym, map}
use Rattle.meaning.specs.declared.value.Value.TheVariants.{Int}
use Rattle.columns.specs.Cells.{type_of, cells_in}
use Rattle.columns.proofs.CellLaws.{ints_lent}
use Rattle.columns.proofs.column.Column.ints.Goals as goal

pub returns-in-Ints-clause-values : goal.returns-in-Ints-clause-values
returns-in-Ints-clause-values c =
    ints_lent c.self.inside.cells _ _ _ _ c.self.invariant (ap (λ x. x.values) c.self.view_is) (ap type_of c.in-Ints.is) (ap cells_in c.in-Ints.is ∙ ap (λ xs. map Int xs) (sym c.as_slice.ensures.value))
