-- Proofs of the goals of `Column::cells` (`column`).
use Rattle.std.proofs.Common.{◌∙◌, ap, sym, map}
use Rattle.meaning.specs.declared.value.Value.TheVariants.{Int}
use Rattle.columns.specs.Cells.{type_of, cells_in}
use Rattle.columns.proofs.CellLaws.{ints_lent, texts_lent}
use Rattle.columns.proofs.column.Column.cells.Goals as goal

pub returns-in-Ints-clause-cells : goal.returns-in-Ints-clause-cells
returns-in-Ints-clause-cells c = (
  sym (ap (λ x. x.col_type) c.self.view_is) ∙ ap type_of c.in-Ints.is,
  ints_lent c.self.inside.cells _ _ _ _ c.self.invariant (ap (λ x. x.values) c.self.view_is) (ap type_of c.in-Ints.is) (ap cells_in c.in-Ints.is ∙ ap (λ xs. map Int xs) (sym c.as_slice.ensures.value)),
)

pub returns-in-Texts-clause-cells : goal.returns-in-Texts-clause-cells
returns-in-Texts-clause-cells c = (
  sym (ap (λ x. x.col_type) c.self.view_is) ∙ ap type_of c.in-Texts.is,
  texts_lent c.self.inside.cells _ _ _ _ c.self.invariant (ap (λ x. x.values) c.self.view_is) (ap type_of c.in-Texts.is) (ap cells_in c.in-Texts.is),
)
