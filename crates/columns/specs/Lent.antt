-- The cells that a column lends.
use Rattle.std.specs.Prelude.{◌≡◌, map}
use Rattle.meaning.specs.declared.value.ColType.TheVariants as of_type
use Rattle.meaning.specs.Order.{number, bytes}
use Rattle.columns.specs.Column.{ColumnSpec}
use Rattle.columns.specs.declared.column.LentCells.{LentCells}
use Rattle.columns.specs.declared.column.LentCells.TheVariants as lent

-- a cell for each row, of the column's type
abbrev pub AreLent : LentCells → ColumnSpec → Type 0
AreLent (lent.Ints ints) c = (c.col_type ≡ of_type.Int) × (ints.now ≡ map number c.values)
AreLent (lent.Texts texts) c = (c.col_type ≡ of_type.Text) × (texts.now ≡ map bytes c.values)
