-- What a column holds inside: a cell for each row, and which rows are NULL.
use Rattle.std.specs.Prelude.{◌≡◌, pos, Bool, true, if◌then◌else◌, List, [], map, zip}
use Rattle.std.specs.List.{list_all}
use Rattle.meaning.specs.declared.value.ColType.{ColType}
use Rattle.meaning.specs.declared.value.ColType.TheVariants as of_type
use Rattle.meaning.specs.declared.value.Value.{Value}
use Rattle.meaning.specs.declared.value.Value.TheVariants.{Null, Int, Text}
use Rattle.meaning.specs.Order.{is_null}
use Rattle.columns.specs.declared.cells.Cells.{Cells}
use Rattle.columns.specs.declared.cells.Cells.TheVariants as held
use Rattle.columns.specs.Column.{is_of}

abbrev pub type_of : Cells → ColType
type_of (held.Ints ints) = of_type.Int
type_of (held.Texts texts) = of_type.Text

abbrev pub cells_in : Cells → List Value
cells_in (held.Ints ints) = map Int ints.items
cells_in (held.Texts texts) = map Text texts

-- what stands in the cell of a NULL row
abbrev pub blank : ColType → Value
blank of_type.Int = Int (pos 0)
blank of_type.Text = Text []

-- what stands in a row's cell
abbrev pub cell_of : ColType → Value → Value
cell_of col_type v = if is_null v then blank col_type else v

abbrev pub masked : Bool × Value → Value
masked p = if p.0 then Null else p.1

-- the values of all rows
abbrev pub values_in : Bool → List Bool → List Value → List Value
values_in nullable nulls cells = if nullable then map masked (zip nulls cells) else cells

abbrev pub mask_for : Bool → List Value → List Bool
mask_for nullable values = if nullable then map is_null values else []

-- cells and mask are those of values that may stand in the column
pub record AreCells (col_type : ColType) (nullable : Bool) (nulls : List Bool) (cells : List Value) (values : List Value) : Type 0 where
  pub nulls_are : nulls ≡ mask_for nullable values
  pub cells_are : cells ≡ map (cell_of col_type) values
  pub values_are : list_all (is_of col_type nullable) values ≡ true
