-- A kind that was chosen, and what was made of the cells to find it.
use Rattle.std.specs.Prelude.{◌≡◌, ℕ, ◌<◌, ◌≤◌, Bool, true, List, Option, None, Some}
use Rattle.meaning.specs.declared.value.ColType.{ColType}
use Rattle.meaning.specs.declared.value.Value.{Value}
use Rattle.columns.specs.Column.{ColumnSpec}
use Rattle.encodings.specs.declared.choice.Choice.{Choice}
use Rattle.blocks.specs.declared.kind.Kind.{Kind}
use Rattle.encodings.specs.declared.dictionary.of_cells.Dictionary.{Dictionary}
use Rattle.encodings.specs.Choosing.{between, cells_for, is_chosen}
use Rattle.blocks.specs.Dictionary.{AreEntries}
use Rattle.blocks.specs.declared.kind.Kind.TheVariants as kind

-- the dictionary of the cells, if the size that it has is at most a number
abbrev pub IsDictionaryWithin : List Value → ℕ → ℕ → Option Dictionary → Type 0
IsDictionaryWithin cells size most None = most < size
IsDictionaryWithin cells size most (Some d) = (size ≤ most) × AreEntries cells d.entry_rows.items d.codes.items

-- what was made ahead for a kind is the dictionary of the cells
abbrev pub IsMadeOf : List Value → Kind → Option Dictionary → Type 0
IsMadeOf cells k None = Unit {0}
IsMadeOf cells k (Some d) = (k ≡ kind.Dict) × AreEntries cells d.entry_rows.items d.codes.items

-- the kind in which the cells take the fewest bytes, and what was made of them
pub record IsBestOf (col_type : ColType) (cells : List Value) (choice : Choice) : Type 0 where
  pub best : (nullable : Bool) (values : List Value) → cells_for col_type values ≡ cells → is_chosen col_type nullable values choice.kind ≡ true
  pub made : IsMadeOf cells choice.kind choice.dictionary

-- the same of some rows of a column
pub record IsBestOfRows (column : ColumnSpec) (from to : ℕ) (choice : Choice) : Type 0 where
  pub best : is_chosen column.col_type column.nullable (between from to column) choice.kind ≡ true
  pub made : IsMadeOf (cells_for column.col_type (between from to column)) choice.kind choice.dictionary
