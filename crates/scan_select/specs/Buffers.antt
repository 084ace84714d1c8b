-- The columns that a scan reads, and what their buffers hold.
use Rattle.std.specs.Prelude.{◌≡◌, ◌<◌, ◌≤◌, ◌+◌, ◌-◌, min, ℕ, if◌then◌else◌, Bool, false, List, map, length, take, drop, get_or, slice_get, slice_index_or, Option, Some, None, All, IfSome, true}
use Rattle.meaning.specs.declared.catalog.Column.{Column}
use Rattle.meaning.specs.declared.value.ColType.{ColType}
use Rattle.meaning.specs.declared.value.ColType.TheVariants as of_type
use Rattle.meaning.specs.declared.value.Value.{Value}
use Rattle.meaning.specs.VectorLength.{is_vector_length}
use Rattle.blocks.specs.Block.{Block, is_block, values_of}
use Rattle.fragment_file.specs.Fragment.{no_block}
use Rattle.scan_select.specs.declared.buffers.ColumnBuffer.{ColumnBuffer}
use Rattle.scan_select.specs.declared.buffers.Room.{Room}
use Rattle.scan_select.specs.declared.buffers.Room.TheVariants as room
use Rattle.scan_select.specs.Groups.{current_rows}

-- the room is that for values of this type
abbrev pub IsRoomFor : ColType → Room → Type 0
IsRoomFor t (room.Ints v) = t ≡ of_type.Int
IsRoomFor t room.Texts = t ≡ of_type.Text

-- room for so many integers
abbrev pub HasRoom : ℕ → Room → Type 0
HasRoom most (room.Ints v) = v.room ≡ most
HasRoom most room.Texts = Unit {0}

-- a buffer of one of these columns, with room for so many values
pub record IsBufferOf (columns : List Column) (most : ℕ) (b : ColumnBuffer) : Type 0 where
  pub column : Column
  pub there : slice_get columns b.column ≡ Some column
  pub nullable : b.nullable ≡ column.nullable
  pub type : IsRoomFor column.col_type b.room
  pub many : HasRoom most b.room

-- the columns that are read, by their numbers in the header
abbrev pub columns_of : List ColumnBuffer → List ℕ
columns_of buffers = map (λ b. b.column) buffers

-- ---- filling

-- the block of a column
abbrev pub block_of : List Block → ℕ → Block
block_of group p = get_or group p no_block

-- the buffer's column stands in the row group, with values of the type that the room is for
pub record FitsGroup (group : List Block) (b : ColumnBuffer) : Type 0 where
  pub within : b.column < length group
  pub type : IsRoomFor (block_of group b.column).col_type b.room

-- a column's values from a row on, at most so many
abbrev pub window_of : List Block → ℕ → ℕ → ℕ → List Value
window_of group first n p = take n (drop first (values_of (block_of group p)))

-- room filled with them
abbrev pub filled_room : List Block → ℕ → ℕ → Room → Room
filled_room group first p (room.Ints v) = room.Ints (record { room = v.room; col_type = of_type.Int; values = window_of group first v.room p })
filled_room group first p room.Texts = room.Texts

abbrev pub filled : List Block → ℕ → ColumnBuffer → ColumnBuffer
filled group first b = record { column = b.column; nullable = b.nullable; room = filled_room group first b.column b.room; is_filled = true }

-- the same, unless the column is marked as packed
abbrev pub filled_unless : List Bool → List Block → ℕ → ColumnBuffer → ColumnBuffer
filled_unless packed group first b = if slice_index_or packed b.column false then b else filled group first b

-- buffers filled from the row group that stands, if one does, without those of packed columns
abbrev pub filled_now : List Bool → Option (List Block) → ℕ → List ColumnBuffer → List ColumnBuffer
filled_now packed None first buffers = buffers
filled_now packed (Some group) first buffers = map (filled_unless packed group first) buffers

-- a buffer that holds nothing of the vector that stands
abbrev pub emptied : ColumnBuffer → ColumnBuffer
emptied b = record { column = b.column; nullable = b.nullable; room = b.room; is_filled = false }

abbrev pub HoldsWindow : List Block → ℕ → ℕ → Room → Type 0
HoldsWindow group first p (room.Ints v) = v.values ≡ window_of group first v.room p
HoldsWindow group first p room.Texts = Unit {0}

-- a buffer holds the column's values from a row on, where it says so
abbrev pub IsFilled : List Block → ℕ → ColumnBuffer → Type 0
IsFilled group first b = b.is_filled ≡ true → HoldsWindow group first b.column b.room

-- where a scan stands in a row group: its rows are as many as a vector may have, or as are left, and the buffers that are filled
-- hold them
pub record IsPosition (columns : List Column) (most : ℕ) (current : Option (List Block)) (group_rows first rows : ℕ) (buffers : List ColumnBuffer) : Type 0 where
  pub columns_within : All (λ p. p < length columns) (columns_of buffers)
  pub vectors : is_vector_length most ≡ true
  pub group_rows_are : group_rows ≡ current_rows current
  pub within : first + rows ≤ group_rows
  pub full : rows ≡ min most (group_rows - first)
  pub of_columns : All (IsBufferOf columns most) buffers
  pub filled : IfSome current (λ group. All (IsFilled group first) buffers)

-- ---- lending

-- a block that has these rows
pub record HasRows (first rows : ℕ) (block : Block) : Type 0 where
  pub sound : is_block block ≡ true
  pub within : first + rows ≤ block.rows

-- the room has just the column's values in these rows
abbrev pub HoldsRows : List Block → ℕ → ℕ → ℕ → Room → Type 0
HoldsRows group first rows p (room.Ints v) = v.values ≡ window_of group first rows p
HoldsRows group first rows p room.Texts = Unit {0}

-- the column has these rows, and the buffer its values in them where it is filled
pub record IsLendable (group : List Block) (first rows : ℕ) (b : ColumnBuffer) : Type 0 where
  pub column_within : b.column < length group
  pub sound : is_block (block_of group b.column) ≡ true
  pub nullable : b.nullable ≡ (block_of group b.column).nullable
  pub within : first + rows ≤ (block_of group b.column).rows
  pub type : IsRoomFor (block_of group b.column).col_type b.room
  pub holds : b.is_filled ≡ true → HoldsRows group first rows b.column b.room
