-- What writing does to a writer and to the hasher of all bytes that went to it, and which columns a file is written of.
use Rattle.std.specs.Prelude.{◌≡◌, ℕ, ◌+◌, ◌<◌, ◌^◌, true, List, [], ◌∷◌, ◌++◌, length, take, drop, zip, flat_map, Option, All}
use Rattle.std.specs.Io.KnownBytes.{Appends}
use Rattle.sha2.specs.declared.Sha256.{Sha256}
use Rattle.wire.specs.Writing.{Puts}
use Rattle.meaning.specs.declared.catalog.Column.{Column}
use Rattle.columns.specs.Column.{ColumnSpec}
use Rattle.blocks.specs.Block.{Block, is_block, values_of}
use Rattle.encodings.specs.Choosing.{is_chosen}
use Rattle.encodings.specs.Encoded.{is_tight}
use Rattle.fragment_file.specs.declared.fault.FileFault.{FileFault}
use Rattle.fragment_file.specs.declared.fault.FileFault.TheVariants as fault
use Rattle.fragment_file.specs.declared.header.Header.{Header}
use Rattle.fragment_file.specs.Fragment.{FragmentSpec, IsFileOf, Stands, block_bytes, group_bytes}

-- ---- columns

-- a column as the header names it, of so many rows
pub record IsColumnOf (c : Column) (n : ℕ) (column : ColumnSpec) : Type 0 where
  pub col_type : column.col_type ≡ c.col_type
  pub nullable : column.nullable ≡ c.nullable
  pub rows : length column.values ≡ n

-- a column for each
abbrev pub AreColumns : List Column → ℕ → List ColumnSpec → Type 0
AreColumns [] rows [] = Unit {0}
AreColumns [] rows (s ∷ ss) = ⊥
AreColumns (c ∷ cs) rows [] = ⊥
AreColumns (c ∷ cs) rows (s ∷ ss) = IsColumnOf c rows s × AreColumns cs rows ss

-- the columns that a header names, in number, type, nullability and rows
abbrev pub AreColumnsOf : Header → List ColumnSpec → Type 0
AreColumnsOf header columns = AreColumns header.columns header.rows columns

-- bytes went to a writer that are a file of this header and these columns
abbrev pub WritesFile : Option (List ℕ) → Option (List ℕ) → Header → List ColumnSpec → Type 0
WritesFile before after header columns = (bytes : List ℕ) × Appends before after bytes × Stands bytes header columns

-- a block of the kind that `choose` names for its values, without an entry or a run that they don't need
pub record IsBest (b : Block) : Type 0 where
  pub chosen : is_chosen b.col_type b.nullable (values_of b) b.kind ≡ true
  pub tight : is_tight b ≡ true

-- bytes went to a writer, and the file that they are has only such blocks
abbrev pub WritesBest : Option (List ℕ) → Option (List ℕ) → Type 0
WritesBest before after = (bytes : List ℕ) × Appends before after bytes × ((file : FragmentSpec) → IsFileOf bytes file → All (All IsBest) file.groups)

-- out of memory, or a device that failed
abbrev pub IsWriteFault : FileFault → Type 0
IsWriteFault fault.Memory = Unit {0}
IsWriteFault fault.Magic = ⊥
IsWriteFault fault.Truncated = ⊥
IsWriteFault fault.TrailingBytes = ⊥
IsWriteFault fault.Seal = ⊥
IsWriteFault (fault.Block group column) = ⊥
IsWriteFault fault.Header = ⊥
IsWriteFault fault.Limit = ⊥
IsWriteFault fault.Device = Unit {0}

-- ---- blocks

-- a block of n rows of a column, from one row on
pub record IsRowsOf (column : ColumnSpec) (from n : ℕ) (b : Block) : Type 0 where
  pub col_type : b.col_type ≡ column.col_type
  pub nullable : b.nullable ≡ column.nullable
  pub rows : b.rows ≡ n
  pub sound : is_block b ≡ true
  pub short : length b.payload < 2 ^ 32
  pub values : values_of b ≡ take n (drop from column.values)
  pub best : IsBest b

-- such a block of each column
abbrev pub AreRowsOf : List ColumnSpec → ℕ → ℕ → List Block → Type 0
AreRowsOf [] from n [] = Unit {0}
AreRowsOf [] from n (b ∷ bs) = ⊥
AreRowsOf (s ∷ ss) from n [] = ⊥
AreRowsOf (s ∷ ss) from n (b ∷ bs) = IsRowsOf s from n b × AreRowsOf ss from n bs

-- row groups of these sizes, from one row on
abbrev pub AreGroupsOf : List ColumnSpec → ℕ → List ℕ → List (List Block) → Type 0
AreGroupsOf columns from [] [] = Unit {0}
AreGroupsOf columns from [] (g ∷ gs) = ⊥
AreGroupsOf columns from (n ∷ ns) [] = ⊥
AreGroupsOf columns from (n ∷ ns) (g ∷ gs) = AreRowsOf columns from n g × AreGroupsOf columns (from + n) ns gs

-- ---- what a step put behind other bytes

pub record PutsBlock (before after : List ℕ) (column : ColumnSpec) (from n : ℕ) : Type 0 where
  pub block : Block
  pub is : IsRowsOf column from n block
  pub put : after ≡ before ++ block_bytes block

pub record PutsBlocks (before after : List ℕ) (columns : List ColumnSpec) (from n : ℕ) : Type 0 where
  pub blocks : List Block
  pub are : AreRowsOf columns from n blocks
  pub put : after ≡ before ++ flat_map block_bytes blocks

pub record PutsGroup (before after : List ℕ) (columns : List ColumnSpec) (from n : ℕ) : Type 0 where
  pub blocks : List Block
  pub are : AreRowsOf columns from n blocks
  pub put : after ≡ before ++ group_bytes (n, blocks)

pub record WritesGroup (before after : Option (List ℕ)) (old new : Sha256) (columns : List ColumnSpec) (from n : ℕ) : Type 0 where
  pub blocks : List Block
  pub are : AreRowsOf columns from n blocks
  pub put : Puts before after old new (group_bytes (n, blocks))

-- row groups of these sizes, from the first row on
pub record WritesGroups (before after : Option (List ℕ)) (old new : Sha256) (columns : List ColumnSpec) (sizes : List ℕ) : Type 0 where
  pub groups : List (List Block)
  pub are : AreGroupsOf columns 0 sizes groups
  pub put : Puts before after old new (flat_map group_bytes (zip sizes groups))
