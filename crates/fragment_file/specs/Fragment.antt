-- The files of fragments and dimensions: what they hold, and which bytes encode it.
--
-- A file is a header and row groups. A row group has a block for each column. One table slice may stand in many files,
-- as a block may be of any kind that fits; bytes encode at most one.
use Rattle.std.specs.Prelude.{◌≡◌, ◌≢◌, ℕ, ◌/◌, ◌%◌, ◌==◌, ◌≤◌, ◌<◌, ◌^◌, true, false, if◌then◌else◌, List, [], ◌∷◌, ◌++◌, length, map, zip, get_or, replicate, flat_map, slice_get, Some, All, AllPairs}
use Rattle.std.specs.List.{range_with_len}
use Rattle.wire.specs.Bytes.{number_bytes, sealed}
use Rattle.meaning.specs.declared.value.ColType.{ColType}
use Rattle.meaning.specs.declared.value.ColType.TheVariants as of_type
use Rattle.meaning.specs.declared.value.Value.{Value}
use Rattle.meaning.specs.declared.catalog.Column.{Column}
use Rattle.meaning.specs.declared.catalog.Table.{Table}
use Rattle.meaning.specs.Catalog.{IsName}
use Rattle.meaning.specs.Limits.{max_columns, max_rows, row_group_rows}
use Rattle.meaning.specs.Typing.{is_of_type}
use Rattle.meaning.specs.TypeCodes.{type_code}
use Rattle.columns.specs.Column.{ColumnSpec}
use Rattle.blocks.specs.declared.kind.Kind.TheVariants as kind
use Rattle.blocks.specs.Block.{Block, is_block, values_of}
use Rattle.blocks.specs.Kind.{kind_code}
use Rattle.fragment_file.specs.declared.header.Header.{Header}
use Rattle.fragment_file.specs.declared.header.Slice.{Slice}

-- a header, and for each row group its blocks
pub record FragmentSpec : Type 0 where
  pub header : Header
  pub groups : List (List Block)

-- ---- what is well-formed

-- row groups of 8,192 rows and, where rows are left over, one of the rest
abbrev pub group_sizes : ℕ → List ℕ
group_sizes rows = replicate (rows / row_group_rows) row_group_rows ++ (if rows % row_group_rows == 0 then [] else (rows % row_group_rows) ∷ [])

-- names in their form, 1 to 64 columns with names that differ, and at most 1,048,576 rows
pub record IsHeader (h : Header) : Type 0 where
  pub load : h.load < 2 ^ 64
  pub table : IsName h.table
  pub fragment : h.fragment < 2 ^ 32
  pub first_row : h.first_row < 2 ^ 64
  pub rows : h.rows ≤ max_rows
  pub some : 1 ≤ length h.columns
  pub few : length h.columns ≤ max_columns
  pub columns : All (λ c. IsName c.name) h.columns
  pub distinct : AllPairs (λ a b. a ≢ b) (map (λ c. c.name) h.columns)

-- the header of a file that has these rows of a table
abbrev pub table_header : ℕ → Table → Slice → Header
table_header load table slice = record {
  load = load;
  table = table.name;
  fragment = slice.fragment;
  first_row = slice.first_row;
  rows = slice.rows;
  columns = table.columns;
}

-- a block of so many rows of a column
pub record IsBlockOf (c : Column) (n : ℕ) (b : Block) : Type 0 where
  pub col_type : b.col_type ≡ c.col_type
  pub nullable : b.nullable ≡ c.nullable
  pub rows : b.rows ≡ n
  pub sound : is_block b ≡ true
  pub short : length b.payload < 2 ^ 32

-- a block for each column
abbrev pub AreBlocks : List Column → ℕ → List Block → Type 0
AreBlocks [] rows [] = Unit {0}
AreBlocks [] rows (b ∷ bs) = ⊥
AreBlocks (c ∷ cs) rows [] = ⊥
AreBlocks (c ∷ cs) rows (b ∷ bs) = IsBlockOf c rows b × AreBlocks cs rows bs

-- a row group of each size
abbrev pub AreGroups : List Column → List ℕ → List (List Block) → Type 0
AreGroups columns [] [] = Unit {0}
AreGroups columns [] (g ∷ gs) = ⊥
AreGroups columns (n ∷ ns) [] = ⊥
AreGroups columns (n ∷ ns) (g ∷ gs) = AreBlocks columns n g × AreGroups columns ns gs

pub record IsFragment (f : FragmentSpec) : Type 0 where
  pub header : IsHeader f.header
  pub groups : AreGroups f.header.columns (group_sizes f.header.rows) f.groups

-- ---- the columns of a file

abbrev pub no_block : Block
no_block = record { kind = kind.Plain; col_type = of_type.Int; nullable = false; rows = 0; payload = [] }

-- the values of a column, from group to group
abbrev pub column_values : ℕ → List (List Block) → List Value
column_values j groups = flat_map (λ g. values_of (get_or g j no_block)) groups

abbrev pub column_in : List (List Block) → ℕ × Column → ColumnSpec
column_in groups p = record { col_type = p.1.col_type; nullable = p.1.nullable; values = column_values p.0 groups }

abbrev pub columns_in : FragmentSpec → List ColumnSpec
columns_in f = map (column_in f.groups) (zip (range_with_len 0 (length f.header.columns)) f.header.columns)

-- each column of a file has values of its type
abbrev pub AreTypedColumns : FragmentSpec → Type 0
AreTypedColumns f = (j : ℕ) (c : Column) → slice_get f.header.columns j ≡ Some c → All (λ v. is_of_type c.col_type v ≡ true) (column_values j f.groups)

-- ---- spelling

unfoldable pub name_bytes : List ℕ → List ℕ
name_bytes name = number_bytes 2 (length name) ++ name

unfoldable pub column_bytes : Column → List ℕ
column_bytes c = name_bytes c.name ++ number_bytes 1 (type_code c.col_type) ++ number_bytes 1 (if c.nullable then 1 else 0)

unfoldable pub header_bytes : Header → List ℕ
header_bytes h =
    number_bytes 8 h.load ++ name_bytes h.table ++ number_bytes 4 h.fragment ++ number_bytes 8 h.first_row ++ number_bytes 4 h.rows
    ++ number_bytes 2 (length h.columns) ++ flat_map column_bytes h.columns

unfoldable pub block_bytes : Block → List ℕ
block_bytes b = number_bytes 1 (kind_code b.kind) ++ number_bytes 4 (length b.payload) ++ b.payload

unfoldable pub group_bytes : ℕ × List Block → List ℕ
group_bytes g = number_bytes 4 g.0 ++ flat_map block_bytes g.1

unfoldable pub groups_bytes : ℕ → List (List Block) → List ℕ
groups_bytes rows groups = flat_map group_bytes (zip (group_sizes rows) groups)

-- `XCF1`
unfoldable pub fragment_magic : List ℕ
fragment_magic = 88 ∷ 67 ∷ 70 ∷ 49 ∷ []

-- all of a file but its seal
unfoldable pub fragment_bytes : FragmentSpec → List ℕ
fragment_bytes f = fragment_magic ++ header_bytes f.header ++ groups_bytes f.header.rows f.groups

-- the bytes are a file of this header and these blocks
pub record IsFileOf (bytes : List ℕ) (f : FragmentSpec) : Type 0 where
  pub spelled : bytes ≡ sealed (fragment_bytes f)
  pub sound : IsFragment f

-- the bytes are a file of this header and these columns, whatever its blocks
pub record Stands (bytes : List ℕ) (header : Header) (columns : List ColumnSpec) : Type 0 where
  pub file : FragmentSpec
  pub spelled : IsFileOf bytes file
  pub header_is : file.header ≡ header
  pub columns_are : columns_in file ≡ columns
