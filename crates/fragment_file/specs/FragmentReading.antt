-- How a fragment file is read from front to back, and what is wrong first with other bytes.
use Rattle.std.specs.Prelude.{ℕ, zero, suc, ◌==◌, nat_le, Bool, true, false, ◌&&◌, not, if◌then◌else◌, List, [], ◌∷◌, ◌++◌, Option, Some, None, Result, Ok, Err}
use Rattle.std.specs.List.{list_any}
use Rattle.meaning.specs.declared.value.ColType.{ColType}
use Rattle.meaning.specs.declared.value.ColType.TheVariants as of_type
use Rattle.meaning.specs.declared.catalog.Column.{Column}
use Rattle.meaning.specs.Catalog.{is_name}
use Rattle.meaning.specs.Limits.{max_columns, max_name_bytes, max_rows}
use Rattle.blocks.specs.declared.kind.Kind.{Kind}
use Rattle.blocks.specs.declared.kind.Kind.TheVariants as kind
use Rattle.blocks.specs.Block.{Block, is_block}
use Rattle.fragment_file.specs.declared.fault.FileFault.{FileFault}
use Rattle.fragment_file.specs.declared.fault.FileFault.TheVariants as fault
use Rattle.fragment_file.specs.declared.header.Header.{Header}
use Rattle.wire.specs.Reading.{◌>>=◌, Read, same_bytes, bytes_at, number_at, behind_magic, sealed_end}
use Rattle.fragment_file.specs.Fragment.{FragmentSpec, fragment_magic, group_sizes}
use Rattle.fragment_file.specs.Fault.{from_wire}

-- x, where a limit is kept
abbrev pub within : {X : Type 0} → Bool → X → Result X FileFault
within kept x = if kept then Ok x else Err fault.Limit

-- x, where its form is right
abbrev pub formed : {X : Type 0} → Bool → X → Result X FileFault
formed right x = if right then Ok x else Err fault.Header

-- a name behind its length: first the length is judged, then the bytes are read, and then the form is judged
unfoldable pub name_at : List ℕ → Read FileFault (List ℕ)
name_at bytes = do
  n ← from_wire (number_at 2 bytes)
  n ← within (nat_le 1 n.0 && nat_le n.0 max_name_bytes) n
  name ← from_wire (bytes_at n.0 n.1)
  formed (is_name name.0) name

abbrev pub type_of : ℕ → Result ColType FileFault
type_of n = if n == 1 then Ok of_type.Int else if n == 2 then Ok of_type.Text else Err fault.Header

abbrev pub flag_of : ℕ → Result Bool FileFault
flag_of n = if n == 0 then Ok false else if n == 1 then Ok true else Err fault.Header

abbrev pub is_named : List ℕ → List Column → Bool
is_named name columns = list_any (λ c. same_bytes c.name name) columns

-- a column whose name no earlier one has
unfoldable pub column_at : List Column → List ℕ → Read FileFault Column
column_at earlier bytes = do
  name ← name_at bytes
  name ← formed (not (is_named name.0 earlier)) name
  t ← from_wire (number_at 1 name.1)
  col_type ← type_of t.0
  f ← from_wire (number_at 1 t.1)
  nullable ← flag_of f.0
  Ok (record { name = name.0; col_type = col_type; nullable = nullable }, f.1)

-- n more columns
unfoldable pub columns_at : ℕ → List Column → List ℕ → Read FileFault (List Column)
columns_at zero earlier bytes = Ok (earlier, bytes)
columns_at (suc n) earlier bytes = do
  c ← column_at earlier bytes
  columns_at n (earlier ++ c.0 ∷ []) c.1

unfoldable pub header_at : List ℕ → Read FileFault Header
header_at bytes = do
  load ← from_wire (number_at 8 bytes)
  table ← name_at load.1
  k ← from_wire (number_at 4 table.1)
  first ← from_wire (number_at 8 k.1)
  rows ← from_wire (number_at 4 first.1)
  rows ← within (nat_le rows.0 max_rows) rows
  n ← from_wire (number_at 2 rows.1)
  n ← within (nat_le 1 n.0 && nat_le n.0 max_columns) n
  columns ← columns_at n.0 [] n.1
  Ok (record { load = load.0; table = table.0; fragment = k.0; first_row = first.0; rows = rows.0; columns = columns.0 }, columns.1)

abbrev pub kind_of : ℕ → Option Kind
kind_of n = if n == 0 then Some kind.Plain else if n == 1 then Some kind.Dict else if n == 2 then Some kind.Runs else if n == 3 then Some kind.Frame else None

abbrev pub block_of : Option Kind → Column → ℕ → List ℕ → Option Block
block_of None c rows payload = None
block_of (Some k) c rows payload =
    let b : Block = record { kind = k; col_type = c.col_type; nullable = c.nullable; rows = rows; payload = payload } in
    if is_block b then Some b else None

abbrev pub sound : ℕ → ℕ → Option Block → Result Block FileFault
sound group column None = Err (fault.Block group column)
sound group column (Some b) = Ok b

-- a block is judged once its payload was read whole
unfoldable pub block_at : ℕ → ℕ → Column → ℕ → List ℕ → Read FileFault Block
block_at group column c rows bytes = do
  k ← from_wire (number_at 1 bytes)
  n ← from_wire (number_at 4 k.1)
  payload ← from_wire (bytes_at n.0 n.1)
  b ← sound group column (block_of (kind_of k.0) c rows payload.0)
  Ok (b, payload.1)

-- the blocks of the columns from one on
unfoldable pub blocks_at : ℕ → ℕ → List Column → ℕ → List ℕ → Read FileFault (List Block)
blocks_at group column [] rows bytes = Ok ([], bytes)
blocks_at group column (c ∷ columns) rows bytes = do
  b ← block_at group column c rows bytes
  others ← blocks_at group (suc column) columns rows b.1
  Ok (b.0 ∷ others.0, others.1)

-- a row group of so many rows
unfoldable pub group_at : ℕ → List Column → ℕ → List ℕ → Read FileFault (List Block)
group_at group columns rows bytes = do
  n ← from_wire (number_at 4 bytes)
  n ← formed (n.0 == rows) n
  blocks_at group 0 columns rows n.1

-- row groups of these sizes, numbered from one on
unfoldable pub groups_at : ℕ → List Column → List ℕ → List ℕ → Read FileFault (List (List Block))
groups_at group columns [] bytes = Ok ([], bytes)
groups_at group columns (rows ∷ sizes) bytes = do
  g ← group_at group columns rows bytes
  others ← groups_at (suc group) columns sizes g.1
  Ok (g.0 ∷ others.0, others.1)

-- what the bytes are a file of, or the first thing that is wrong with them
unfoldable pub read_fragment : List ℕ → Result FragmentSpec FileFault
read_fragment bytes = do
  rest ← from_wire (behind_magic fragment_magic bytes)
  header ← header_at rest
  groups ← groups_at 0 header.0.columns (group_sizes header.0.rows) header.1
  seal ← from_wire (bytes_at 32 groups.1)
  end ← from_wire (sealed_end bytes seal.0 seal.1)
  Ok (record { header = header.0; groups = groups.0 })
