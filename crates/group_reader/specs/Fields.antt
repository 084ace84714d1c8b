-- Parts of a header.
use Rattle.std.specs.Prelude.{◌≡◌, ◌≢◌, ℕ, ◌≤◌, nat_le, Bool, false, ◌&&◌, List, [], length, map, All, AllPairs, Ok}
use Rattle.meaning.specs.declared.value.ColType.{ColType}
use Rattle.meaning.specs.declared.catalog.Column.{Column}
use Rattle.meaning.specs.Catalog.{IsName}
use Rattle.meaning.specs.Limits.{max_columns, max_rows}
use Rattle.wire.specs.Reading.{◌>>=◌, Read, number_at}
use Rattle.fragment_file.specs.declared.fault.FileFault.{FileFault}
use Rattle.fragment_file.specs.declared.header.Slice.{Slice}
use Rattle.fragment_file.specs.Fault.{from_wire}
use Rattle.fragment_file.specs.FragmentReading.{columns_at, flag_of, is_named, type_of, within}

abbrev pub type_at : List ℕ → Read FileFault ColType
type_at bytes = do
  t ← from_wire (number_at 1 bytes)
  col_type ← type_of t.0
  Ok (col_type, t.1)

abbrev pub flag_at : List ℕ → Read FileFault Bool
flag_at bytes = do
  f ← from_wire (number_at 1 bytes)
  flag ← flag_of f.0
  Ok (flag, f.1)

-- which rows of the table a file has
abbrev pub slice_at : List ℕ → Read FileFault Slice
slice_at bytes = do
  k ← from_wire (number_at 4 bytes)
  first ← from_wire (number_at 8 k.1)
  rows ← from_wire (number_at 4 first.1)
  rows ← within (nat_le rows.0 max_rows) rows
  Ok (record { fragment = k.0; first_row = first.0; rows = rows.0 }, rows.1)

-- columns behind how many there are
abbrev pub counted_at : List ℕ → Read FileFault (List Column)
counted_at bytes = do
  n ← from_wire (number_at 2 bytes)
  n ← within (nat_le 1 n.0 && nat_le n.0 max_columns) n
  columns_at n.0 [] n.1

-- a column whose name is in its form, and that no earlier one has
pub record IsNewColumn (earlier : List Column) (c : Column) : Type 0 where
  pub name : IsName c.name
  pub new : is_named c.name earlier ≡ false

-- so many columns, with names in their form that differ
pub record AreColumnsOf (n : ℕ) (cs : List Column) : Type 0 where
  pub count : length cs ≡ n
  pub columns : All (λ c. IsName c.name) cs
  pub distinct : AllPairs (λ a b. a ≢ b) (map (λ c. c.name) cs)

-- as many as a file may have
pub record AreHeaderColumns (cs : List Column) : Type 0 where
  pub some : 1 ≤ length cs
  pub few : length cs ≤ max_columns
  pub columns : All (λ c. IsName c.name) cs
  pub distinct : AllPairs (λ a b. a ≢ b) (map (λ c. c.name) cs)
