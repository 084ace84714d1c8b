-- Files of rows: those of a fragment of a table, and those of whole tables.
use Rattle.std.specs.Prelude.{◌≡◌, ℕ, List, take, drop, slice_index}
use Rattle.std.specs.List.{AllZip}
use Rattle.meaning.specs.Cut.{Cut, first_row}
use Rattle.meaning.specs.Order.{Row}
use Rattle.fragment_file.specs.Fragment.{FragmentSpec, IsFileOf}
use Rattle.job_files.specs.Files.{rows_of_file}

-- the bytes are a file of just these rows, whatever its blocks
pub record IsFileOfRows (rows : List Row) (bytes : List ℕ) : Type 0 where
  pub file : FragmentSpec
  pub spelled : IsFileOf bytes file
  pub rows_are : rows_of_file file ≡ rows

-- a file of each table's rows
abbrev pub AreFilesOfTables : List (List Row) → List (List ℕ) → Type 0
AreFilesOfTables tables files = AllZip IsFileOfRows tables files

-- of the rows of a table, those of a fragment
abbrev pub rows_of_fragment : Cut → ℕ → List Row → List Row
rows_of_fragment cut k rows = take (slice_index cut k) (drop (first_row cut k) rows)
