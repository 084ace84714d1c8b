-- The rows of row groups, and laws on them, each the contract of a function of `src/laws.rt`.
use Rattle.std.specs.Prelude.{◌≡◌, ℕ, ◌<◌, List, map, flat_map, length, get_or}
use Rattle.std.specs.List.{range_with_len}
use Rattle.meaning.specs.declared.value.Value.TheVariants.{Null}
use Rattle.meaning.specs.Order.{Row, column}
use Rattle.blocks.specs.Block.{Block, values_of}
use Rattle.fragment_file.specs.Fragment.{FragmentSpec, IsFragment, column_values}
use Rattle.fragment_file.specs.View.{rows_of}

-- the blocks of its columns, by which the crates above know a row group
abbrev pub RowGroup : Type 0
RowGroup = List Block

-- a row of a row group: what each block has there
abbrev pub row_in : RowGroup → ℕ → Row
row_in group i = map (λ b. get_or (values_of b) i Null) group

-- all rows of a row group
abbrev pub rows_in : RowGroup → List Row
rows_in group = map (row_in group) (range_with_len 0 (rows_of group))

-- in each column of a file its rows have what the file's column holds, block after block
abbrev pub RowsAreColumns : Type 0
RowsAreColumns = (f : FragmentSpec) (j : ℕ) → IsFragment f → j < length f.header.columns
    → map (λ row. column row j) (flat_map rows_in f.groups) ≡ column_values j f.groups

-- a file has as many rows as its header declares
abbrev pub RowsAreCounted : Type 0
RowsAreCounted = (f : FragmentSpec) → IsFragment f → length (flat_map rows_in f.groups) ≡ f.header.rows
