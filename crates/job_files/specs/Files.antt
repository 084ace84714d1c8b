-- Which files a job names, and what they hold.
use Rattle.std.specs.Prelude.{◌≡◌, ℕ, ◌==◌, nat_lt, Bool, true, false, ◌&&◌, not, List, [], ◌∷◌, length, map, flat_map, slice_get, slice_index, Option, Some, None}
use Rattle.std.specs.List.{list_all}
use Rattle.meaning.specs.declared.value.Value.{Value}
use Rattle.meaning.specs.declared.catalog.Column.{Column}
use Rattle.meaning.specs.declared.plan.ColumnUse.{ColumnUse}
use Rattle.meaning.specs.declared.plan.Join.{Join}
use Rattle.meaning.specs.declared.plan.TableUse.{TableUse}
use Rattle.meaning.specs.Cut.{first_row}
use Rattle.meaning.specs.Order.{Row, column}
use Rattle.meaning.specs.Typing.{same_type}
use Rattle.wire.specs.Reading.{same_bytes}
use Rattle.fragment_file.specs.declared.header.Header.{Header}
use Rattle.fragment_file.specs.Fragment.{FragmentSpec}
use Rattle.hash_join.specs.Dim.{meets}
use Rattle.fragment_file.specs.Rows.{rows_in}
use Rattle.partial_codec.specs.Job.{JobSpec}

-- the rows of a file, row group by row group
abbrev pub rows_of_file : FragmentSpec → List Row
rows_of_file f = flat_map rows_in f.groups

-- the column that is there has the name and the type
abbrev pub is_column : ColumnUse → Option Column → Bool
is_column u None = false
is_column u (Some c) = same_bytes c.name u.name && same_type c.col_type u.col_type

-- each column that the plan uses of a table is where the plan has it
abbrev pub has_columns : TableUse → Header → Bool
has_columns table h = list_all (λ u. is_column u (slice_get h.columns u.column)) table.columns

abbrev pub HasColumns : TableUse → Header → Type 0
HasColumns table h = has_columns table h ≡ true

-- the header of the job's fragment k: its load, the fact table's name, and the rows that the cut has there
abbrev pub is_fragment_of : JobSpec → ℕ → Header → Bool
is_fragment_of job k h =
    nat_lt k (length job.cut) && ((h.load == job.load) && (same_bytes h.table job.plan.fact.name && ((h.fragment == k)
    && ((h.first_row == first_row job.cut k) && (h.rows == slice_index job.cut k)))))

-- the header of the file of all rows of a dimension: its load, and the dimension's name; its fragment and its first row are 0
abbrev pub is_dimension_of : JobSpec → TableUse → Header → Bool
is_dimension_of job dim h = (h.load == job.load) && (same_bytes h.table dim.name && ((h.fragment == 0) && (h.first_row == 0)))

-- no key but NULL stands twice: none meets that of a later row
abbrev pub are_unique : List Value → Bool
are_unique [] = true
are_unique (key ∷ later) = list_all (λ other. not (meets key other)) later && are_unique later

-- the key of each row of a dimension's file
abbrev pub keys_in : Join → FragmentSpec → List Value
keys_in j f = map (λ row. column row j.key) (rows_of_file f)
