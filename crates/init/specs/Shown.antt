-- A table as its CSV file shows it: the header has the names of its columns, and the records behind it their types.
use Rattle.std.specs.Prelude.{◌≡◌, ℕ, ◌+◌, Bool, true, false, ◌&&◌, ◌||◌, nat_le, nat_lt, if◌then◌else◌, List, [], ◌∷◌, ◌++◌, length, map, slice_get, zip, Option, None, Some, Result, Ok, Err, ⊤}
use Rattle.std.specs.List.{list_all, list_any, range_with_len}
use Rattle.std.specs.Str.{bytes_eq, is_utf8}
use Rattle.std.specs.Char.{to_ascii_lowercase}
use Rattle.meaning.specs.declared.value.ColType.TheVariants as col_type
use Rattle.meaning.specs.declared.catalog.Column.{Column}
use Rattle.meaning.specs.Catalog.{is_name}
use Rattle.meaning.specs.Limits.{max_columns, max_name_bytes}
use Rattle.meaning.specs.Records.{Record, spells_null}
use Rattle.init.specs.Findings.{shows_integer}
use Rattle.init.specs.declared.fault.ColumnFault.{ColumnFault}
use Rattle.init.specs.declared.fault.ColumnFault.TheVariants as column_fault
use Rattle.init.specs.declared.fault.InitFault.{InitFault}
use Rattle.init.specs.declared.fault.InitFault.TheVariants as fault
use Rattle.init.specs.declared.fault.PathFault.TheVariants as path_fault
use Rattle.init.specs.declared.findings.Findings.{Findings}

-- ---- names

abbrev pub is_short_name : List ℕ → Bool
is_short_name name = is_name name && nat_le (length name) max_name_bytes

-- the name of a column, if the field of the header is one in lower case
abbrev pub name_of : List ℕ → Option (List ℕ)
name_of field = if is_utf8 field && is_short_name (map to_ascii_lowercase field) then Some (map to_ascii_lowercase field) else None

abbrev pub has_name : List (List ℕ) → List ℕ → Bool
has_name names name = list_any (λ other. bytes_eq other name) names

-- a name that is none of those before it
abbrev pub unless_there : List (List ℕ) → Option (List ℕ) → Result (List ℕ) ColumnFault
unless_there before None = Err column_fault.NoName
unless_there before (Some name) = if has_name before name then Err column_fault.NameTwice else Ok name

abbrev pub named : List (List ℕ) → List ℕ → Result (List ℕ) ColumnFault
named before field = unless_there before (name_of field)

-- what a table isn't shown for: no header, too many columns, or the column of an index that has no name of its own
pub data Lack : Type 0 where
  no_header : Lack
  too_many : Lack
  misnamed : ℕ → ColumnFault → Lack

-- a name more, and those behind it
abbrev pub with_name : (List ℕ → Result (List (List ℕ)) Lack) → ℕ → Result (List ℕ) ColumnFault → Result (List (List ℕ)) Lack
with_name others index (Err found) = Err (misnamed index found)
with_name others index (Ok name) = others name

-- the names of a header's fields, behind these names
abbrev pub names_from : List (List ℕ) → List (List ℕ) → Result (List (List ℕ)) Lack
names_from before [] = Ok before
names_from before (field ∷ fields) = with_name (λ name. names_from (before ++ name ∷ []) fields) (length before) (named before field)

-- ---- types

-- NULL or an integer; a field that a record lacks shows nothing
abbrev pub may_be_integer : Option (List ℕ) → Bool
may_be_integer None = true
may_be_integer (Some field) = spells_null field || shows_integer field

abbrev pub is_null : Option (List ℕ) → Bool
is_null None = false
is_null (Some field) = spells_null field

-- what the fields of the column of this index have in common
abbrev pub found_at : List Record → ℕ → Findings
found_at rows index = record { integers = list_all (λ row. may_be_integer (slice_get row index)) rows; nulls = list_any (λ row. is_null (slice_get row index)) rows }

-- of so many columns
abbrev pub found_in : ℕ → List Record → List Findings
found_in columns rows = map (found_at rows) (range_with_len 0 columns)

-- integers where each field that isn't NULL is one, and NULL is taken where some field is
abbrev pub column_of : List ℕ → Findings → Column
column_of name found = record { name = name; col_type = if found.integers then col_type.Int else col_type.Text; nullable = found.nulls }

abbrev pub columns_of : List (List ℕ) → List Findings → List Column
columns_of names found = map (λ p. column_of p.0 p.1) (zip names found)

-- ---- the table

abbrev pub names_of : Record → Result (List (List ℕ)) Lack
names_of header = if nat_lt max_columns (length header) then Err too_many else names_from [] header

abbrev pub with_columns : Result (List (List ℕ)) Lack → List Record → Result (List Column) Lack
with_columns (Err lack) rows = Err lack
with_columns (Ok names) rows = Ok (columns_of names (found_in (length names) rows))

-- the columns that the records show, or what is wrong with the header
abbrev pub shown : List Record → Result (List Column) Lack
shown [] = Err no_header
shown (header ∷ rows) = with_columns (names_of header) rows

-- this is what is wrong, where the refusal is one of the header
abbrev pub IsLack : {A : Type 0} → Result A Lack → InitFault → Type 0
IsLack meant (fault.Path file path_fault.NoHeader) = meant ≡ Err no_header
IsLack meant (fault.Path file path_fault.TooManyColumns) = meant ≡ Err too_many
IsLack meant (fault.Column file column found) = (index : ℕ) × (column ≡ index + 1) × (meant ≡ Err (misnamed index found))
IsLack meant _ = ⊤
