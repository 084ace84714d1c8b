-- A column, as contracts see it.
use Rattle.std.specs.Prelude.{◌≡◌, ℕ, nat_le, Bool, true, false, ◌&&◌, if◌then◌else◌, List, [], ◌∷◌, ◌++◌, length, Option, Some, None}
use Rattle.std.specs.List.{list_all}
use Rattle.std.specs.Str.{is_utf8}
use Rattle.meaning.specs.declared.value.ColType.{ColType}
use Rattle.meaning.specs.declared.value.ColType.TheVariants as of_type
use Rattle.meaning.specs.declared.value.Value.{Value}
use Rattle.meaning.specs.declared.value.Value.TheVariants.{Null, Int, Text}
use Rattle.meaning.specs.Limits.{max_text_bytes}
use Rattle.meaning.specs.Operators.{fits_i64}
use Rattle.columns.specs.declared.fault.ColumnFault.{ColumnFault}
use Rattle.columns.specs.declared.fault.ColumnFault.TheVariants as fault

-- its type, whether NULL may stand in it, and its values from the first row on
pub record ColumnSpec : Type 0 where
  pub col_type : ColType
  pub nullable : Bool
  pub values : List Value

-- the column with a value behind its last
abbrev pub with_value : ColumnSpec → Value → ColumnSpec
with_value c v = record { col_type = c.col_type; nullable = c.nullable; values = c.values ++ v ∷ [] }

-- a text is in UTF-8 and has at most `max_text_bytes` bytes
abbrev pub is_text : List ℕ → Bool
is_text t = is_utf8 t && nat_le (length t) max_text_bytes

-- a value that may stand in a column
abbrev pub is_of : ColType → Bool → Value → Bool
is_of col_type nullable Null = nullable
is_of of_type.Int nullable (Int n) = fits_i64 n
is_of of_type.Text nullable (Int n) = false
is_of of_type.Int nullable (Text t) = false
is_of of_type.Text nullable (Text t) = is_text t

-- each value may stand in the column
abbrev pub IsColumn : ColumnSpec → Type 0
IsColumn c = list_all (is_of c.col_type c.nullable) c.values ≡ true

-- what keeps a value out of a column: another type comes first, then NULL, then the length
abbrev pub refusal : ColType → Bool → Value → Option ColumnFault
refusal col_type nullable Null = if nullable then None else Some fault.NullNotAllowed
refusal of_type.Int nullable (Int n) = None
refusal of_type.Text nullable (Int n) = Some fault.WrongType
refusal of_type.Int nullable (Text t) = Some fault.WrongType
refusal of_type.Text nullable (Text t) = if nat_le (length t) max_text_bytes then None else Some fault.TextTooLong

-- the error code
abbrev pub number_of : ColumnFault → ℕ
number_of fault.Memory = 0
number_of fault.WrongType = 1
number_of fault.NullNotAllowed = 2
number_of fault.TextTooLong = 3
