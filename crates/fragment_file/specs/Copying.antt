-- What a column takes from the blocks of a file.
use Rattle.std.specs.Prelude.{Bool, true, false, List, ◌++◌}
use Rattle.meaning.specs.declared.value.ColType.{ColType}
use Rattle.meaning.specs.declared.value.ColType.TheVariants as of_type
use Rattle.meaning.specs.declared.value.Value.{Value}
use Rattle.meaning.specs.declared.value.Value.TheVariants.{Null, Int, Text}
use Rattle.columns.specs.Column.{ColumnSpec, is_text}

-- a value of 64 bits, a text or a NULL that a column of the type takes
abbrev pub is_taken : ColType → Bool → Value → Bool
is_taken col_type nullable Null = nullable
is_taken of_type.Int nullable (Int n) = true
is_taken of_type.Text nullable (Int n) = false
is_taken of_type.Int nullable (Text t) = false
is_taken of_type.Text nullable (Text t) = is_text t

-- the column with values behind its last
abbrev pub with_values : ColumnSpec → List Value → ColumnSpec
with_values c values = record { col_type = c.col_type; nullable = c.nullable; values = c.values ++ values }
