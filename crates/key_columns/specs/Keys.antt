-- Keys that are kept column by column.
use Rattle.std.specs.Prelude.{◌≡◌, ℕ, ◌<◌, true, List, [], length, map, get_or, All, None}
use Rattle.std.specs.List.{range_with_len}
use Rattle.meaning.specs.declared.value.ColType.TheVariants as of_type
use Rattle.meaning.specs.declared.value.Value.TheVariants.{Null}
use Rattle.meaning.specs.Order.{Row}
use Rattle.columns.specs.Column.{ColumnSpec, refusal, with_value}

-- the key at a group index: a value of each column
abbrev pub key_at : List ColumnSpec → ℕ → Row
key_at columns group_index = map (λ c. get_or c.values group_index Null) columns

-- the keys from the first group index on
abbrev pub keys_in : ℕ → List ColumnSpec → List Row
keys_in many columns = map (key_at columns) (range_with_len 0 many)

-- each column has a value for each key
abbrev pub AreFull : ℕ → List ColumnSpec → Type 0
AreFull many columns = All (λ c. length c.values ≡ many) columns

abbrev pub no_column : ColumnSpec
no_column = record { col_type = of_type.Int; nullable = true; values = [] }

-- a key has a value for each column, which may stand there
pub record DoTake (columns : List ColumnSpec) (key : Row) : Type 0 where
  pub long : length columns ≡ length key
  pub each : (c : ℕ) → c < length columns → refusal (get_or columns c no_column).col_type (get_or columns c no_column).nullable (get_or key c Null) ≡ None

-- each column has a value of the key more
pub record AreWith (key : Row) (old new : List ColumnSpec) : Type 0 where
  pub long : length new ≡ length old
  pub each : (c : ℕ) → c < length old → get_or new c no_column ≡ with_value (get_or old c no_column) (get_or key c Null)
