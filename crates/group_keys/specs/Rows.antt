-- The rows that vectors have at some positions.
use Rattle.std.specs.Prelude.{◌≡◌, ℕ, ℤ, true, List, [], ◌∷◌, map, length, All, get_or}
use Rattle.std.specs.Borrow.{Bor}
use Rattle.meaning.specs.declared.value.Value.TheVariants.{Null, Int, Text}
use Rattle.meaning.specs.Order.{Row}
use Rattle.vectors.specs.declared.vector.Vector.{Vector}
use Rattle.vectors.specs.Vector.{values_of}
use Rattle.aggregate_states.specs.Values.{is_spelled}

-- the row at a position, a value from each vector
abbrev pub row_at : List Vector → ℕ → Row
row_at columns at = map (λ lanes. get_or (values_of lanes) at Null) columns

-- the rows at some positions
abbrev pub rows_at : List Vector → List ℕ → List Row
rows_at columns selection = map (row_at columns) selection

-- the keys of these integers alone
abbrev pub int_keys : List ℤ → List Row
int_keys ints = map (λ z. Int z ∷ []) ints

-- the keys of these texts alone
abbrev pub text_keys : List (Bor (List ℕ)) → List Row
text_keys texts = map (λ t. Text t.now ∷ []) texts

-- vectors of so many lanes, whose texts are UTF-8
abbrev pub AreLanesOf : ℕ → List Vector → Type 0
AreLanesOf rows columns = All (λ lanes. (length (values_of lanes) ≡ rows) × All (λ v. is_spelled v ≡ true) (values_of lanes)) columns
