-- Runs: their number, their lengths, and a value for each.
use Rattle.std.specs.Prelude.{ℕ, ◌+◌, ◌*◌, ◌==◌, nat_lt, nat_le, Bool, ◌&&◌, not, if◌then◌else◌, List, [], ◌∷◌, length, drop, sum, zip, replicate, flat_map, true, ◌≡◌, ◌++◌}
use Rattle.std.specs.List.{list_all}
use Rattle.meaning.specs.declared.value.ColType.{ColType}
use Rattle.meaning.specs.declared.value.Value.{Value}
use Rattle.bit_packing.specs.Bytes.{shorts}
use Rattle.blocks.specs.Plain.{values_form, is_values_form, form_of, cells_at}
use Rattle.blocks.specs.Numbers.{count_of, short_bytes, word_bytes}
use Rattle.meaning.specs.Order.{same_value}

abbrev pub run_lengths : List ℕ → List ℕ
run_lengths body = shorts (count_of body) (drop 4 body)

abbrev pub run_value_bytes : List ℕ → List ℕ
run_value_bytes body = drop (4 + 2 * count_of body) body

abbrev pub run_values : ColType → List ℕ → List Value
run_values col_type body = values_form col_type (count_of body) (run_value_bytes body)

-- each value as often as its run is long
abbrev pub repeated : List (Value × ℕ) → List Value
repeated runs = flat_map (λ run. replicate run.1 run.0) runs

abbrev pub run_cells : ColType → List ℕ → List Value
run_cells col_type body = repeated (zip (run_values col_type body) (run_lengths body))

abbrev pub are_runs : ColType → ℕ → List ℕ → Bool
are_runs col_type rows body =
    nat_le 4 (length body)
    && (nat_le 1 (count_of body)
    && (nat_le (count_of body) rows
    && (nat_le (4 + 2 * count_of body) (length body)
    && (list_all (λ n. nat_le 1 n) (run_lengths body)
    && (sum (run_lengths body) == rows
    && is_values_form col_type (count_of body) (run_value_bytes body))))))

-- each value as often as its run is long
abbrev pub repeats : {X : Type 0} → List X → List ℕ → List X
repeats values lengths = flat_map (λ run. replicate run.1 run.0) (zip values lengths)

-- one cell for each longest run of equal ones
abbrev pub run_heads : List Value → List Value
run_heads [] = []
run_heads (x ∷ []) = x ∷ []
run_heads (x ∷ y ∷ ys) = if same_value x y then run_heads (y ∷ ys) else x ∷ run_heads (y ∷ ys)

-- neighbours differ
abbrev pub are_unequal_neighbours : List Value → Bool
are_unequal_neighbours [] = true
are_unequal_neighbours (x ∷ []) = true
are_unequal_neighbours (x ∷ y ∷ ys) = not (same_value x y) && are_unequal_neighbours (y ∷ ys)

abbrev pub runs_body : ColType → List Value → List ℕ → List ℕ → List ℕ
runs_body col_type cells starts lengths =
    word_bytes (length starts) ++ (flat_map short_bytes lengths ++ form_of col_type (cells_at cells starts))

-- the cells are runs that begin in these rows and have these lengths, and no longer ones
pub record AreRuns (cells : List Value) (starts : List ℕ) (lengths : List ℕ) : Type 0 where
  pub cells_are : repeated (zip (cells_at cells starts) lengths) ≡ cells
  pub apart : are_unequal_neighbours (cells_at cells starts) ≡ true
  pub not_empty : list_all (nat_le 1) lengths ≡ true
  pub a_length_each : length lengths ≡ length starts
  pub within : list_all (λ start. nat_lt start (length cells)) starts ≡ true
