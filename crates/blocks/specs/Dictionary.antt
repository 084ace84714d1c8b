-- A dictionary: its number of entries, the entries in ascending order, and a code for each row.
use Rattle.std.specs.Prelude.{ℕ, ◌+◌, ◌-◌, ◌*◌, nat_lt, nat_le, Bool, ◌&&◌, List, length, map, take, drop, get_or, flat_map, ◌≡◌, ◌≤◌, true, ◌++◌}
use Rattle.std.specs.List.{list_all}
use Rattle.std.specs.Int.{from_le_bytes, w16}
use Rattle.meaning.specs.declared.value.ColType.{ColType}
use Rattle.meaning.specs.declared.value.Value.{Value}
use Rattle.meaning.specs.declared.value.Value.TheVariants.{Null}
use Rattle.meaning.specs.Order.{value_cmp, is_ascending}
use Rattle.bit_packing.specs.Bytes.{shorts}
use Rattle.blocks.specs.Plain.{values_form, is_values_form, form_of, cells_at}
use Rattle.blocks.specs.Numbers.{count_of, short_bytes, word_bytes}

abbrev pub entry_bytes : ℕ → List ℕ → List ℕ
entry_bytes rows body = drop 4 (take (length body - 2 * rows) body)

abbrev pub entries_of : ColType → ℕ → List ℕ → List Value
entries_of col_type rows body = values_form col_type (count_of body) (entry_bytes rows body)

abbrev pub codes_of : ℕ → List ℕ → List ℕ
codes_of rows body = shorts rows (drop (length body - 2 * rows) body)

abbrev pub dictionary_cells : ColType → ℕ → List ℕ → List Value
dictionary_cells col_type rows body = map (λ code. get_or (entries_of col_type rows body) code Null) (codes_of rows body)

abbrev pub is_dictionary : ColType → ℕ → List ℕ → Bool
is_dictionary col_type rows body =
    nat_le (4 + 2 * rows) (length body)
    && (nat_le 1 (count_of body)
    && (nat_le (count_of body) rows
    && (is_values_form col_type (count_of body) (entry_bytes rows body)
    && (is_ascending value_cmp (entries_of col_type rows body)
    && list_all (λ code. nat_lt code (count_of body)) (codes_of rows body)))))

abbrev pub codes_in : List (List ℕ) → List ℕ
codes_in codes = map (from_le_bytes w16) codes

abbrev pub dictionary_body : ColType → List Value → List ℕ → List ℕ → List ℕ
dictionary_body col_type cells entry_rows codes =
    (word_bytes (length entry_rows) ++ form_of col_type (cells_at cells entry_rows)) ++ flat_map short_bytes codes

-- the cells in these rows ascend, and each cell is the entry of its code
pub record AreEntries (cells : List Value) (entry_rows : List ℕ) (codes : List ℕ) : Type 0 where
  pub within : list_all (λ row. nat_lt row (length cells)) entry_rows ≡ true
  pub few : length entry_rows ≤ length cells
  pub ascending : is_ascending value_cmp (cells_at cells entry_rows) ≡ true
  pub codes_within : list_all (λ code. nat_lt code (length entry_rows)) codes ≡ true
  pub cells_are : cells_at (cells_at cells entry_rows) codes ≡ cells
