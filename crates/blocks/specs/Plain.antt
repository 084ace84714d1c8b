-- Values one by one: integers of 64 bits, or where each text ends and then the texts.
use Rattle.std.specs.Prelude.{ℕ, ◌+◌, ◌*◌, ◌==◌, nat_le, ℤ, pos, Bool, ◌&&◌, List, [], ◌∷◌, length, map, drop, get_or, flat_map, ◌++◌}
use Rattle.std.specs.List.{list_all, concat, sum_by}
use Rattle.std.specs.Int.{w32, from_le_bytes}
use Rattle.meaning.specs.declared.value.ColType.{ColType}
use Rattle.meaning.specs.declared.value.Value.{Value}
use Rattle.meaning.specs.declared.value.Value.TheVariants.{Null, Int, Text}
use Rattle.columns.specs.Column.{is_text}
use Rattle.bit_packing.specs.Bytes.{words, integers}
use Rattle.columns.specs.Texts.{texts_from, ends_from}
use Rattle.meaning.specs.Order.{number, bytes}
use Rattle.blocks.specs.Numbers.{word_bytes, integer_bytes}
use Rattle.meaning.specs.declared.value.ColType.TheVariants as of_type

-- where each of m texts ends in the bytes that are joined behind these ends
abbrev pub ends_of : ℕ → List ℕ → List ℕ
ends_of m bytes = words m bytes

abbrev pub joined_of : ℕ → List ℕ → List ℕ
joined_of m bytes = drop (4 * m) bytes

-- m values
abbrev pub values_form : ColType → ℕ → List ℕ → List Value
values_form of_type.Int m bytes = map Int (integers m bytes)
values_form of_type.Text m bytes = map Text (texts_from 0 (ends_of m bytes) (joined_of m bytes))

-- each end is at least the one before, and the last is the number of joined bytes
abbrev pub are_ends : ℕ → List ℕ → ℕ → Bool
are_ends start [] total = start == total
are_ends start (end ∷ ends) total = nat_le start end && are_ends end ends total

-- bytes that are m values and no more
abbrev pub is_values_form : ColType → ℕ → List ℕ → Bool
is_values_form of_type.Int m bytes = length bytes == 8 * m
is_values_form of_type.Text m bytes =
    nat_le (4 * m) (length bytes)
    && (are_ends 0 (ends_of m bytes) (length (joined_of m bytes))
    && list_all is_text (texts_from 0 (ends_of m bytes) (joined_of m bytes)))

-- cells one by one
abbrev pub form_of : ColType → List Value → List ℕ
form_of of_type.Int cells = flat_map integer_bytes (map number cells)
form_of of_type.Text cells = flat_map word_bytes (ends_from 0 (map bytes cells)) ++ concat (map bytes cells)

-- values one by one
abbrev pub form_size : ColType → List Value → ℕ
form_size of_type.Int cells = 8 * length cells
form_size of_type.Text cells = sum_by (λ v. 4 + length (bytes v)) cells

-- some of the cells, by their indexes
abbrev pub cells_at : List Value → List ℕ → List Value
cells_at cells indexes = map (λ index. get_or cells index Null) indexes

abbrev pub ints_at : List ℤ → List ℕ → List ℤ
ints_at ints indexes = map (λ index. get_or ints index (pos 0)) indexes

abbrev pub texts_at : List (List ℕ) → List ℕ → List (List ℕ)
texts_at texts indexes = map (λ index. get_or texts index []) indexes

abbrev pub ends_in : List (List ℕ) → List ℕ
ends_in ends = map (from_le_bytes w32) ends

-- texts that are joined, by their ends
abbrev pub texts_in : List (List ℕ) → List ℕ → List (List ℕ)
texts_in ends joined = texts_from 0 (ends_in ends) joined

abbrev pub are_texts : List (List ℕ) → List ℕ → Bool
are_texts ends joined = are_ends 0 (ends_in ends) (length joined)
