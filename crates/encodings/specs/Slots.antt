-- Where a cell is marked while different cells are counted: equal cells have one slot.
use Rattle.std.specs.Prelude.{ℕ, ◌+◌, ◌-◌, ◌*◌, ◌/◌, ◌%◌, ◌^◌, nat_le, if◌then◌else◌, List, length, take, drop}
use Rattle.std.specs.Int.{w32, w64, from_le_bytes, cast_unsigned}
use Rattle.meaning.specs.declared.value.ColType.{ColType}
use Rattle.meaning.specs.declared.value.ColType.TheVariants as of_type
use Rattle.meaning.specs.declared.value.Value.{Value}
use Rattle.meaning.specs.declared.value.Value.TheVariants.{Null, Int, Text}
use Rattle.meaning.specs.Order.{bytes}
use Rattle.bit_packing.specs.Bytes.{number_of}

-- the highest 15 bits of a product of 64
unfoldable pub slot_of : ℕ → ℕ
slot_of word = word * 11400714819323198485 % 2 ^ 64 / 2 ^ 49

-- two words as one
abbrev pub joined : ℕ → ℕ → ℕ
joined front back = (front * 11400714819323198485 % 2 ^ 64 + back) % 2 ^ 64

unfoldable pub mixed : ℕ → ℕ → ℕ
mixed front back = (joined front back + joined front back / 2 ^ 32) % 2 ^ 64

-- eight bytes of a text from one on
abbrev pub eight_at : ℕ → List ℕ → ℕ
eight_at offset text = number_of (take 8 (drop offset text))

-- the first bytes of a text, those in the middle of a longer one, and the last
abbrev pub word_of : List ℕ → ℕ
word_of text =
    if nat_le 16 (length text) then mixed (mixed (eight_at 0 text) (eight_at (length text / 2 - 4) text)) (eight_at (length text - 8) text)
    else (if nat_le 8 (length text) then mixed (eight_at 0 text) (eight_at (length text - 8) text)
    else (if nat_le 4 (length text) then mixed (from_le_bytes w32 (take 4 text)) (from_le_bytes w32 (take 4 (drop (length text - 4) text)))
    else number_of text))

abbrev pub value_slot : Value → ℕ
value_slot Null = 0
value_slot (Int n) = slot_of (cast_unsigned w64 n)
value_slot (Text text) = slot_of (word_of text)

-- how many bytes a value takes that stands by itself
abbrev pub value_size : ColType → Value → ℕ
value_size of_type.Int v = 8
value_size of_type.Text v = 4 + length (bytes v)
