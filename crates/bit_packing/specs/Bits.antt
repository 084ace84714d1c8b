-- Bits in bytes.
use Rattle.std.specs.Prelude.{ℕ, ◌+◌, ◌-◌, ◌*◌, ◌/◌, ◌%◌, ◌^◌, ◌==◌, Bool, ◌||◌, not, List, length, get_or}
use Rattle.std.specs.List.{list_all, range_with_len}

-- how many bytes hold a number of bits
abbrev pub bytes_of_bits : ℕ → ℕ
bytes_of_bits bits = (bits + 7) / 8

-- bit j of a stream: bit (j mod 8) of byte (j / 8), counted from the least significant
abbrev pub bit_at : List ℕ → ℕ → Bool
bit_at bytes j = (get_or bytes (j / 8) 0 / 2 ^ (j % 8)) % 2 == 1

-- bit i of a number
abbrev pub is_set : ℕ → ℕ → Bool
is_set n i = n / 2 ^ i % 2 == 1

-- whether a test passes for each of the 64 bits that is set
unfoldable pub all_set_pass : (ℕ → Bool) → ℕ → Bool
all_set_pass p word = list_all (λ i. not (is_set word i) || p i) (range_with_len 0 64)

-- the bits behind the last row are 0
abbrev pub is_mask : ℕ → List ℕ → Bool
is_mask rows mask = list_all (λ j. not (bit_at mask j)) (range_with_len rows (8 * length mask - rows))
