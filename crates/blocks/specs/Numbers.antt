-- Numbers as the bytes that are written, the lowest byte first, and the number with which a body begins.
use Rattle.std.specs.Prelude.{ℕ, ℤ, List, take}
use Rattle.std.specs.Int.{w16, w32, w64, to_le_bytes, cast_unsigned, from_le_bytes}
pub use Rattle.bit_packing.specs.Bytes.{number_of, integer_of, integers}

-- numbers of 16, 32 and 64 bits, the lowest byte first
unfoldable pub short_bytes : ℕ → List ℕ
short_bytes n = to_le_bytes w16 n

unfoldable pub word_bytes : ℕ → List ℕ
word_bytes n = to_le_bytes w32 n

unfoldable pub integer_bytes : ℤ → List ℕ
integer_bytes n = to_le_bytes w64 (cast_unsigned w64 n)

abbrev pub count_of : List ℕ → ℕ
count_of body = from_le_bytes w32 (take 4 body)
