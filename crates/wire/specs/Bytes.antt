-- Numbers, texts and the seal as bytes. Numbers stand with their lowest byte first, signed ones in two's complement.
use Rattle.std.specs.Prelude.{◌≡◌, ℕ, ℤ, ◌<◌, ◌^◌, true, List, ◌++◌, length}
use Rattle.std.specs.Int.{w64, w128, cast_unsigned}
use Rattle.std.specs.Str.{is_utf8}
use Rattle.byteorder.specs.Endian.{little_bytes}
use Rattle.sha2.specs.Sha256.{sha256}

-- a number of n bytes
unfoldable pub number_bytes : ℕ → ℕ → List ℕ
number_bytes n x = little_bytes n x

abbrev pub i64_bytes : ℤ → List ℕ
i64_bytes z = number_bytes 8 (cast_unsigned w64 z)

abbrev pub i128_bytes : ℤ → List ℕ
i128_bytes z = number_bytes 16 (cast_unsigned w128 z)

-- a text behind its length, a number of w bytes
unfoldable pub text_bytes : ℕ → List ℕ → List ℕ
text_bytes w text = number_bytes w (length text) ++ text

-- a text that a length of w bytes can stand before
pub record IsText (w : ℕ) (text : List ℕ) : Type 0 where
  pub is_text : is_utf8 text ≡ true
  pub short : length text < 256 ^ w

-- the seal of bytes is their SHA-256
unfoldable pub seal_of : List ℕ → List ℕ
seal_of bytes = sha256 bytes

-- bytes with their seal
abbrev pub sealed : List ℕ → List ℕ
sealed bytes = bytes ++ seal_of bytes
