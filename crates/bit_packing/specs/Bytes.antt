-- Numbers that bytes are, the lowest byte first.
use Rattle.std.specs.Prelude.{ℕ, ◌+◌, ◌*◌, ℤ, List, [], ◌∷◌, map}
use Rattle.std.specs.Int.{w16, w32, w64, from_le_bytes, cast_signed}
use Rattle.std.specs.Simd.{first_chunks}

-- all bytes as one number
abbrev pub number_of : List ℕ → ℕ
number_of [] = 0
number_of (b ∷ bytes) = b + 256 * number_of bytes

-- m numbers of 16 bits from the front
abbrev pub shorts : ℕ → List ℕ → List ℕ
shorts m bytes = map (from_le_bytes w16) (first_chunks 2 m bytes)

-- m numbers of 32 bits from the front
abbrev pub words : ℕ → List ℕ → List ℕ
words m bytes = map (from_le_bytes w32) (first_chunks 4 m bytes)

-- an integer of 64 bits, in two's complement
abbrev pub integer_of : List ℕ → ℤ
integer_of bytes = cast_signed w64 (from_le_bytes w64 bytes)

-- m integers of 64 bits from the front
abbrev pub integers : ℕ → List ℕ → List ℤ
integers m bytes = map integer_of (first_chunks 8 m bytes)
