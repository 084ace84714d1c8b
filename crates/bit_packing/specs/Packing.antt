-- Numbers of a fixed width in bits, as they are packed one after the other without gaps.
use Rattle.std.specs.Prelude.{◌≡◌, ℕ, ◌+◌, ◌*◌, ◌^◌, ◌<◌, Bool, true, false, List, [], ◌∷◌, ◌++◌, length, drop}
use Rattle.bit_packing.specs.Bits.{bytes_of_bits}
use Rattle.bit_packing.specs.Bytes.{number_of}

-- the numbers as one number, the first in its lowest bits
abbrev pub packed : ℕ → List ℕ → ℕ
packed width [] = 0
packed width (n ∷ ns) = n + 2 ^ width * packed width ns

abbrev pub bit_of : Bool → ℕ
bit_of true = 1
bit_of false = 0

-- `bits` bits are the number so far: the bytes behind `before`, and above them `count` bits that are not yet written
pub record Packs (before out : List ℕ) (held count bits number : ℕ) : Type 0 where
  pub parts : out ≡ before ++ drop (length before) out
  pub number_is : number_of (drop (length before) out) + 2 ^ (8 * length (drop (length before) out)) * held ≡ number
  pub long : 8 * length (drop (length before) out) + count ≡ bits
  pub low : held < 2 ^ count

-- behind `before` stands a number of `bits` bits
pub record ArePacked (before out : List ℕ) (bits number : ℕ) : Type 0 where
  pub parts : out ≡ before ++ drop (length before) out
  pub number_is : number_of (drop (length before) out) ≡ number
  pub long : length (drop (length before) out) ≡ bytes_of_bits bits
