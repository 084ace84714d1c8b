-- Offsets of a fixed width in bits, one behind the other, and the integers that they lead to.
use Rattle.std.specs.Prelude.{ℕ, ◌+◌, ◌*◌, ◌/◌, ◌%◌, ◌^◌, ℤ, pos, negsuc, ◌+ℤ◌, List, length, map, ◌≡◌, ◌≤◌, true}
use Rattle.std.specs.List.{list_all, range_with_len}
use Rattle.meaning.specs.Limits.{row_group_rows}
use Rattle.meaning.specs.Operators.{fits_i64}
use Rattle.bit_packing.specs.Bytes.{number_of}

-- offsets are the digits, of `width` bits each, of the number that the packed bytes are
abbrev pub offset_at : ℕ → List ℕ → ℕ → ℕ
offset_at width packed i = (number_of packed / 2 ^ (width * i)) % 2 ^ width

-- integers by their offsets from a base, n of them from index `from` on
abbrev pub raised_offsets : ℤ → ℕ → List ℕ → ℕ → ℕ → List ℤ
raised_offsets base width packed from n = map (λ i. base +ℤ pos (offset_at width packed i)) (range_with_len from n)

-- an offset above the least integer of 64 bits
abbrev pub lifted : ℕ → ℤ
lifted offset = negsuc 9223372036854775807 +ℤ pos offset

-- integers that can be read by whole groups of eight offsets, n of them from one group on: the offsets lie in the bytes,
-- and each integer has 64 bits
pub record AreInGroups (base : ℤ) (width : ℕ) (packed : List ℕ) (first n : ℕ) : Type 0 where
  pub narrow : width ≤ 64
  pub few : 8 * first + n ≤ row_group_rows
  pub within : (8 * first + n) * width ≤ 8 * length packed
  pub fits : list_all fits_i64 (raised_offsets base width packed (8 * first) n) ≡ true
