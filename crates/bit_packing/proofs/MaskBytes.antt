-- Bits of a mask, by bytes.
use Rattle.std.proofs.Common.{◌≡◌, ℕ, ◌+◌, ◌*◌, ◌/◌, ◌%◌, ◌^◌, ◌<◌, List, [], ◌∷◌, ◌++◌, map, get_or, sym, ap, ◌∙◌, arith}
use Rattle.std.specs.Prelude.{◌==◌}
use Rattle.std.specs.List.{range_with_len}
use Rattle.bit_packing.specs.Bits.{bit_at}
use Rattle.bit_packing.proofs.Ranges.{range-append, same-ranges}
use Rattle.std.proofs.lemmas.List.{map-append}

-- ---- bits
bit_lane : (mask : List ℕ) (p j : ℕ) → j < 8 → bit_at mask (8 * p + j) ≡ bit_at (get_or mask p 0 ∷ []) (0 + j)
bit_lane mask p j h =
    let a : (8 * p + j) / 8 ≡ p = omega arith in
    let b : (8 * p + j) % 8 ≡ j = omega arith in
    let d : (0 + j) / 8 ≡ 0 = omega arith in
    let e : (0 + j) % 8 ≡ j = omega arith in
    ap (λ (k : ℕ). (get_or mask k 0 / 2 ^ ((8 * p + j) % 8)) % 2 == 1) a
    ∙ ap (λ (k : ℕ). (get_or mask p 0 / 2 ^ k) % 2 == 1) (b ∙ sym e)
    ∙ ap (λ (k : ℕ). (get_or (get_or mask p 0 ∷ []) k 0 / 2 ^ ((0 + j) % 8)) % 2 == 1) (sym d)

-- the eight bits of a byte of the mask
pub bits_of_byte : (mask : List ℕ) (p : ℕ) → map (bit_at mask) (range_with_len (8 * p) 8) ≡ map (bit_at (get_or mask p 0 ∷ [])) (range_with_len 0 8)
bits_of_byte mask p = same-ranges (bit_at mask) (bit_at (get_or mask p 0 ∷ [])) (8 * p) 0 8 (bit_lane mask p)

pub bits_more : (mask : List ℕ) (first k : ℕ)
    → map (bit_at mask) (range_with_len (8 * first) (8 * k)) ++ map (bit_at (get_or mask (first + k) 0 ∷ [])) (range_with_len 0 8)
    ≡ map (bit_at mask) (range_with_len (8 * first) (8 * (k + 1)))
bits_more mask first k =
    let e : 8 * (k + 1) ≡ 8 * k + 8 = omega arith in
    let f : 8 * first + 8 * k ≡ 8 * (first + k) = omega arith in
    ap (λ ys. map (bit_at mask) (range_with_len (8 * first) (8 * k)) ++ ys) (sym (bits_of_byte mask (first + k)))
    ∙ ap (λ (j : ℕ). map (bit_at mask) (range_with_len (8 * first) (8 * k)) ++ map (bit_at mask) (range_with_len j 8)) (sym f)
    ∙ sym (map-append (bit_at mask) (range_with_len (8 * first) (8 * k)) (range_with_len (8 * first + 8 * k) 8))
    ∙ ap (map (bit_at mask)) (sym (range-append (8 * first) (8 * k) 8))
    ∙ ap (λ (j : ℕ). map (bit_at mask) (range_with_len (8 * first) j)) (sym e)
