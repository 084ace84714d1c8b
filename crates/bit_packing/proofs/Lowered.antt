-- Offsets above the least integer, lowered again.
use Rattle.std.proofs.Common.{◌≡◌, ℕ, ◌+◌, ◌*◌, ◌/◌, ◌%◌, ◌<◌, ℤ, pos, List, drop, get_or, map, refl, ap, ◌∙◌, arith}
use Rattle.std.specs.List.{range_with_len}
use Rattle.std.proofs.lemmas.Int.{ints}
use Rattle.std.proofs.lemmas.List.FromFn.{get_or-map-range_with_len}
use Rattle.bit_packing.specs.Offsets.{lifted, offset_at}
use Rattle.bit_packing.proofs.UnpackNumbers.{AreBytes, offset_at-group, parts_of_8}

pub lowered_is : (found offset : ℕ) → lifted found ≡ lifted offset → found ≡ offset
lowered_is found offset same = omega (arith, ints, same)

-- a lane of a piece that begins at offset i, read from where i's group begins
pub lane_lifted : (w i n j : ℕ) (xs : List ℕ) (lanes : List ℤ) → AreBytes xs → j < n → lanes ≡ map (λ k. lifted (offset_at w (drop (i / 8 * w) xs) k)) (range_with_len (i % 8) n)
    → get_or lanes j (pos 0) ≡ lifted (offset_at w xs (i + j))
lane_lifted w i n j xs lanes bytes below same =
    let split : 8 * (i / 8) + (i % 8 + j) ≡ i + j = omega (arith, parts_of_8 i) in
    ap (λ ls. get_or ls j (pos 0)) same
    ∙ get_or-map-range_with_len (λ k. lifted (offset_at w (drop (i / 8 * w) xs) k)) (i % 8) n j (i % 8 + j) (pos 0) below refl
    ∙ ap lifted (offset_at-group w (i / 8) (i % 8 + j) (i + j) xs bytes split)
