-- Offsets of a group of eight lanes, which stand in bytes of their own.
use Rattle.std.proofs.Common.{◌≡◌, ℕ, ◌+◌, ◌*◌, ◌/◌, ◌<◌, ◌≤◌, List, ◌∷◌, ◌++◌, take, drop, map, sym, ap, ◌∙◌, arith}
use Rattle.std.specs.List.{range_with_len}
use Rattle.std.proofs.lemmas.List.{map-append, get_or-drop}
use Rattle.std.proofs.lemmas.Nat.{mul-le}
use Rattle.bit_packing.specs.Offsets.{offset_at}
use Rattle.bit_packing.proofs.Ranges.{range-append, same-ranges}
use Rattle.bit_packing.proofs.UnpackNumbers.{AreBytes, digit-take, offset_at-group}

pub cons_same : {X : Type 0} (x y : X) (xs ys : List X) → x ≡ y → xs ≡ ys → x ∷ xs ≡ y ∷ ys
cons_same x y xs ys e f = ap (λ z. z ∷ xs) e ∙ ap (λ zs. y ∷ zs) f

pub group_inside : (first k n w l : ℕ) → k < n / 8 → (8 * first + n) * w ≤ 8 * l → (first + k) * w + w ≤ l
group_inside first k n w l h e =
    let m : (8 * (first + k) + 8) * w ≤ (8 * first + n) * w = mul-le (8 * (first + k) + 8) w (8 * first + n) w (omega arith) (omega arith) in
    let s : (8 * (first + k) + 8) * w ≡ 8 * ((first + k) * w + w) = omega arith in
    omega arith

-- the offset of a lane, in the bytes of its group alone
pub offset_at-part : (w g j i m : ℕ) (xs : List ℕ) → AreBytes xs → 8 * g + j ≡ i → j < 8 → m ≡ w → offset_at w (take m (drop (g * w) xs)) j ≡ offset_at w xs i
offset_at-part w g j i m xs h e l f =
    let behind : AreBytes (drop (g * w) xs) = λ k. rw get_or-drop (h (g * w + k)) in
    let lanes : w * j ≤ w * 7 = mul-le w j w 7 (omega arith) (omega arith) in
    ap (λ (k : ℕ). offset_at w (take k (drop (g * w) xs)) j) f
    ∙ sym (digit-take w w (w * j) (drop (g * w) xs) behind (omega arith))
    ∙ offset_at-group w g j i xs h e

-- one group more
pub lanes_more : {X : Type 0} (f g : ℕ → X) (first k : ℕ) → ((j : ℕ) → j < 8 → g j ≡ f (8 * (first + k) + j))
    → map f (range_with_len (8 * first) (8 * k)) ++ map g (range_with_len 0 8) ≡ map f (range_with_len (8 * first) (8 * (k + 1)))
lanes_more f g first k h =
    let e : 8 * (k + 1) ≡ 8 * k + 8 = omega arith in
    let s : 8 * (first + k) ≡ 8 * first + 8 * k = omega arith in
    ap (λ ys. map f (range_with_len (8 * first) (8 * k)) ++ ys) (same-ranges g f 0 (8 * (first + k)) 8 (λ j l. let z : 0 + j ≡ j = omega arith in ap g z ∙ h j l))
    ∙ ap (λ (j : ℕ). map f (range_with_len (8 * first) (8 * k)) ++ map f (range_with_len j 8)) s
    ∙ sym (map-append f (range_with_len (8 * first) (8 * k)) (range_with_len (8 * first + 8 * k) 8))
    ∙ ap (map f) (sym (range-append (8 * first) (8 * k) 8))
    ∙ ap (λ (j : ℕ). map f (range_with_len (8 * first) j)) (sym e)
