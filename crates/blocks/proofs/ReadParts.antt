-- Where texts stand that are joined.
use Rattle.std.proofs.Common.{◌≡◌, ℕ, zero, suc, ◌-◌, ◌<◌, ◌≤◌, List, [], ◌∷◌, length, take, drop, get_or, refl, ap, arith, true}
use borrow.Author.Tests.{leb-true, eqb-true}
use Rattle.meaning.proofs.Tests.{first_of, second_of}
use Rattle.columns.specs.Texts.{texts_from}
use Rattle.blocks.specs.Plain.{are_ends}

pub length-texts_from : (start : ℕ) (ends joined : List ℕ) → length (texts_from start ends joined) ≡ length ends
length-texts_from start [] joined = refl
length-texts_from start (end ∷ ends) joined = ap (λ (k : ℕ). suc k) (length-texts_from end ends joined)

pub get_or-texts_from : (start : ℕ) (ends joined : List ℕ) (i : ℕ) → i < length ends
    → take (get_or ends i 0 - get_or (start ∷ ends) i 0) (drop (get_or (start ∷ ends) i 0) joined) ≡ get_or (texts_from start ends joined) i []
get_or-texts_from start [] joined i h = absurd (omega arith)
get_or-texts_from start (end ∷ ends) joined zero h = refl
get_or-texts_from start (end ∷ ends) joined (suc i) h = get_or-texts_from end ends joined i (omega arith)

pub ends_below : (start : ℕ) (ends : List ℕ) (total : ℕ) → are_ends start ends total ≡ true → start ≤ total
ends_below start [] total h = let e : start ≡ total = eqb-true start total h in omega arith
ends_below start (end ∷ ends) total h =
    let a : start ≤ end = leb-true start end (first_of _ _ h) in
    let b : end ≤ total = ends_below end ends total (second_of _ _ h) in
    omega arith

pub ends_ordered : (start : ℕ) (ends : List ℕ) (total i : ℕ) → are_ends start ends total ≡ true → i < length ends → get_or (start ∷ ends) i 0 ≤ get_or ends i 0
ends_ordered start [] total i h l = absurd (omega arith)
ends_ordered start (end ∷ ends) total zero h l = leb-true start end (first_of _ _ h)
ends_ordered start (end ∷ ends) total (suc i) h l = ends_ordered end ends total i (second_of _ _ h) (omega arith)

pub ends_within : (start : ℕ) (ends : List ℕ) (total i : ℕ) → are_ends start ends total ≡ true → i < length ends → get_or ends i 0 ≤ total
ends_within start [] total i h l = absurd (omega arith)
ends_within start (end ∷ ends) total zero h l = ends_below end ends total (second_of _ _ h)
ends_within start (end ∷ ends) total (suc i) h l = ends_within end ends total i (second_of _ _ h) (omega arith)
