-- Steps of loops that fill a list from the front, and ranges of indexes.
use Rattle.std.proofs.Common.{◌≡◌, ℕ, zero, suc, ◌+◌, ◌<◌, List, [], ◌∷◌, ◌++◌, length, take, map, set, get_or, refl, sym, ap, ◌∙◌, arith, Bool, true, ℤ, pos, negsuc, w64, to_z, of_z}
use Rattle.std.specs.List.{range_with_len, list_all}
use lib.Signed.{mag}
use Rattle.std.proofs.Math.Facts.{to_z-neg}
use Rattle.std.proofs.lemmas.Int.{to_z_pos}
use Rattle.meaning.specs.Operators.{fits_i64}
use Rattle.meaning.proofs.Tests.{first_of, second_of}
use Rattle.std.proofs.lemmas.List.{take_more_set}
use Rattle.std.proofs.lemmas.List.FromFn.{map-range_with_len_more, get_or-map-range_with_len, length-map-range_with_len}

pub step-range : {X : Type 0} (f : ℕ → X) (out : List X) (a i : ℕ) (v : X)
    → i < length out → take i out ≡ map f (range_with_len a i) → v ≡ f (a + i)
    → take (i + 1) (set out i v) ≡ map f (range_with_len a (i + 1))
step-range f out a i v h e g =
    take_more_set out i v h ∙ ap (λ xs. xs ++ v ∷ []) e ∙ ap (λ x. map f (range_with_len a i) ++ x ∷ []) g
    ∙ sym (map-range_with_len_more f a i (a + i) refl)

-- ---- ranges
pub range-append : (a m n : ℕ) → range_with_len a (m + n) ≡ range_with_len a m ++ range_with_len (a + m) n
range-append a zero n =
    ap (λ (j : ℕ). range_with_len a j) (let e : 0 + n ≡ n = omega arith in e)
    ∙ ap (λ (j : ℕ). range_with_len j n) (let e : a ≡ a + 0 = omega arith in e)
range-append a (suc m) n =
    ap (λ (j : ℕ). range_with_len a j) (let e : suc m + n ≡ suc (m + n) = omega arith in e)
    ∙ ap (λ ys. a ∷ ys) (range-append (a + 1) m n)
    ∙ ap (λ (j : ℕ). a ∷ (range_with_len (a + 1) m ++ range_with_len j n)) (let e : a + 1 + m ≡ a + suc m = omega arith in e)

pub same-ranges : {X : Type 0} (f g : ℕ → X) (a b n : ℕ) → ((j : ℕ) → j < n → f (a + j) ≡ g (b + j)) → map f (range_with_len a n) ≡ map g (range_with_len b n)
same-ranges f g a b zero h = refl
same-ranges f g a b (suc n) h =
    let e : a ≡ a + 0 = omega arith in
    let k : b ≡ b + 0 = omega arith in
    let first : f a ≡ g b = ap f e ∙ h 0 (omega arith) ∙ sym (ap g k) in
    ap (λ x. x ∷ map f (range_with_len (a + 1) n)) first
    ∙ ap (λ xs. g b ∷ xs) (same-ranges f g (a + 1) (b + 1) n
    (λ j l. let s : a + 1 + j ≡ a + (j + 1) = omega arith in let t : b + (j + 1) ≡ b + 1 + j = omega arith in
    ap f s ∙ h (j + 1) (omega arith) ∙ ap g t))

-- ---- tests of all elements
pub all-at : {X : Type 0} (p : X → Bool) (xs : List X) (i : ℕ) (d : X) → list_all p xs ≡ true → i < length xs → p (get_or xs i d) ≡ true
all-at p [] i d h l = absurd (omega arith)
all-at p (x ∷ xs) zero d h l = first_of (p x) (list_all p xs) h
all-at p (x ∷ xs) (suc i) d h l = all-at p xs i d (second_of (p x) (list_all p xs) h) (omega arith)

-- a stored signed number
pub stored : (z : ℤ) → mag z < 9223372036854775808 → to_z w64 (of_z w64 z) ≡ z
stored (pos n) h = to_z_pos w64 n h
stored (negsuc k) h = to_z-neg w64 k h

-- one of the integers that all fit
pub fits-at : (f : ℕ → ℤ) (a n i : ℕ) → list_all fits_i64 (map f (range_with_len a n)) ≡ true → i < n → fits_i64 (f (a + i)) ≡ true
fits-at f a n i h l =
    let e : length (map f (range_with_len a n)) ≡ n = length-map-range_with_len f a n in
    ap fits_i64 (sym (get_or-map-range_with_len f a n i (a + i) (pos 0) l refl))
    ∙ all-at fits_i64 (map f (range_with_len a n)) i (pos 0) h (omega (arith, e))
