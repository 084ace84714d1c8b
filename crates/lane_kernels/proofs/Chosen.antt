-- Numbers that are chosen lane by lane by a test of two vectors of signed integers, which stand as their bits.
use Rattle.std.specs.Prelude.{◌≡◌, ℕ, zero, suc, ◌-◌, ◌^◌, ℤ, Bool, true, false, cond, eqb, int_lt, List, [], ◌∷◌, length, map, replicate}
use Rattle.std.proofs.Common.{refl, sym, ap, arith, ◌∙◌, SFits, w64}
use Rattle.std.specs.Ordering.{int_eq}
use Rattle.std.specs.Simd.Lanes.{zip2, sel_l, top, Each1}
use Rattle.std.proofs.lemmas.Simd.{Each1-replicate, tops_compared, zip2_splat, zip2_splat_left}
use Rattle.std.proofs.lemmas.Bool.{eqb-true, eqb-false}
use Rattle.std.proofs.lemmas.Bool.Decides.{Decides-int_eq}
use Rattle.std.proofs.lemmas.Int.{to_z-of_z}
use mir.Val.{of_z, to_z, bits, hbits}

-- a test of bits is one of integers
abbrev pub IsOfInts : (ℕ → ℕ → Bool) → (ℤ → ℤ → Bool) → Type 0
IsOfInts f t = (a b : ℤ) → SFits w64 a → SFits w64 b → f (of_z w64 a) (of_z w64 b) ≡ t a b

abbrev pub less_of_bits : ℕ → ℕ → Bool
less_of_bits a b = int_lt (to_z w64 a) (to_z w64 b)

pub less_is : IsOfInts less_of_bits int_lt
less_is a b fits fits' k = int_lt (to_z-of_z w64 a fits k) (to_z-of_z w64 b fits' k)

pub equal_is : IsOfInts eqb int_eq
equal_is a b fits fits' = elim (eqb (of_z w64 a) (of_z w64 b)) as (λ r. eqb (of_z w64 a) (of_z w64 b) ≡ r → r ≡ int_eq a b) [
  | true ↦ λ e. sym ((Decides-int_eq a b).1 (sym (to_z-of_z w64 a fits) ∙ ap (to_z w64) (eqb-true (of_z w64 a) (of_z w64 b) e) ∙ to_z-of_z w64 b fits'))
  | false ↦ λ e. elim (int_eq a b) as (λ r. int_eq a b ≡ r → false ≡ r) [
    | true ↦ λ same. absurd (eqb-false (of_z w64 a) (of_z w64 b) e (ap (of_z w64) ((Decides-int_eq a b).0 same)))
    | false ↦ λ same. refl
  ] refl
] refl

module _ (f : ℕ → ℕ → Bool) (t : ℤ → ℤ → Bool) (same : IsOfInts f t) (p q : ℕ) where
  each_chosen : (n : ℕ) (xs ys : List ℤ) → length xs ≡ n → Each1 (SFits w64) xs → Each1 (SFits w64) ys
      → sel_l (zip2 f (map (of_z w64) xs) (map (of_z w64) ys)) (replicate n p) (replicate n q) ≡ zip2 (λ a b. cond (t a b) p q) xs ys
  each_chosen n [] ys long fits fits' = refl
  each_chosen zero (x ∷ xs) ys long fits fits' = absurd (omega (arith, long))
  each_chosen (suc n) (x ∷ xs) [] long fits fits' = refl
  each_chosen (suc n) (x ∷ xs) (y ∷ ys) long fits fits' = λ k. cond (same x y fits.0 fits'.0 k) p q ∷ each_chosen n xs ys (omega (arith, long)) fits.1 fits'.1 k

  -- the numbers that the mask of a comparison chooses
  pub chosen_is : (n : ℕ) (xs ys : List ℤ) → length xs ≡ n → Each1 (SFits w64) xs → Each1 (SFits w64) ys
      → sel_l (map (top (hbits w64)) (zip2 (λ a b. cond (f a b) (2 ^ bits w64 - 1) 0) (map (of_z w64) xs) (map (of_z w64) ys))) (replicate n p) (replicate n q) ≡ zip2 (λ a b. cond (t a b) p q) xs ys
  chosen_is n xs ys long fits fits' =
      ap (λ ms. sel_l ms (replicate n p) (replicate n q)) (tops_compared w64 f (map (of_z w64) xs) (map (of_z w64) ys))
      ∙ each_chosen n xs ys long fits fits'

-- the same beside one integer, on the right and on the left
module _ (p q : ℕ) (xs : List ℤ) (y : ℤ) (long : length xs ≡ 8) (fits : Each1 (SFits w64) xs) (fits' : SFits w64 y) where
  abbrev ys : List ℤ
  ys = replicate 8 y

  ys_fit : Each1 (SFits w64) ys
  ys_fit = Each1-replicate (SFits w64) 8 y fits'

  pub equal_to_is : sel_l (map (top (hbits w64)) (zip2 (λ a b. cond (eqb a b) (2 ^ bits w64 - 1) 0) (map (of_z w64) xs) (map (of_z w64) ys))) (replicate 8 p) (replicate 8 q) ≡ map (λ a. cond (int_eq a y) p q) xs
  equal_to_is = chosen_is eqb int_eq equal_is p q 8 xs ys long fits ys_fit ∙ zip2_splat (λ a b. cond (int_eq a b) p q) xs 8 y long

  pub less_than_is : sel_l (map (top (hbits w64)) (zip2 (λ a b. cond (less_of_bits a b) (2 ^ bits w64 - 1) 0) (map (of_z w64) xs) (map (of_z w64) ys))) (replicate 8 p) (replicate 8 q) ≡ map (λ a. cond (int_lt a y) p q) xs
  less_than_is = chosen_is less_of_bits int_lt less_is p q 8 xs ys long fits ys_fit ∙ zip2_splat (λ a b. cond (int_lt a b) p q) xs 8 y long

  pub greater_than_is : sel_l (map (top (hbits w64)) (zip2 (λ a b. cond (less_of_bits a b) (2 ^ bits w64 - 1) 0) (map (of_z w64) ys) (map (of_z w64) xs))) (replicate 8 p) (replicate 8 q) ≡ map (λ a. cond (int_lt y a) p q) xs
  greater_than_is = chosen_is less_of_bits int_lt less_is p q 8 ys xs refl ys_fit fits ∙ zip2_splat_left (λ a b. cond (int_lt a b) p q) y 8 xs long
