-- Vectors of sums and differences of signed integers, which stand as their bits, and of their bits of overflow.
use Rattle.std.specs.Prelude.{◌≡◌, ℕ, zero, suc, ◌-◌, ◌^◌, ℤ, pos, ◌+ℤ◌, ◌-ℤ◌, cond, List, [], ◌∷◌, length, map, replicate}
use Rattle.std.proofs.Common.{refl, arith, ◌∙◌, SFits, w64}
use Rattle.std.specs.Int.{int_wrap}
use Rattle.std.specs.Int.Signed.{lt_z}
use Rattle.std.specs.Simd.Lanes.{zip2, sel_l, top, Each1}
use Rattle.std.proofs.lemmas.Int.{wrapping_add_is, wrapping_sub_is, to_z-of_z}
use mir.Syntax.{wrap_add, wrap_sub, mask, lt, signed}
use mir.Val.{of_z, to_z}
use borrow.Rule.Simd.Lanes.{act2}
use borrow.Table.Row.{s_int}
use Rattle.lane_kernels.specs.Lanes.{overflow_bit}
use Rattle.lane_kernels.proofs.Wrapped.{xor_bits, sum_bit_is, difference_bit_is}

abbrev add_bits : ℕ → ℕ → ℕ
add_bits = act2 wrap_add (s_int w64) (s_int w64) (s_int w64)

abbrev sub_bits : ℕ → ℕ → ℕ
sub_bits = act2 wrap_sub (s_int w64) (s_int w64) (s_int w64)

abbrev less_mask : ℕ → ℕ → ℕ
less_mask = act2 (mask (lt signed)) (s_int w64) (s_int w64) (s_int w64)

abbrev bits_of : List ℤ → List ℕ
bits_of = map (of_z w64)

pub sums_are : (xs ys : List ℤ) → Each1 (SFits w64) xs → Each1 (SFits w64) ys → map (to_z w64) (zip2 add_bits (bits_of xs) (bits_of ys)) ≡ zip2 (λ a b. int_wrap w64 (a +ℤ b)) xs ys
sums_are [] ys fits fits' = refl
sums_are (x ∷ xs) [] fits fits' = refl
sums_are (x ∷ xs) (y ∷ ys) fits fits' = λ k. wrapping_add_is w64 x y fits.0 fits'.0 k ∷ sums_are xs ys fits.1 fits'.1 k

pub differences_are : (xs ys : List ℤ) → Each1 (SFits w64) xs → Each1 (SFits w64) ys → map (to_z w64) (zip2 sub_bits (bits_of xs) (bits_of ys)) ≡ zip2 (λ a b. int_wrap w64 (a -ℤ b)) xs ys
differences_are [] ys fits fits' = refl
differences_are (x ∷ xs) [] fits fits' = refl
differences_are (x ∷ xs) (y ∷ ys) fits fits' = λ k. wrapping_sub_is w64 x y fits.0 fits'.0 k ∷ differences_are xs ys fits.1 fits'.1 k

sum_flag : (x y : ℤ) → SFits w64 x → SFits w64 y → cond {A = ℕ} (top 63 (xor_bits (less_mask (add_bits (of_z w64 x) (of_z w64 y)) (of_z w64 x)) (less_mask (of_z w64 y) 0))) 1 0 ≡ overflow_bit (x +ℤ y)
sum_flag x y fits fits' =
    (λ k. cond {A = ℕ} (top 63 (xor_bits (cond {A = ℕ} (lt_z (wrapping_add_is w64 x y fits fits' k) (to_z-of_z w64 x fits k)) (2 ^ 64 - 1) 0) (cond {A = ℕ} (lt_z (to_z-of_z w64 y fits' k) (pos 0)) (2 ^ 64 - 1) 0))) 1 0)
    ∙ sum_bit_is x y fits fits'

pub sum_flags_are : (n : ℕ) (xs ys : List ℤ) → length xs ≡ n → length ys ≡ n → Each1 (SFits w64) xs → Each1 (SFits w64) ys
    → sel_l (map (top 63) (zip2 xor_bits (zip2 less_mask (zip2 add_bits (bits_of xs) (bits_of ys)) (bits_of xs)) (zip2 less_mask (bits_of ys) (replicate n 0)))) (replicate n 1) (replicate n 0)
    ≡ zip2 (λ a b. overflow_bit (a +ℤ b)) xs ys
sum_flags_are n [] ys long long' fits fits' = refl
sum_flags_are n (x ∷ xs) [] long long' fits fits' = refl
sum_flags_are zero (x ∷ xs) (y ∷ ys) long long' fits fits' = absurd (omega (arith, long))
sum_flags_are (suc n) (x ∷ xs) (y ∷ ys) long long' fits fits' = λ k. sum_flag x y fits.0 fits'.0 k ∷ sum_flags_are n xs ys (omega (arith, long)) (omega (arith, long')) fits.1 fits'.1 k

difference_flag : (x y : ℤ) → SFits w64 x → SFits w64 y → cond {A = ℕ} (top 63 (xor_bits (less_mask (of_z w64 x) (of_z w64 y)) (less_mask (sub_bits (of_z w64 x) (of_z w64 y)) 0))) 1 0 ≡ overflow_bit (x -ℤ y)
difference_flag x y fits fits' =
    (λ k. cond {A = ℕ} (top 63 (xor_bits (cond {A = ℕ} (lt_z (to_z-of_z w64 x fits k) (to_z-of_z w64 y fits' k)) (2 ^ 64 - 1) 0) (cond {A = ℕ} (lt_z (wrapping_sub_is w64 x y fits fits' k) (pos 0)) (2 ^ 64 - 1) 0))) 1 0)
    ∙ difference_bit_is x y fits fits'

pub difference_flags_are : (n : ℕ) (xs ys : List ℤ) → length xs ≡ n → length ys ≡ n → Each1 (SFits w64) xs → Each1 (SFits w64) ys
    → sel_l (map (top 63) (zip2 xor_bits (zip2 less_mask (bits_of xs) (bits_of ys)) (zip2 less_mask (zip2 sub_bits (bits_of xs) (bits_of ys)) (replicate n 0)))) (replicate n 1) (replicate n 0)
    ≡ zip2 (λ a b. overflow_bit (a -ℤ b)) xs ys
difference_flags_are n [] ys long long' fits fits' = refl
difference_flags_are n (x ∷ xs) [] long long' fits fits' = refl
difference_flags_are zero (x ∷ xs) (y ∷ ys) long long' fits fits' = absurd (omega (arith, long))
difference_flags_are (suc n) (x ∷ xs) (y ∷ ys) long long' fits fits' = λ k. difference_flag x y fits.0 fits'.0 k ∷ difference_flags_are n xs ys (omega (arith, long)) (omega (arith, long')) fits.1 fits'.1 k
