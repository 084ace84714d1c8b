-- Sums and differences of signed integers in 64 bits, and where these don't hold the exact ones.
use Rattle.std.specs.Prelude.{◌≡◌, ℕ, ◌^◌, ◌-◌, ◌<◌, ℤ, pos, negsuc, ◌+ℤ◌, ◌-ℤ◌, ◌<ℤ◌, ◌≤ℤ◌, Bool, true, false, not, cond, T}
use Rattle.std.proofs.Common.{refl, sym, ap, subst, arith, ◌∙◌, SFits, w64}
use Rattle.std.specs.Int.{from_bool, int_wrap}
use Rattle.std.specs.Int.Signed.{lt_z, lt_z_yes, clash_ℤ}
use Rattle.std.specs.Simd.Lanes.{top}
use Rattle.std.proofs.lemmas.Bool.{lt-ltb}
use Rattle.std.proofs.lemmas.Int.{ints, by_lt_z, int_wrap_fits, int_wrap-add_left}
use mir.Syntax.{bit_xor}
use borrow.Rule.Simd.Lanes.{act2}
use borrow.Table.Row.{s_int}
use Rattle.meaning.specs.Operators.{fits_i64}
use Rattle.meaning.proofs.Words.{fits_word}
use Rattle.lane_kernels.specs.Lanes.{overflow_bit}

abbrev least : ℤ
least = negsuc 9223372036854775807

abbrev most : ℤ
most = pos 9223372036854775807

-- tests of integers whose answer is known
is_true : (b : Bool) → T b → b ≡ true
is_true true holds = refl
is_true false holds = absurd holds

less_yes : (a b : ℤ) → a <ℤ b → lt_z a b ≡ true
less_yes a b less = is_true (lt_z a b) less.lt

less_no : (a b : ℤ) → b ≤ℤ a → lt_z a b ≡ false
less_no a b least_b = elim (lt_z a b) as (λ r. lt_z a b ≡ r → lt_z a b ≡ false) [
  | true ↦ λ e. clash_ℤ (lt_z_yes (subst T (sym e) tt)) least_b
  | false ↦ λ e. e
] refl

unfit : (z : ℤ) → (SFits w64 z → ⊥) → fits_i64 z ≡ false
unfit z wide = elim (fits_i64 z) as (λ r. fits_i64 z ≡ r → r ≡ false) [
  | true ↦ λ e. absurd (wide (fits_word z e))
  | false ↦ λ e. refl
] refl

-- above the range of 64 bits, below it, and within
above : (z : ℤ) → most <ℤ z → fits_i64 z ≡ false
above z over = unfit z (λ fits. omega (arith, ints, over, fits))

below : (z : ℤ) → z <ℤ least → fits_i64 z ≡ false
below z under = unfit z (λ fits. omega (arith, ints, under, fits))

within : (z : ℤ) → least ≤ℤ z → z ≤ℤ most → fits_i64 z ≡ true
within (pos n) low high = let h : n < 9223372036854775808 = omega (arith, ints, high) in lt-ltb n 9223372036854775808 h
within (negsuc n) low high = let h : n < 9223372036854775808 = omega (arith, ints, low) in lt-ltb n 9223372036854775808 h

up_zero : int_wrap w64 (pos 18446744073709551616) ≡ pos 0
unfolding int_wrap
up_zero = refl

down_zero : int_wrap w64 (negsuc 18446744073709551615) ≡ pos 0
unfolding int_wrap
down_zero = refl

-- what an integer past that range is in 64 bits
shifted : (by z : ℤ) → int_wrap w64 by ≡ pos 0 → SFits w64 (by +ℤ z) → int_wrap w64 z ≡ by +ℤ z
shifted by z none fits =
    let same : z ≡ pos 0 +ℤ z = omega (arith, ints) in
    ap (int_wrap w64) same
    ∙ ap (λ a. int_wrap w64 (a +ℤ z)) (sym none) ∙ int_wrap-add_left w64 by z ∙ int_wrap_fits w64 (by +ℤ z) fits

differ : Bool → Bool → Bool
differ true c = not c
differ false c = c

-- the bit that the masks of two tests choose by their difference
abbrev pub xor_bits : ℕ → ℕ → ℕ
xor_bits = act2 bit_xor (s_int w64) (s_int w64) (s_int w64)

masks_differ : (b c : Bool) → cond {A = ℕ} (top 63 (xor_bits (cond {A = ℕ} b (2 ^ 64 - 1) 0) (cond {A = ℕ} c (2 ^ 64 - 1) 0))) 1 0 ≡ from_bool (differ b c)
unfolding differ
masks_differ true true = refl
masks_differ true false = refl
masks_differ false true = refl
masks_differ false false = refl

module _ (x y : ℤ) (x_fits : SFits w64 x) (y_fits : SFits w64 y) where
  abbrev sum : ℤ
  sum = x +ℤ y

  -- the sum wrapped just if one of the two holds
  sum_differs : differ (lt_z (int_wrap w64 sum) x) (lt_z y (pos 0)) ≡ not (fits_i64 sum)
  unfolding differ
  sum_differs = by_lt_z most sum
      (λ over. let is = shifted (negsuc 18446744073709551615) sum down_zero (omega (arith, ints)) in
      (λ k. differ (less_yes (int_wrap w64 sum) x (omega (arith, ints)) k) (less_no y (pos 0) (omega (arith, ints)) k))
      ∙ sym (λ k. not (above sum over k)))
      (λ held. by_lt_z sum least
      (λ under. let is = shifted (pos 18446744073709551616) sum up_zero (omega (arith, ints)) in
      (λ k. differ (less_no (int_wrap w64 sum) x (omega (arith, ints)) k) (less_yes y (pos 0) (omega (arith, ints)) k))
      ∙ sym (λ k. not (below sum under k)))
      (λ low. let is = int_wrap_fits w64 sum (omega (arith, ints)) in
      by_lt_z y (pos 0)
      (λ minus. (λ k. differ (less_yes (int_wrap w64 sum) x (omega (arith, ints)) k) (less_yes y (pos 0) minus k))
      ∙ sym (λ k. not (within sum low held k)))
      (λ plus. (λ k. differ (less_no (int_wrap w64 sum) x (omega (arith, ints)) k) (less_no y (pos 0) plus k))
      ∙ sym (λ k. not (within sum low held k)))))

  pub sum_bit_is : cond {A = ℕ} (top 63 (xor_bits (cond {A = ℕ} (lt_z (int_wrap w64 sum) x) (2 ^ 64 - 1) 0) (cond {A = ℕ} (lt_z y (pos 0)) (2 ^ 64 - 1) 0))) 1 0 ≡ overflow_bit sum
  sum_bit_is = masks_differ (lt_z (int_wrap w64 sum) x) (lt_z y (pos 0)) ∙ ap from_bool sum_differs

  abbrev difference : ℤ
  difference = x -ℤ y

  -- the difference wrapped just if one of the two holds
  difference_differs : differ (lt_z x y) (lt_z (int_wrap w64 difference) (pos 0)) ≡ not (fits_i64 difference)
  unfolding differ
  difference_differs = by_lt_z most difference
      (λ over. let is = shifted (negsuc 18446744073709551615) difference down_zero (omega (arith, ints)) in
      (λ k. differ (less_no x y (omega (arith, ints)) k) (less_yes (int_wrap w64 difference) (pos 0) (omega (arith, ints)) k))
      ∙ sym (λ k. not (above difference over k)))
      (λ held. by_lt_z difference least
      (λ under. let is = shifted (pos 18446744073709551616) difference up_zero (omega (arith, ints)) in
      (λ k. differ (less_yes x y (omega (arith, ints)) k) (less_no (int_wrap w64 difference) (pos 0) (omega (arith, ints)) k))
      ∙ sym (λ k. not (below difference under k)))
      (λ low. let is = int_wrap_fits w64 difference (omega (arith, ints)) in
      by_lt_z x y
      (λ less. (λ k. differ (less_yes x y less k) (less_yes (int_wrap w64 difference) (pos 0) (omega (arith, ints)) k))
      ∙ sym (λ k. not (within difference low held k)))
      (λ up_to. (λ k. differ (less_no x y up_to k) (less_no (int_wrap w64 difference) (pos 0) (omega (arith, ints)) k))
      ∙ sym (λ k. not (within difference low held k)))))

  pub difference_bit_is : cond {A = ℕ} (top 63 (xor_bits (cond {A = ℕ} (lt_z x y) (2 ^ 64 - 1) 0) (cond {A = ℕ} (lt_z (int_wrap w64 difference) (pos 0)) (2 ^ 64 - 1) 0))) 1 0 ≡ overflow_bit difference
  difference_bit_is = masks_differ (lt_z x y) (lt_z (int_wrap w64 difference) (pos 0)) ∙ ap from_bool difference_differs
