-- Results of small integers.
use Rattle.std.specs.Prelude.{◌≡◌, ℕ, ◌+◌, ◌<◌, ℤ, pos, negsuc, ◌+ℤ◌, ◌-ℤ◌, ◌*ℤ◌, ◌≤ℤ◌, ◌≤◌, Bool, true, false, bit_or, not, eqb, unsigned_abs, ◌*◌, List, length, set}
use Rattle.std.specs.Int.{from_bool, int_wrap, w64}
use Rattle.std.specs.Int.Signed.{shr_z}
use Rattle.std.proofs.Common.{refl, sym, ap, arith, subst, ◌∙◌, FitsSigned}
use Rattle.std.proofs.lemmas.Int.{fits_signed_mul, int_wrap_fits, ints}
use Rattle.std.proofs.lemmas.Nat.{div-mul-add, le_or_l, le_or_r}
use Rattle.std.proofs.Math.Nat.{mul-div_cancel}
use Rattle.std.proofs.lemmas.Bool.{lt-ltb, eqb-true, eqb-false}
use Rattle.meaning.specs.declared.expr.ArithmeticOperator.{ArithmeticOperator}
use Rattle.meaning.specs.declared.expr.ArithmeticOperator.TheVariants.{Add, Subtract, Multiply, Divide}
use Rattle.meaning.specs.Operators.{fits_i64}
use Rattle.meaning.proofs.Words.{word_fits}
use Rattle.lane_loops.specs.Lanes.{AreFilled, overflow_bit}
use Rattle.lane_loops.specs.Small.{AreSmall, AreResults, IsSmall, IsShort, arith_code, arith_int, limit_of}
use Rattle.lane_loops.proofs.Filling.{filled_more}

fits_within : (z : ℤ) → negsuc 9223372036854775807 ≤ℤ z → z ≤ℤ pos 9223372036854775807 → fits_i64 z ≡ true
fits_within (pos n) low high = let h : n < 9223372036854775808 = omega (arith, ints, high) in lt-ltb n 9223372036854775808 h
fits_within (negsuc n) low high = let h : n < 9223372036854775808 = omega (arith, ints, low) in lt-ltb n 9223372036854775808 h

bit_within : (z : ℤ) → negsuc 9223372036854775807 ≤ℤ z → z ≤ℤ pos 9223372036854775807 → overflow_bit z ≡ 0
bit_within z low high = ap (λ (b : Bool). from_bool (not b)) (fits_within z low high)

sum_bit : (m n : ℤ) → IsSmall m → IsSmall n → overflow_bit (m +ℤ n) ≡ 0
sum_bit m n a b =
    let low : negsuc 9223372036854775807 ≤ℤ (m +ℤ n) = omega (arith, ints, a.0, b.0) in
    let high : (m +ℤ n) ≤ℤ pos 9223372036854775807 = omega (arith, ints, a.1, b.1) in
    bit_within (m +ℤ n) low high

difference_bit : (m n : ℤ) → IsSmall m → IsSmall n → overflow_bit (m -ℤ n) ≡ 0
difference_bit m n a b =
    let low : negsuc 9223372036854775807 ≤ℤ (m -ℤ n) = omega (arith, ints, a.0, a.1, b.0, b.1) in
    let high : (m -ℤ n) ≤ℤ pos 9223372036854775807 = omega (arith, ints, a.0, a.1, b.0, b.1) in
    bit_within (m -ℤ n) low high

short_abs : (z : ℤ) → IsShort z → unsigned_abs z ≤ 2147483648
short_abs (pos n) small = let h = small.1 in omega (arith, ints, h)
short_abs (negsuc n) small = let h = small.0 in omega (arith, ints, h)

-- a short integer comes back from a shift by 32 bits and back
shift_is : (a : ℕ) → (negsuc a *ℤ pos 4294967296) ≡ negsuc (a * 4294967296 + 4294967295)
shift_is a = omega (arith, ints)

shift_fits : (z : ℤ) → IsShort z → FitsSigned w64 (z *ℤ pos 4294967296)
shift_fits (pos a) small = let h = small.1 in record { sfits = omega (arith, ints, h) }
shift_fits (negsuc a) small = let h = small.0 in subst (FitsSigned w64) (sym (shift_is a)) (record { sfits = omega (arith, ints, h) })

shift_back : (z : ℤ) → shr_z (z *ℤ pos 4294967296) 4294967296 ≡ z
shift_back (pos a) = ap pos (mul-div_cancel a (omega arith))
shift_back (negsuc a) = ap (λ (y : ℤ). shr_z y 4294967296) (shift_is a) ∙ ap negsuc (div-mul-add a 4294967296 4294967295 (omega arith))

pub shortened_is : (z : ℤ) → IsShort z → shr_z (int_wrap w64 (z *ℤ pos 4294967296)) 4294967296 ≡ z
shortened_is z small = ap (λ (y : ℤ). shr_z y 4294967296) (int_wrap_fits w64 (z *ℤ pos 4294967296) (shift_fits z small)) ∙ shift_back z

short_bit : (m n : ℤ) → IsShort m → IsShort n → overflow_bit (m *ℤ n) ≡ 0
short_bit m n a b = ap (λ (x : Bool). from_bool (not x)) (word_fits (m *ℤ n) (fits_signed_mul w64 m n 2147483648 2147483648 (short_abs m a) (short_abs n b) (omega arith)))

-- no fault is reported for such operands
small_code : (op : ArithmeticOperator) (m n : ℤ) → AreSmall op m n → arith_code op m n ≡ 0
small_code Add m n small = sum_bit m n small.0 small.1
small_code Subtract m n small = difference_bit m n small.0 small.1
small_code Multiply m n small = short_bit m n small.0 small.1
small_code Divide m n small = absurd small

-- the bits of two are below what neither reaches
below_left : (a b limit : ℕ) → bit_or a b < limit → a < limit
below_left a b limit h = let l = le_or_l a b in omega (arith, h, l)

below_right : (a b limit : ℕ) → bit_or a b < limit → b < limit
below_right a b limit h = let r = le_or_r a b in omega (arith, h, r)

pub both_below : {A B : Type 0} (a b limit : ℕ) → (a < limit → A) → (b < limit → B) → bit_or a b < limit → A × B
both_below a b limit f g h = (f (below_left a b limit h), g (below_right a b limit h))

module _ (op : ArithmeticOperator) (n : ℕ) (left right : ℕ → ℤ) where
  results_more : (out : List ℤ) (i : ℕ) → AreResults op n i left right out → i < n → AreSmall op (left i) (right i)
      → AreResults op n (i + 1) left right (set out i (arith_int op (left i) (right i)))
  results_more out i so_far within small = record { long = more.long; each = more.each; held = held } where
    before : AreFilled (pos 0) n i (λ j. arith_int op (left j) (right j)) out
    before = record { long = so_far.long; each = so_far.each }

    more : AreFilled (pos 0) n (i + 1) (λ j. arith_int op (left j) (right j)) (set out i (arith_int op (left i) (right i)))
    more = filled_more (pos 0) n (λ j. arith_int op (left j) (right j)) out i _ before within refl

    held : (j : ℕ) → j < i + 1 → arith_code op (left j) (right j) ≡ 0
    held j below = elim (eqb j i) as (λ b. eqb j i ≡ b → arith_code op (left j) (right j) ≡ 0) [
      | true ↦ λ e. let at : i ≡ j = sym (eqb-true j i e) in subst (λ (k : ℕ). arith_code op (left k) (right k) ≡ 0) at (small_code op (left i) (right i) small)
      | false ↦ λ e. let apart : j ≡ i → ⊥ = eqb-false j i e in let earlier : j < i = omega (arith, below, apart) in so_far.held j earlier
    ] refl

  -- one lane more, unless one was large
  pub goes_on : (old new : List ℤ) (i was is : ℕ) → i < n
      → (was < limit_of op → AreResults op n i left right old)
      → (is < limit_of op → AreSmall op (left i) (right i))
      → (is < limit_of op → new ≡ set old i (arith_int op (left i) (right i)))
      → bit_or was is < limit_of op → AreResults op n (i + 1) left right new
  goes_on old new i was is within so_far small put below =
      let here = below_right was is (limit_of op) below in
      subst (AreResults op n (i + 1) left right) (sym (put here)) (results_more old i (so_far (below_left was is (limit_of op) below)) within (small here))

  pub none_yet : (out : List ℤ) → length out ≡ n → AreResults op n 0 left right out
  none_yet out long = record { long = long; each = λ j below. absurd (omega (arith, below)); held = λ j below. absurd (omega (arith, below)) }
