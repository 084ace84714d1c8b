-- The mean of integers of 64 bits.
use Rattle.std.specs.Prelude.{◌≡◌, ℕ, zero, suc, ℤ, pos, negsuc, neg_ℤ, ◌/◌, ◌*◌, ◌≤◌, ◌≤ℤ◌, int_div}
use Rattle.std.proofs.Common.{arith, rules, FitsSigned, w64, to_z, of_z, ◌∙◌}
use Rattle.std.specs.Int.{w128}
use Rattle.std.proofs.lemmas.Int.{ints, to_z-of_z}
use Rattle.std.proofs.Math.Nat.{div-le_of_le-mul}
use Rattle.aggregate_states.specs.State.{IsSumOf}

small : (m : ℕ) → m ≤ 9223372036854775807 → FitsSigned w64 (pos m)
small m h = record { sfits = omega arith }

small_negated : (m : ℕ) → m ≤ 9223372036854775808 → FitsSigned w64 (neg_ℤ (pos m))
small_negated zero h = record { sfits = omega arith }
small_negated (suc m) h = record { sfits = omega (arith, h) }

pub mean_fits : (n : ℕ) (z : ℤ) → IsSumOf n z → FitsSigned w64 (int_div z (pos n))
mean_fits n (pos a) is =
    let high : pos a ≤ℤ pos (n * 9223372036854775807) = is.high in
    let below : a ≤ n * 9223372036854775807 = omega (arith, ints, high) in
    small (a / n) (div-le_of_le-mul n below)
mean_fits n (negsuc a) is =
    let low : neg_ℤ (pos (n * 9223372036854775808)) ≤ℤ negsuc a = is.low in
    let below : suc a ≤ n * 9223372036854775808 = omega (arith, ints, low) in
    small_negated (suc a / n) (div-le_of_le-mul n below)

pub wide : (z : ℤ) → FitsSigned w64 z → FitsSigned w128 z
wide z fits = search rules

-- what the code's division gives
pub quotient_is : (n : ℕ) (z d : ℤ) → FitsSigned w128 z → FitsSigned w128 d → d ≡ pos n → FitsSigned w64 (int_div z (pos n))
    → to_z w128 (of_z w128 (int_div (to_z w128 (of_z w128 z)) (to_z w128 (of_z w128 d)))) ≡ int_div z (pos n)
quotient_is n z d fits_z fits_d is fits =
    (λ i. to_z w128 (of_z w128 (int_div (to_z-of_z w128 z fits_z i) ((to_z-of_z w128 d fits_d ∙ is) i))))
    ∙ to_z-of_z w128 (int_div z (pos n)) (wide (int_div z (pos n)) fits)
