-- Which offsets lead from a base to an integer of 64 bits.
use Rattle.std.proofs.Common.{◌≡◌, ℕ, ◌<◌, ◌≤◌, ℤ, pos, negsuc, ◌+ℤ◌, ◌≤ℤ◌, true, nat_le, ⊎_elim, sym, ◌∙◌, arith}
use Rattle.std.proofs.lemmas.Bool.Decides.{same_from_decides, Decides-ltb, leb_tells}
use Rattle.std.proofs.lemmas.Bool.{false≢true}
use Rattle.std.specs.Bool.{Decides}
use Rattle.std.proofs.lemmas.Int.{ints}
use Rattle.meaning.specs.Operators.{fits_i64}

pub Decides-leb : (a b : ℕ) → Decides (nat_le a b) (a ≤ b)
Decides-leb a b =
    ⊎_elim (λ t. (λ _. t.1, λ _. t.0)) (λ f. (λ e. absurd (false≢true (sym f.0 ∙ e)), λ h. (let k : b < a = f.1 in absurd (omega arith)))) (leb_tells a b)

pub fits_bounds : (z : ℤ) → fits_i64 z ≡ true → (negsuc 9223372036854775807 ≤ℤ z) × (z ≤ℤ pos 9223372036854775807)
fits_bounds (pos n) e = let h : n < 9223372036854775808 = (Decides-ltb n 9223372036854775808).0 e in (omega (arith, ints), omega (arith, ints))
fits_bounds (negsuc n) e = let h : n < 9223372036854775808 = (Decides-ltb n 9223372036854775808).0 e in (omega (arith, ints), omega (arith, ints))

pub fits_below : (z : ℤ) → negsuc 9223372036854775807 ≤ℤ z → Decides (fits_i64 z) (z ≤ℤ pos 9223372036854775807)
fits_below (pos n) low = (λ e. (fits_bounds (pos n) e).1, λ h. (Decides-ltb n 9223372036854775808).1 (omega (arith, ints)))
fits_below (negsuc n) low = (λ e. (fits_bounds (negsuc n) e).1, λ h. (Decides-ltb n 9223372036854775808).1 (omega (arith, ints)))

pub fits_by_room : (base : ℤ) (offset room : ℕ) → negsuc 9223372036854775807 ≤ℤ base → base +ℤ pos room ≡ pos 9223372036854775807 → nat_le offset room ≡ fits_i64 (base +ℤ pos offset)
fits_by_room base offset room low top =
    let less : negsuc 9223372036854775807 ≤ℤ (base +ℤ pos offset) = omega (arith, ints) in
    let by_room : Decides (nat_le offset room) ((base +ℤ pos offset) ≤ℤ pos 9223372036854775807) =
    (λ e. (let h : offset ≤ room = (Decides-leb offset room).0 e in omega (arith, ints)), λ h. (Decides-leb offset room).1 (omega (arith, ints))) in
    same_from_decides (nat_le offset room) (fits_i64 (base +ℤ pos offset)) by_room (fits_below (base +ℤ pos offset) less)
