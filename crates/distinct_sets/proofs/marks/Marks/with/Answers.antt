-- Proofs of the goals of `Marks::with` (`marks`).
use Rattle.std.proofs.Common.{◌≡◌, ℕ, ◌<◌, ◌⊎◌, ◌↔◌, inl, inr, max, bit_or, arith, ⊎_elim}
use Rattle.std.specs.Int.{bit_at}
use Rattle.std.proofs.lemmas.Bool.{cases_eq}
use Rattle.std.proofs.lemmas.Nat.Bits.{bit_at_or, bit_at-lt}
use Rattle.distinct_sets.proofs.marks.Marks.with.Goals as goal

greater : (r a b : ℕ) → r ≡ max a b → a < 2 → b < 2 → (r ≡ 1) ↔ ((a ≡ 1) ⊎ (b ≡ 1))
greater r a b is a_bit b_bit = (
  λ e. ⊎_elim (λ one. inl one) (λ other. inr (let here : b ≡ 1 = grind arith in here)) (cases_eq a 1),
  λ marked. ⊎_elim (λ (one : a ≡ 1). (let here : r ≡ 1 = omega arith in here)) (λ (one : b ≡ 1). (let here : r ≡ 1 = omega arith in here)) marked,
)

pub returns : goal.returns
returns c = λ k.
    let a = c.args.self.bits in
    let b = c.args.others.bits in
    greater (bit_at (bit_or a b) k) (bit_at a k) (bit_at b k) (bit_at_or a b k) (bit_at-lt a k) (bit_at-lt b k)
