-- The sum of numbers that stand in four bytes each.
use Rattle.std.proofs.Common.{◌≡◌, ℕ, zero, suc, ◌+◌, ◌-◌, ◌*◌, ◌≤◌, ◌^◌, List, ◌∷◌, length, drop, refl, sym, ap, ◌∙◌, arith, length-drop}
use Rattle.std.specs.Prelude.{min, sum}
use Rattle.std.proofs.lemmas.List.Sums.{sum_by-cons}
use Rattle.byteorder.specs.Endian.{little_number}
use Rattle.answer_fields.specs.Fields.{words}
use Rattle.answer_text.specs.Reading.{capped}

again : (total w s : ℕ) → capped (capped (total + w) + s) ≡ capped (total + (w + s))
again total w s = omega arith

-- one number more
pub summed : (m total w next all : ℕ) (rest behind : List ℕ) → 4 ≤ length rest → length rest ≡ m * 4 → capped (total + sum (words m rest)) ≡ all → w ≡ little_number 4 rest → next ≡ capped (total + w) → behind ≡ drop 4 rest
    → (k : ℕ) × (length behind ≡ k * 4) × (capped (next + sum (words k behind)) ≡ all)
summed zero total w next all rest behind long size so_far number more cut = absurd (omega (arith, long, size))
summed (suc k) total w next all rest behind long size so_far number more cut =
    let left : length behind ≡ k * 4 = let few = length-drop 4 rest in ap length cut ∙ omega (arith, few, size) in
    let whole : sum (words (suc k) rest) ≡ w + sum (words k behind) =
    sum_by-cons (λ x. x) (little_number 4 rest) (words k (drop 4 rest)) ∙ (λ i. sym number i + sum (words k (sym cut i))) in
    (k, left, ap (λ n. capped (n + sum (words k behind))) more ∙ again total w (sum (words k behind)) ∙ ap (λ n. capped (total + n)) (sym whole) ∙ so_far)

-- none is left
pub all_summed : (m total all : ℕ) (rest : List ℕ) → length rest ≡ m * 4 → length rest ≤ 3 → total ≡ capped total → capped (total + sum (words m rest)) ≡ all → total ≡ all
all_summed zero total all rest size few fits so_far = let none : total + 0 ≡ total = omega arith in fits ∙ ap capped (sym none) ∙ so_far
all_summed (suc k) total all rest size few fits so_far = absurd (omega (arith, size, few))

pub within : (n total : ℕ) → total ≡ capped n → total ≡ capped total
within n total is = omega (arith, is)
