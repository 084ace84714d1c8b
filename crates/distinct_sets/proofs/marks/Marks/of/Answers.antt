-- Proofs of the goals of `Marks::of` (`marks`).
use Rattle.std.proofs.Common.{◌≡◌, ℕ, ◌^◌, arith, sym, ap, ◌∙◌}
use Rattle.std.specs.Int.{bit_at}
use Rattle.std.proofs.lemmas.Nat.{one_shl}
use Rattle.std.proofs.lemmas.Nat.Bits.{bit_at-pow_same, bit_at-pow_other}
use Rattle.distinct_sets.proofs.marks.Marks.of.Goals as goal

alone : (offset k : ℕ) → bit_at (2 ^ offset) k ≡ 1 → k ≡ offset
alone offset k marked = grind (arith, bit_at-pow_other)

pub returns : goal.returns
returns c = λ k.
    let offset = c.args.offset in
    let is = one_shl offset 32 c.requires in (
      λ marked. alone offset k (sym (ap (λ (bits : ℕ). bit_at bits k) is) ∙ marked),
      λ same. ap (λ (bits : ℕ). bit_at bits k) is ∙ ap (bit_at (2 ^ offset)) same ∙ bit_at-pow_same offset,
    )
