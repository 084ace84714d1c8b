-- Proofs of the goals of `put_marks` (`packing`).
use Rattle.bit_packing.proofs.packing.put_marks.Goals as goal
use Rattle.std.proofs.Common.{◌+◌, ◌*◌, ◌^◌, List, ℕ, length, subst, IfOk}
use Rattle.bit_packing.specs.Packing.{Packs}

pub returns-clause-packs : goal.returns-clause-packs
returns-clause-packs c =
    subst (λ (number : ℕ). IfOk c.put_bits.result (λ b. (before : List ℕ) (k n : ℕ) → Packs before c.args.out.now.items c.args.bits.held c.args.bits.count k n → Packs before c.put_bits.new.out.items b.held b.count (k + length c.args.nulls.now) (n + 2 ^ k * number))) c.packed_marks.ensures.value c.put_bits.ensures.packs
