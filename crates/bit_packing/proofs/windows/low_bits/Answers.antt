-- Proofs of the goals of `low_bits` (`windows`).
use Rattle.std.proofs.Common.{◌-◌, ap, ◌∙◌, bit_and, arith}
use Rattle.std.proofs.lemmas.Nat.{one_shl, and_mask}
use Rattle.bit_packing.proofs.windows.low_bits.Goals as goal

pub returns : goal.returns
returns c = ap (λ k. bit_and c.args.number (k - 1)) (one_shl c.args.width 64 (omega arith)) ∙ and_mask c.args.number c.args.width
