-- Proofs of the goals of `are_unused_clear` (`windows`).
use Rattle.std.proofs.Common.{◌-◌, ◌*◌, length, nat_lt, ap, ◌∙◌, arith}
use Rattle.std.proofs.lemmas.Nat.{one_shl}
use Rattle.bit_packing.proofs.Digits.{AreBytes, last_byte}
use Rattle.bit_packing.proofs.windows.are_unused_clear.Goals as goal

pub returns : goal.returns
returns c =
    let bytes = c.args.packed.now in
    let last = length bytes - 1 in
    let small : AreBytes bytes = λ k. (c.type_inv.packed k).fits in
    ap (λ k. nat_lt c.from.result k) (one_shl (c.args.bits - 8 * last) 64 (omega arith)) ∙ last_byte bytes last c.args.bits (c.args.bits - 8 * last) c.from.result small (omega arith) (omega arith) c.from.ensures
