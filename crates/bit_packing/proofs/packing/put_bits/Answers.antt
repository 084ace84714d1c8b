-- Proofs of the goals of `put_bits` (`packing`).
use Rattle.std.proofs.Common.{◌+◌, ap, arith, length}
use Rattle.bit_packing.proofs.PackedBits.{packs_kept, packs_flushed, shifted_in, word_number}
use Rattle.bit_packing.proofs.packing.put_bits.Goals as goal

pub returns-then-count-lt64-clause-packs : goal.returns-then-count-lt64-clause-packs
returns-then-count-lt64-clause-packs c = λ before k n p.
    packs_kept before _ _ _ k n c.args.number c.args.width _ p c.requires.fits (shifted_in c.args.bits.held c.args.bits.count _ c.args.number c.args.width c.from.ensures c.requires.fits (omega arith) (omega arith))

pub returns-clause-packs : goal.returns-clause-packs
returns-clause-packs c = λ before k n p.
    let all = packs_kept before _ _ _ k n c.args.number c.args.width _ p c.requires.fits (shifted_in c.args.bits.held c.args.bits.count _ c.args.number c.args.width c.from.ensures c.requires.fits (omega arith) (omega arith)) in
    packs_flushed before c.args.out.now.items c.extend_from_slice.new.self.items c.to_le_bytes.result _ (c.args.bits.count + c.args.width) _ _ _ all (omega arith) (omega arith) c.in_ok-extend_from_slice.ensures.items (word_number _ _ c.to_le_bytes.ensures (omega arith)) (ap length c.to_le_bytes.ensures)
