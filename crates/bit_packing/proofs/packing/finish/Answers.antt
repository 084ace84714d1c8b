-- Proofs of the goals of `finish` (`packing`).
use Rattle.std.proofs.Common.{◌+◌, ◌/◌, arith, refl}
use Rattle.bit_packing.proofs.PackedBits.{packs_finished}
use Rattle.bit_packing.proofs.packing.finish.Goals as goal

pub returns : goal.returns
returns c = λ before k n p.
    packs_finished before c.args.out.now.items c.extend_from_slice.new.self.items c.to_le_bytes.result c.args.bits.held c.args.bits.count k n ((c.args.bits.count + 7) / 8) p (omega arith) refl c.to_le_bytes.ensures c.in_ok-extend_from_slice.ensures.items
