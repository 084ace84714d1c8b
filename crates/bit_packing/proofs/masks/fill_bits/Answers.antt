-- Proofs of the goals of `fill_bits` (`masks`).
use Rattle.std.proofs.Common.{arith}
use Rattle.bit_packing.specs.Bits.{bit_at}
use Rattle.bit_packing.proofs.Ranges.{step-range}
use Rattle.bit_packing.proofs.masks.fill_bits.Goals as goal

pub loop-i-preserved : goal.loop-i-preserved
loop-i-preserved c =
    step-range (bit_at c.args.mask.now) c.loop-i.out c.args.from c.loop-i.i c.has_bit.result (omega arith) c.loop-i.invariant c.has_bit.ensures
