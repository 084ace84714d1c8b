-- Proofs of the goals of `are_bits_clear` (`masks`).
use Rattle.std.proofs.Common.{not, sym, ap, ◌∙◌}
use Rattle.bit_packing.specs.Bits.{bit_at}
use Rattle.bit_packing.proofs.Steps.{range_keeps}
use Rattle.bit_packing.proofs.masks.are_bits_clear.Goals as goal

pub loop-i-preserved : goal.loop-i-preserved
loop-i-preserved c =
    range_keeps (λ j. not (bit_at c.args.mask.now j)) c.args.end _ c.loop-i.i c.loop-i-test.true c.loop-i.invariant (ap not (sym c.has_bit.ensures ∙ c.if-has_bit.false))
