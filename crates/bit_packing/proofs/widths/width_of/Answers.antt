-- Proofs of the goals of `width_of` (`widths`).
use Rattle.std.proofs.Common.{arith}
use Rattle.bit_packing.proofs.LeastWidths.{width_is}
use Rattle.bit_packing.proofs.widths.width_of.Goals as goal

pub returns : goal.returns
returns c = width_is c.args.number (omega arith)
