-- Proofs of the goals of `fill_lifted` (`offsets`).
use Rattle.std.proofs.Common.{length}
use Rattle.std.specs.List.{range_with_len}
use Rattle.bit_packing.proofs.OffsetPieces.{all_fit}
use Rattle.bit_packing.proofs.offsets.fill_lifted.Goals as goal

pub fill_raised-requires-clause-fits : goal.fill_raised-requires-clause-fits
fill_raised-requires-clause-fits c = all_fit c.args.width c.args.packed.now c.requires.width (range_with_len c.args.from (length c.args.out.now))
