-- Loop invariants of `mask_of_positions` (`selection`).
use Rattle.std.proofs.Common.{take}
use Rattle.vectors.specs.Selection.{IsMask}
use Rattle.vectors.proofs.selection.mask_of_positions.Given as goal

abbrev pub invariant-loop-position : goal.invariant-loop-position
invariant-loop-position l = IsMask (take l.position-index l.positions) l.below l.mask.items
