-- Loop invariants of `texts_at` (`lanes`).
use Rattle.std.proofs.Common.{take}
use Rattle.worker.proofs.Chosen.{AreSoFar}
use Rattle.worker.proofs.lanes.texts_at.Given as goal

abbrev pub invariant-loop-position : goal.invariant-loop-position
invariant-loop-position l = AreSoFar (take l.position-index l.positions) l.texts l.nulls.items l.cells.items
