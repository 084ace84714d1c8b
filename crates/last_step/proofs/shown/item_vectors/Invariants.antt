-- Invariants of `item_vectors` (`shown`).
use Rattle.last_step.proofs.KeptGroups.{AreEvaluated}
use Rattle.last_step.proofs.shown.item_vectors.Given as goal

abbrev pub invariant-loop-item : goal.invariant-loop-item
invariant-loop-item l = AreEvaluated l.plan l.batch l.kept.list l.item-index l.fn.fault.held l.fault.held l.vectors.items
