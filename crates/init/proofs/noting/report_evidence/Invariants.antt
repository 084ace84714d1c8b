-- Loop invariants of `report_evidence` (`noting`).
use Rattle.init.specs.Saying.{AddsNotes}
use Rattle.init.proofs.noting.report_evidence.Given as goal

abbrev pub invariant-loop-index : goal.invariant-loop-index
invariant-loop-index g l = AddsNotes (g.E.Write.contents l.fn.err) (g.E.Write.contents l.err)
