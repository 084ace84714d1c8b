-- Loop invariants of `report_tables` (`noting`).
use Rattle.init.specs.Saying.{AddsNotes}
use Rattle.init.proofs.noting.report_tables.Given as goal

abbrev pub invariant-loop-dim : goal.invariant-loop-dim
invariant-loop-dim g l = AddsNotes (g.E.Write.contents l.fn.err) (g.E.Write.contents l.err)
