-- Loop invariants of `print_others` (`noting`).
use Rattle.init.specs.Saying.{AddsNotes}
use Rattle.init.proofs.noting.print_others.Given as goal

abbrev pub invariant-loop-name : goal.invariant-loop-name
invariant-loop-name g l = AddsNotes (g.E.Write.contents l.fn.err) (g.E.Write.contents l.err)
