-- Loop invariants of `absorb_records` (`reading`).
use Rattle.journal.proofs.ReadTo.{IsReadTo}
use Rattle.journal.proofs.reading.absorb_records.Given as goal

abbrev pub invariant-loop : goal.invariant-loop
invariant-loop g l = IsReadTo (g.D.Disk.shown l.fn.disk) (g.D.Disk.shown l.disk) l.fn.cells l.cells l.end l.counter l.at
