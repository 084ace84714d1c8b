-- Invariants of `put_all` (`int_table`).
use Rattle.std.proofs.Common.{List}
use Rattle.distinct_sets.specs.declared.entry.Entry.{Entry}
use Rattle.distinct_sets.specs.Slots.{AreSlotsOf}
use Rattle.distinct_sets.proofs.int_table.put_all.Given as goal

abbrev pub invariant-loop-k : goal.invariant-loop-k
invariant-loop-k l = (entries : List Entry) → AreSlotsOf entries l.others → AreSlotsOf entries l.fn.slots → AreSlotsOf entries l.slots
