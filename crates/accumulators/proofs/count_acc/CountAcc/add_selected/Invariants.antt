-- Invariants of `CountAcc::add_selected` (`count_acc`).
use Rattle.std.proofs.Common.{◌+◌, ◌≤◌, length}
use Rattle.meaning.specs.declared.plan.AggregateKind.TheVariants.{Count}
use Rattle.aggregate_states.specs.State.{most_entries}
use Rattle.vectors.specs.Vector.{values_of}
use Rattle.aggregate_states.proofs.Growing.{AddsUp}
use Rattle.accumulators.proofs.count_acc.CountAcc.add_selected.Given as goal

-- the values that are left make it whole, and there is room for them
abbrev pub invariant-loop-k : goal.invariant-loop-k
invariant-loop-k l = record {
  whole : AddsUp Count (values_of l.lanes) l.selection.list l.fn.self l.k l.self;
  few : l.self.count + length l.selection.list ≤ most_entries + l.k;
}
