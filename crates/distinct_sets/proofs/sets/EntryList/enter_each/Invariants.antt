-- Invariants of `EntryList::enter_each` (`sets`).
use Rattle.std.proofs.Common.{take}
use Rattle.meaning.specs.Aggregate.{present}
use Rattle.distinct_sets.specs.Sets.{AreEntered, IsGrown}
use Rattle.aggregate_states.specs.Values.{selected}
use Rattle.vectors.specs.Vector.{values_of}
use Rattle.distinct_sets.proofs.sets.EntryList.enter_each.Given as goal

-- the values before this one came
abbrev pub invariant-loop-k : goal.invariant-loop-k
invariant-loop-k l = record {
  ok : AreEntered l.group_index (present (selected (values_of l.lanes) (take l.k l.selection.list))) l.fn.self l.self;
  grown : IsGrown l.group_index l.fn.self l.self;
}
