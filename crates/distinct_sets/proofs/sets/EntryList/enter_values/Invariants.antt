-- Invariants of `EntryList::enter_values` (`sets`).
use Rattle.std.proofs.Common.{take}
use Rattle.distinct_sets.specs.Sets.{AreEntered, IsGrown}
use Rattle.distinct_sets.proofs.sets.EntryList.enter_values.Given as goal

-- the values before this one came
abbrev pub invariant-loop-k : goal.invariant-loop-k
invariant-loop-k l = record {
  ok : AreEntered l.group_index (take l.k l.values) l.fn.self l.self;
  grown : IsGrown l.group_index l.fn.self l.self;
}
