-- Invariants of `EntryList::enter_each_state` (`sets`).
use Rattle.std.proofs.Common.{◌≡◌, take, true}
use Rattle.distinct_sets.specs.Sets.{are_sets, entries_of, AreEntered, IsGrown}
use Rattle.distinct_sets.proofs.sets.EntryList.enter_each_state.Given as goal

-- the entries of the states before this one came
abbrev pub invariant-loop-k : goal.invariant-loop-k
invariant-loop-k l = record {
  sets : are_sets (take l.k l.states) ≡ true;
  ok : AreEntered l.group_index (entries_of (take l.k l.states)) l.fn.self l.self;
  grown : IsGrown l.group_index l.fn.self l.self;
}
