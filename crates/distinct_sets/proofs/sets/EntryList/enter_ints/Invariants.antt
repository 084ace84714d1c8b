-- Invariants of `EntryList::enter_ints` (`sets`).
use Rattle.std.proofs.Common.{take, map}
use Rattle.meaning.specs.declared.value.Value.TheVariants.{Int}
use Rattle.distinct_sets.specs.Sets.{AreEntered, IsGrown}
use Rattle.distinct_sets.proofs.sets.EntryList.enter_ints.Given as goal

-- the integers before this one came
abbrev pub invariant-loop-k : goal.invariant-loop-k
invariant-loop-k l = record {
  ok : AreEntered l.group_index (map Int (take l.k l.ints)) l.fn.self l.self;
  grown : IsGrown l.group_index l.fn.self l.self;
}
