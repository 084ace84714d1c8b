-- Invariants of `add_ints_to_sets` (`cells`).
use Rattle.std.proofs.Common.{◌≡◌, length, map}
use Rattle.meaning.specs.declared.plan.AggregateKind.TheVariants.{CountDistinct}
use Rattle.meaning.specs.declared.value.Value.TheVariants.{Int}
use Rattle.accumulators.proofs.GroupLoops.{EntriesAddUp}
use Rattle.accumulators.proofs.cells.add_ints_to_sets.Given as goal

-- the integers that are left make it whole
abbrev pub invariant-loop-k : goal.invariant-loop-k
invariant-loop-k l = record {
  height : length l.sets ≡ length l.fn.sets;
  whole : EntriesAddUp CountDistinct l.group_indexes (map Int l.ints) l.fn.sets l.k l.sets;
}
