-- Invariants of `add_ints_to_sums` (`cells`).
use Rattle.std.proofs.Common.{◌≡◌, length, drop, map}
use Rattle.meaning.specs.declared.plan.AggregateKind.TheVariants.{Sum}
use Rattle.meaning.specs.declared.value.Value.TheVariants.{Int}
use Rattle.accumulators.proofs.AtGroups.{HasRoom}
use Rattle.accumulators.proofs.GroupLoops.{EntriesAddUp}
use Rattle.accumulators.proofs.cells.add_ints_to_sums.Given as goal

-- the integers that are left make it whole, and there is room for them
abbrev pub invariant-loop-k : goal.invariant-loop-k
invariant-loop-k l = record {
  height : length l.cells ≡ length l.fn.cells;
  whole : EntriesAddUp Sum l.group_indexes (map Int l.ints) l.fn.cells l.k l.cells;
  room : HasRoom (length (drop l.k l.ints)) l.cells;
}
