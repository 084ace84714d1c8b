-- Invariants of `fresh_columns` (`state_columns`).
use Rattle.std.proofs.Common.{map, take}
use Rattle.group_by.specs.GroupIndexes.{AreFresh}
use Rattle.group_by.proofs.state_columns.fresh_columns.Given as goal

abbrev pub invariant-loop-aggregate : goal.invariant-loop-aggregate
invariant-loop-aggregate l = AreFresh l.height (map (λ a. a.kind) (take l.aggregate-index l.aggregates)) l.columns.items
