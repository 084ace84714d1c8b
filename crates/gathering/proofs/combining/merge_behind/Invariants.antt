-- Loop invariants of `merge_behind` (`combining`).
use Rattle.std.proofs.Common.{◌≡◌, take}
use Rattle.gathering.specs.Merging.{all_groups, table_with}
use Rattle.gathering.specs.Totals.{all_behind}
use Rattle.gathering.proofs.combining.merge_behind.Given as goal

abbrev pub invariant-loop-k : goal.invariant-loop-k
invariant-loop-k l = l.table ≡ table_with l.plan (all_groups (take l.k (all_behind l.cells l.deltas)))
