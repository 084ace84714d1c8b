-- Invariants of `last_first` (`handing_out`).
use Rattle.std.proofs.Common.{◌≡◌, ◌++◌, length, drop, reverse}
use Rattle.group_by.specs.GroupIndexes.{by_group_index}
use Rattle.group_by.proofs.handing_out.last_first.Given as goal

-- the groups of the keys that were popped
abbrev pub invariant-loop-key : goal.invariant-loop-key
invariant-loop-key l = record {
  keys : l.keys.items ++ drop (length l.keys.items) l.fn.keys.items ≡ l.fn.keys.items;
  groups : l.groups.items ≡ reverse (drop (length l.keys.items) (by_group_index l.fn.keys.items l.rows l.columns));
}

abbrev pub decreases-loop-key : goal.decreases-loop-key
decreases-loop-key l = length l.keys.items
