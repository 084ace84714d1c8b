-- Invariants of `combine` (`handing_out`).
use Rattle.std.proofs.Common.{◌≡◌, ◌++◌, length, drop, reverse}
use Rattle.group_by.specs.Combined.{combined}
use Rattle.group_by.proofs.handing_out.combine.Given as goal

-- the groups that were popped, those of one key as one
abbrev pub invariant-loop-group : goal.invariant-loop-group
invariant-loop-group l = record {
  groups : l.groups.items ++ drop (length l.groups.items) l.fn.groups.items ≡ l.fn.groups.items;
  out : reverse l.out.items ≡ combined (drop (length l.groups.items) l.fn.groups.items);
}

abbrev pub decreases-loop-group : goal.decreases-loop-group
decreases-loop-group l = length l.groups.items
