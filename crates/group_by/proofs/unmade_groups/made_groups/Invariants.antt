-- Invariants of `made_groups` (`unmade_groups`).
use Rattle.std.proofs.Common.{◌≡◌, map, take}
use Rattle.group_by.specs.KeyOrder.{groups_at}
use Rattle.group_by.proofs.unmade_groups.made_groups.Given as goal

abbrev pub invariant-loop-k : goal.invariant-loop-k
invariant-loop-k l = l.groups.items ≡ groups_at l.keys l.rows l.columns (take l.k l.order)
