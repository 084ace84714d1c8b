-- Invariants of `add_groups` (`table`).
use Rattle.std.proofs.Common.{take}
use Rattle.group_by.specs.GroupIndexes.{AreAbsorbed}
use Rattle.group_by.proofs.table.add_groups.Given as goal

-- the groups up to this one were merged
abbrev pub invariant-loop-group : goal.invariant-loop-group
invariant-loop-group l = AreAbsorbed (take l.group-index l.groups) l.fn.index.keys l.fn.rows.items l.fn.columns.items l.taken l.index.keys l.rows.items l.columns.items l.total
