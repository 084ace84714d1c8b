-- Invariants of `find_rows` (`index`).
use Rattle.std.proofs.Common.{take}
use Rattle.group_index.specs.Found.{AreFound}
use Rattle.group_keys.specs.Rows.{rows_at}
use Rattle.group_index.proofs.index.KeyIndex.find_rows.Given as goal

-- the keys up to the k-th have their group indexes
abbrev pub invariant-loop-k : goal.invariant-loop-k
invariant-loop-k l = AreFound (take l.k (rows_at l.lanes l.selection.list)) l.fn.self.keys l.group_indexes.items l.self.keys
