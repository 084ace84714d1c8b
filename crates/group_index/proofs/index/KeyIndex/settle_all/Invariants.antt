-- Invariants of `settle_all` (`index`).
use Rattle.group_index.proofs.SettledInts.{AreSettled}
use Rattle.group_index.proofs.index.KeyIndex.settle_all.Given as goal

-- the integers up to the k-th have their group indexes
abbrev pub invariant-loop-k : goal.invariant-loop-k
invariant-loop-k l = AreSettled l.ints l.fn.self.keys l.k l.group_indexes.items l.self.keys
