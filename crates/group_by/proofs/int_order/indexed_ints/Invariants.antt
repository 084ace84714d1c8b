-- Invariants of `indexed_ints` (`int_order`).
use Rattle.group_by.specs.KeyOrder.{AreIndexed}
use Rattle.group_keys.specs.Rows.{int_keys}
use Rattle.group_by.proofs.int_order.indexed_ints.Given as goal

-- the integers up to the k-th have their group indexes
abbrev pub invariant-loop-k : goal.invariant-loop-k
invariant-loop-k l = AreIndexed (int_keys l.ints) l.k l.indexed.items
