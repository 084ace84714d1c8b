-- Invariants of `group_indexes` (`int_order`).
use Rattle.std.proofs.Common.{◌≡◌, map, take}
use Rattle.group_by.proofs.int_order.group_indexes.Given as goal

abbrev pub invariant-loop-one : goal.invariant-loop-one
invariant-loop-one l = l.order.items ≡ map (λ p. p.group_index) (take l.one-index l.indexed)
