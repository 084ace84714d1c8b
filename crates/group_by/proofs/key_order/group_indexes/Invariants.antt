-- Invariants of `group_indexes` (`key_order`).
use Rattle.std.proofs.Common.{◌≡◌}
use Rattle.std.specs.List.{range_with_len}
use Rattle.group_by.proofs.key_order.group_indexes.Given as goal

abbrev pub invariant-loop-group_index : goal.invariant-loop-group_index
invariant-loop-group_index l = l.order.items ≡ range_with_len 0 l.group_index
