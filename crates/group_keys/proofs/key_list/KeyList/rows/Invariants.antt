-- Invariants of `rows` (`key_list`).
use Rattle.std.proofs.Common.{◌≡◌, take}
use Rattle.group_keys.proofs.key_list.KeyList.rows.Given as goal

abbrev pub invariant-loop-group_index : goal.invariant-loop-group_index
invariant-loop-group_index l = l.rows.items ≡ take l.group_index l.self
