-- Invariants of `copy_rows` (`key_list`).
use Rattle.std.proofs.Common.{◌≡◌, take}
use Rattle.group_keys.proofs.key_list.copy_rows.Given as goal

abbrev pub invariant-loop-row : goal.invariant-loop-row
invariant-loop-row l = l.copy.items ≡ take l.row-index l.rows
