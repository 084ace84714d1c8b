-- Invariants of `columns_of` (`key_list`).
use Rattle.std.proofs.Common.{◌≡◌, take}
use Rattle.group_keys.proofs.key_list.columns_of.Given as goal

abbrev pub invariant-loop-row : goal.invariant-loop-row
invariant-loop-row l = l.columns ≡ take l.row-index l.rows
