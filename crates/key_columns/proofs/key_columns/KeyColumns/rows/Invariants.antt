-- Invariants of `rows` (`key_columns`).
use Rattle.std.proofs.Common.{◌≡◌, take}
use Rattle.key_columns.proofs.key_columns.KeyColumns.rows.Given as goal

abbrev pub invariant-loop-group_index : goal.invariant-loop-group_index
invariant-loop-group_index l = l.rows.items ≡ take l.group_index l.self
