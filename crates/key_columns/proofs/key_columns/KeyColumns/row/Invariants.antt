-- Invariants of `row` (`key_columns`).
use Rattle.std.proofs.Common.{◌≡◌, take, get_or, []}
use Rattle.key_columns.proofs.key_columns.KeyColumns.row.Given as goal

abbrev pub invariant-loop-at : goal.invariant-loop-at
invariant-loop-at l = l.key.items ≡ take l.at (get_or l.self l.group_index [])
