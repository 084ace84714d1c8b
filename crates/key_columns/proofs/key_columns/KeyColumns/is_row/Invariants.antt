-- Invariants of `is_row` (`key_columns`).
use Rattle.std.proofs.Common.{◌≡◌, ◌<◌, ℕ, get_or, []}
use Rattle.meaning.specs.Order.{column}
use Rattle.key_columns.proofs.key_columns.KeyColumns.is_row.Given as goal

abbrev pub invariant-loop-at : goal.invariant-loop-at
invariant-loop-at l = (j : ℕ) → j < l.at → column (get_or l.self l.group_index []) j ≡ column l.key-2 j
