-- Invariants of `comes_before` (`key_columns`).
use Rattle.std.proofs.Common.{◌≡◌, get_or, [], drop}
use Rattle.meaning.specs.Order.{row_cmp}
use Rattle.key_columns.proofs.key_columns.KeyColumns.comes_before.Given as goal

-- what is before the next column ties
abbrev pub invariant-loop-at : goal.invariant-loop-at
invariant-loop-at l = row_cmp (get_or l.self l.group_index []) l.row-2 ≡ row_cmp (drop l.at (get_or l.self l.group_index [])) (drop l.at l.row-2)
