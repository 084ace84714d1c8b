-- Invariants of `row_in` (`key_columns`).
use Rattle.std.proofs.Common.{◌≡◌, ◌≤◌, take, length, get_or, []}
use Rattle.key_columns.proofs.key_columns.KeyColumns.row_in.Given as goal

abbrev pub invariant-loop-at : goal.invariant-loop-at
invariant-loop-at l = record {
  reached : l.at ≤ length l.values.items;
  are : take l.at l.values.items ≡ take l.at (get_or l.self l.group_index []);
}
