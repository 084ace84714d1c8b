-- Invariants of `copy_columns` (`state_columns`).
use Rattle.std.proofs.Common.{◌≡◌, take}
use Rattle.group_by.proofs.state_columns.copy_columns.Given as goal

abbrev pub invariant-loop-column : goal.invariant-loop-column
invariant-loop-column l = l.copy.items ≡ take l.column-index l.columns
