-- Invariants of `copy_columns` (`filling`).
use Rattle.std.proofs.Common.{◌≡◌, take}
use Rattle.key_columns.proofs.filling.copy_columns.Given as goal

abbrev pub invariant-loop-column : goal.invariant-loop-column
invariant-loop-column l = l.copy.items ≡ take l.column-index l.columns
