-- Loop invariants of `copy_columns` (`header`).
use Rattle.std.proofs.Common.{◌≡◌, take}
use Rattle.fragment_file.proofs.header.copy_columns.Given as goal

abbrev pub invariant-loop-column : goal.invariant-loop-column
invariant-loop-column l = l.copy ≡ take l.column-index l.columns
