-- Loop invariants of `no_columns` (`table`).
use Rattle.std.proofs.Common.{◌≡◌, map, take}
use Rattle.loader.specs.Columns.{no_rows}
use Rattle.loader.proofs.table.no_columns.Given as goal

abbrev pub invariant-loop-column : goal.invariant-loop-column
invariant-loop-column l = l.columns.items ≡ map no_rows (take l.column-index l.declared)
