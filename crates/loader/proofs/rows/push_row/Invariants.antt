-- Loop invariants of `push_row` (`rows`).
use Rattle.std.proofs.Common.{◌≡◌, ◌++◌, take, drop}
use Rattle.csv.specs.Records.{fields_of}
use Rattle.meaning.specs.Records as declared
use Rattle.loader.specs.Columns.{with_row}
use Rattle.loader.specs.Steps.{values_of}
use Rattle.loader.proofs.rows.push_row.Given as goal

abbrev pub invariant-loop-i : goal.invariant-loop-i
invariant-loop-i l = l.columns ≡ with_row (take l.i l.fn.columns) (declared.catalog_row l.order.columns.items (values_of l.parsed (fields_of l.fields))) ++ drop l.i l.fn.columns
