-- Loop invariants of `fill_with_row` (`csv_rows`).
use Rattle.std.proofs.Common.{◌≡◌, [], take}
use Rattle.csv.specs.Records.{fields_of, partial_of}
use Rattle.show.specs.Rows.{row_of}
use Rattle.show.proofs.csv_rows.fill_with_row.Given as goal

abbrev pub invariant-loop-block : goal.invariant-loop-block
invariant-loop-block l = record {
  fields : fields_of l.fields ≡ row_of (take l.block-index l.blocks) l.row;
  partial : partial_of l.fields ≡ [];
}
