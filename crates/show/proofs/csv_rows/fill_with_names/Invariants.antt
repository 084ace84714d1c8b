-- Loop invariants of `fill_with_names` (`csv_rows`).
use Rattle.std.proofs.Common.{◌≡◌, [], map, take}
use Rattle.csv.specs.Records.{fields_of, partial_of}
use Rattle.show.proofs.csv_rows.fill_with_names.Given as goal

abbrev pub invariant-loop-column : goal.invariant-loop-column
invariant-loop-column l = record {
  fields : fields_of l.fields ≡ map (λ c. c.name) (take l.column-index l.columns);
  partial : partial_of l.fields ≡ [];
}
