-- Loop invariants of `fill_with_headers` (`printing`).
use Rattle.std.proofs.Common.{◌≡◌, [], map, take}
use Rattle.csv.specs.Records.{fields_of, partial_of}
use Rattle.last_step.proofs.printing.fill_with_headers.Given as goal

abbrev pub invariant-loop-item : goal.invariant-loop-item
invariant-loop-item l = record {
  fields : fields_of l.fields ≡ map (λ i. i.header) (take l.item-index l.items);
  partial : partial_of l.fields ≡ [];
}
