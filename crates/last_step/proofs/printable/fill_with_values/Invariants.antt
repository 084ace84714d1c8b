-- Loop invariants of `fill_with_values` (`printable`).
use Rattle.std.proofs.Common.{◌≡◌, [], map, take}
use Rattle.csv.specs.Records.{fields_of, partial_of}
use Rattle.meaning.specs.Print.{value_text}
use Rattle.last_step.proofs.printable.fill_with_values.Given as goal

abbrev pub invariant-loop-value : goal.invariant-loop-value
invariant-loop-value l = record {
  fields : fields_of l.fields ≡ map value_text (take l.value-index l.row);
  partial : partial_of l.fields ≡ [];
}
