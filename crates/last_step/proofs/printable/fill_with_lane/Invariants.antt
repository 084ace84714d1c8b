-- Loop invariants of `fill_with_lane` (`printable`).
use Rattle.std.proofs.Common.{◌≡◌, [], map, take}
use Rattle.csv.specs.Records.{fields_of, partial_of}
use Rattle.meaning.specs.Print.{value_text}
use Rattle.last_step.specs.Batches.{lane_row}
use Rattle.last_step.proofs.printable.fill_with_lane.Given as goal

abbrev pub invariant-loop-item : goal.invariant-loop-item
invariant-loop-item l = record {
  fields : fields_of l.fields ≡ map value_text (lane_row (take l.item-index l.items) l.lane);
  partial : partial_of l.fields ≡ [];
}
