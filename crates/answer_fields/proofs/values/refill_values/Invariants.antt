-- Loop invariants of `refill_values` (`values`).
use Rattle.std.proofs.Common.{◌≡◌, ◌-◌, ◌≤◌, length, take, true}
use Rattle.std.specs.List.{list_all}
use Rattle.aggregate_states.specs.Values.{is_spelled}
use Rattle.answer_fields.specs.LayoutReading.{value_at}
use Rattle.wire.specs.Reading.{repeat_at}
use Rattle.wire.proofs.Loops.{read_behind}
use Rattle.answer_fields.proofs.values.refill_values.Given as goal

abbrev pub invariant-loop-position : goal.invariant-loop-position
invariant-loop-position l = record {
  reached : l.position ≤ length l.values.items;
  read : read_behind value_at (take l.position l.values.items) (l.count - l.position) l.rest ≡ repeat_at value_at l.count l.bytes;
  spelled : list_all is_spelled (take l.position l.values.items) ≡ true;
}
