-- Loop invariants of `take_all_values` (`value`).
use Rattle.std.proofs.Common.{◌≡◌, ◌-◌, ◌≤◌, length, take, true}
use Rattle.std.specs.List.{list_all}
use Rattle.aggregate_states.specs.Values.{is_spelled}
use Rattle.packed_groups.specs.Reading.{value_at}
use Rattle.wire.specs.Reading.{repeat_at}
use Rattle.wire.proofs.Loops.{read_behind}
use Rattle.packed_groups.proofs.value.take_all_values.Given as goal

abbrev pub invariant-loop-position : goal.invariant-loop-position
invariant-loop-position l = record {
  reached : l.position ≤ length l.values.items;
  read : read_behind value_at (take l.position l.values.items) (l.count - l.position) l.rest ≡ repeat_at value_at l.count l.bytes;
  spelled : list_all is_spelled (take l.position l.values.items) ≡ true;
}
