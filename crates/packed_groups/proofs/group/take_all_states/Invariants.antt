-- Loop invariants of `take_all_states` (`group`).
use Rattle.std.proofs.Common.{◌≡◌, ◌-◌}
use Rattle.wire.specs.Reading.{repeat_at}
use Rattle.wire.proofs.Loops.{read_behind}
use Rattle.packed_groups.specs.Reading.{state_at}
use Rattle.packed_groups.proofs.group.take_all_states.Given as goal

abbrev pub invariant-loop : goal.invariant-loop
invariant-loop l = read_behind state_at l.states.items (l.width - l.counter) l.rest ≡ repeat_at state_at l.width l.bytes
