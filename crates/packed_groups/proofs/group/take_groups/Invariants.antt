-- Loop invariants of `take_groups` (`group`).
use Rattle.std.proofs.Common.{◌≡◌, ◌-◌}
use Rattle.wire.specs.Reading.{repeat_at}
use Rattle.wire.proofs.Loops.{read_behind}
use Rattle.packed_groups.specs.Reading.{group_at}
use Rattle.packed_groups.proofs.group.take_groups.Given as goal

abbrev pub invariant-loop : goal.invariant-loop
invariant-loop l = read_behind group_at l.groups.items (l.count - l.counter) l.rest ≡ repeat_at group_at l.count l.bytes
