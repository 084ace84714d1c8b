-- Loop invariants of `take_types` (`fields`).
use Rattle.std.proofs.Common.{◌≡◌, ◌-◌}
use Rattle.answer_fields.specs.LayoutReading.{type_at}
use Rattle.wire.specs.Reading.{repeat_at}
use Rattle.wire.proofs.Loops.{read_behind}
use Rattle.answer_fields.proofs.fields.take_types.Given as goal

abbrev pub invariant-loop : goal.invariant-loop
invariant-loop l = read_behind type_at l.types.items (l.count - l.counter) l.rest ≡ repeat_at type_at l.count l.bytes
