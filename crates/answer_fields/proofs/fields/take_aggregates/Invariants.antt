-- Loop invariants of `take_aggregates` (`fields`).
use Rattle.std.proofs.Common.{◌≡◌, ◌-◌}
use Rattle.answer_fields.specs.LayoutReading.{aggregate_at}
use Rattle.wire.specs.Reading.{repeat_at}
use Rattle.wire.proofs.Loops.{read_behind}
use Rattle.answer_fields.proofs.fields.take_aggregates.Given as goal

abbrev pub invariant-loop : goal.invariant-loop
invariant-loop l = read_behind (aggregate_at l.format) l.aggregates.items (l.count - l.counter) l.rest ≡ repeat_at (aggregate_at l.format) l.count l.bytes
