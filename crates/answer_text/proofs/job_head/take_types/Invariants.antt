-- Loop invariants of `take_types` (`job_head`).
use Rattle.std.proofs.Common.{◌≡◌, ◌-◌}
use Rattle.answer_fields.specs.LayoutReading.{type_at}
use Rattle.wire.specs.Reading.{repeat_at}
use Rattle.wire.proofs.Loops.{read_behind}
use Rattle.answer_text.specs.Reading.{IsSamePart}
use Rattle.answer_text.proofs.job_head.take_types.Given as goal

abbrev pub invariant-loop : goal.invariant-loop
invariant-loop l = record {
  read : read_behind type_at l.types.items (l.count - l.counter) l.cursor.rest.now ≡ repeat_at type_at l.count l.fn.cursor.rest.now;
  part : IsSamePart l.fn.cursor l.cursor;
}
