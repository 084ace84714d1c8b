-- Loop invariants of `show_values` (`body`).
use Rattle.std.proofs.Common.{◌≡◌, ◌-◌, ◌++◌, List, string_bytes}
use Rattle.meaning.specs.declared.value.Value.{Value}
use Rattle.wire.specs.Reading.{repeat_at}
use Rattle.wire.proofs.Loops.{read_behind}
use Rattle.answer_fields.specs.LayoutReading.{value_at}
use Rattle.answer_text.specs.Reading.{IsSamePart}
use Rattle.answer_text.specs.Texts.{listed, value_text}
use Rattle.answer_text.proofs.Lists.{before_next}
use Rattle.answer_text.proofs.body.show_values.Given as goal

abbrev pub invariant-loop : goal.invariant-loop
invariant-loop l = (values : List Value) × (read_behind value_at values (l.count - l.counter) l.cursor.rest.now ≡ repeat_at value_at l.count l.fn.cursor.rest.now)
    × (string_bytes l.out ≡ string_bytes l.fn.out ++ listed l.first value_text values) × (l.between ≡ before_next l.first values) × IsSamePart l.fn.cursor l.cursor
