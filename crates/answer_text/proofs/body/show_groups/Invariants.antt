-- Loop invariants of `show_groups` (`body`).
use Rattle.std.proofs.Common.{◌≡◌, ◌-◌, ◌++◌, List, string_bytes}
use Rattle.std.specs.Prelude.{flat_map}
use Rattle.meaning.specs.declared.answer.Group.{Group}
use Rattle.wire.specs.Reading.{repeat_at}
use Rattle.wire.proofs.Loops.{read_behind}
use Rattle.answer_fields.specs.Fields.{shape_in}
use Rattle.answer_fields.specs.LayoutReading.{group_at}
use Rattle.answer_text.specs.Reading.{IsSamePart}
use Rattle.answer_text.specs.Texts.{group_text, where_groups}
use Rattle.answer_text.proofs.body.show_groups.Given as goal

abbrev pub invariant-loop : goal.invariant-loop
invariant-loop l =
    let shape = shape_in l.shape in
    (groups : List Group) × (read_behind (group_at shape) groups (l.count - l.counter) l.cursor.rest.now ≡ repeat_at (group_at shape) l.count l.fn.cursor.rest.now)
    × (string_bytes l.out ≡ string_bytes l.fn.out ++ where_groups l.detail (flat_map (group_text shape) groups)) × IsSamePart l.fn.cursor l.cursor
