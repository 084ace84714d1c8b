-- Loop invariants of `show_cells` (`states`).
use Rattle.std.proofs.Common.{◌≡◌, ◌-◌, ◌++◌, [], List, length, string_bytes}
use Rattle.meaning.specs.Said.{Cell}
use Rattle.wire.specs.Reading.{repeat_at}
use Rattle.wire.proofs.Loops.{read_behind}
use Rattle.answer_fields.specs.Fields.{shape_in}
use Rattle.answer_fields.specs.StateSpelling.{cell_at}
use Rattle.answer_text.specs.Reading.{IsSamePart}
use Rattle.answer_text.specs.StateTexts.{AreListed, all_held_text}
use Rattle.answer_text.specs.Texts.{where_groups}
use Rattle.answer_text.proofs.states.show_cells.Given as goal

-- the cells of the fragments before this one were read, and shown
abbrev pub invariant-loop-fragment : goal.invariant-loop-fragment
invariant-loop-fragment l =
    let shape = shape_in l.shape in (
    AreListed l.fn.fragments []
    → (cells : List Cell) × (read_behind (cell_at shape) cells (l.count - l.fragment) l.cursor.rest.now ≡ repeat_at (cell_at shape) l.count l.fn.cursor.rest.now)
    × (string_bytes l.out ≡ string_bytes l.fn.out ++ where_groups l.detail (all_held_text shape cells)) × AreListed l.fragments cells × (length cells ≡ l.fragment)
    )
    × IsSamePart l.fn.cursor l.cursor
