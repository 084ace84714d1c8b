-- Loop invariants of `show_each` (`header`).
use Rattle.std.proofs.Common.{◌≡◌, ◌-◌, ◌++◌, [], string_bytes}
use Rattle.answer_text.specs.Reading.{IsSamePart}
use Rattle.table_text.specs.HeaderText.{columns_at, columns_text}
use Rattle.table_text.proofs.header.show_each.Given as goal

abbrev pub invariant-loop : goal.invariant-loop
invariant-loop l = (columns_at (l.count - l.counter) l.columns.items l.cursor.rest.now ≡ columns_at l.count [] l.fn.cursor.rest.now)
    × (string_bytes l.out ≡ string_bytes l.fn.out ++ columns_text l.columns.items) × IsSamePart l.fn.cursor l.cursor
