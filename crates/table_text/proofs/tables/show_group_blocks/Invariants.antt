-- Loop invariants of `show_group_blocks` (`tables`).
use Rattle.std.proofs.Common.{◌≡◌, ◌++◌, drop, length, string_bytes, take}
use Rattle.answer_text.specs.Reading.{IsSamePart}
use Rattle.table_text.specs.TableText.{blocks_at, blocks_text}
use Rattle.table_text.proofs.GroupsShown.{behind}
use Rattle.table_text.proofs.tables.show_group_blocks.Given as goal

abbrev pub invariant-loop-column : goal.invariant-loop-column
invariant-loop-column l = (behind l.blocks.items (blocks_at (drop l.column-index l.columns) l.rows l.cursor.rest.now) ≡ blocks_at l.columns l.rows l.fn.cursor.rest.now)
    × (string_bytes l.out ≡ string_bytes l.fn.out ++ blocks_text (take l.column-index l.columns) l.blocks.items) × (length l.blocks.items ≡ l.column-index) × IsSamePart l.fn.cursor l.cursor
