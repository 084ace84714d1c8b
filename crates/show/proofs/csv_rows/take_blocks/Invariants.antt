-- Loop invariants of `take_blocks` (`csv_rows`).
use Rattle.std.proofs.Common.{◌≡◌, drop}
use Rattle.answer_text.specs.Reading.{IsSamePart}
use Rattle.table_text.specs.TableText.{blocks_at}
use Rattle.table_text.proofs.GroupsShown.{behind}
use Rattle.show.proofs.csv_rows.take_blocks.Given as goal

abbrev pub invariant-loop-column : goal.invariant-loop-column
invariant-loop-column l = record {
  read : behind l.blocks.items (blocks_at (drop l.column-index l.columns) l.rows l.cursor.rest.now) ≡ blocks_at l.columns l.rows l.fn.cursor.rest.now;
  part : IsSamePart l.fn.cursor l.cursor;
}
