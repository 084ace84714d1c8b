-- Loop invariants of `write_groups` (`csv_rows`).
use Rattle.std.proofs.Common.{◌≡◌, ◌-◌, List, length, take}
use Rattle.std.specs.Io.KnownBytes.{Appends}
use Rattle.csv.specs.Writing.{text_written}
use Rattle.fragment_file.specs.Fragment.{group_sizes}
use Rattle.answer_text.specs.Reading.{IsSamePart}
use Rattle.table_text.specs.TableText.{GroupLayout, groups_at}
use Rattle.table_text.proofs.GroupsShown.{behind}
use Rattle.show.specs.Rows.{IsBetween, records_text, rows_in}
use Rattle.show.proofs.csv_rows.write_groups.Given as goal

abbrev pub invariant-loop-left : goal.invariant-loop-left
invariant-loop-left g l = (read : List GroupLayout)
    × (behind read (groups_at l.fn.cursor.bytes.now l.columns (group_sizes l.left) l.cursor.rest.now) ≡ groups_at l.fn.cursor.bytes.now l.columns (group_sizes l.rows) l.fn.cursor.rest.now) × IsSamePart l.fn.cursor l.cursor
    × Appends (text_written g.W.Write.contents l.fn.writer) (text_written g.W.Write.contents l.writer) (records_text (take l.most (rows_in read))) × (l.wanted ≡ l.most - length (rows_in read)) × IsBetween l.writer

abbrev pub decreases-loop-left : goal.decreases-loop-left
decreases-loop-left g l = l.left
