-- Loop invariants of `write_rows` (`csv_rows`).
use Rattle.std.proofs.Common.{map}
use Rattle.std.specs.Io.KnownBytes.{Appends}
use Rattle.std.specs.List.{range_with_len}
use Rattle.csv.specs.Writing.{text_written}
use Rattle.show.specs.Rows.{IsBetween, records_text, row_of}
use Rattle.show.proofs.csv_rows.write_rows.Given as goal

abbrev pub invariant-loop-row : goal.invariant-loop-row
invariant-loop-row g l = record {
  between : IsBetween l.writer;
  written : Appends (text_written g.W.Write.contents l.fn.writer) (text_written g.W.Write.contents l.writer) (records_text (map (row_of l.blocks) (range_with_len 0 l.row)));
}
