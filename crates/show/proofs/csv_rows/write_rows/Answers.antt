-- Proofs of the goals of `write_rows` (`csv_rows`).
use Rattle.std.proofs.Common.{◌≡◌, arith, map, subst}
use Rattle.std.specs.Io.KnownBytes.{Appends}
use Rattle.std.specs.List.{range_with_len}
use Rattle.csv.specs.Writing.{text_written}
use Rattle.show.specs.Rows.{records_text, row_of}
use Rattle.show.proofs.RowsShown.{no_records, one_row_more}
use Rattle.show.proofs.csv_rows.write_rows.Goals as goal

pub loop-row-init : goal.loop-row-init
loop-row-init g c = record { between = c.requires.before; written = no_records (text_written g.W.Write.contents c.args.writer.now) }

pub loop-row-preserved : goal.loop-row-preserved
loop-row-preserved g c = record {
  between = c.in_ok-write_row.ensures.behind;
  written = one_row_more c.args.blocks.now c.loop-row.row _ _ _ c.loop-row.invariant.written c.in_ok-write_row.ensures.text;
}

pub returns-clause-text : goal.returns-clause-text
returns-clause-text g c =
    let end : c.loop-row.row ≡ c.args.rows = let past = c.loop-row-test.false in let within = c.loop-row.auto.row-end in omega (arith, past, within) in
    subst (λ n. Appends (text_written g.W.Write.contents c.args.writer.now) (text_written g.W.Write.contents c.loop-row.writer) (records_text (map (row_of c.args.blocks.now) (range_with_len 0 n)))) end c.loop-row.invariant.written
