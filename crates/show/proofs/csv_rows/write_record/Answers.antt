-- Proofs of the goals of `write_record` (`csv_rows`).
use Rattle.std.proofs.Common.{OnOk, subst, sym}
use Rattle.std.specs.Io.KnownBytes.{Appends}
use Rattle.csv.specs.Records.{fields_of}
use Rattle.csv.specs.Writing.{default_writer, row_text, text_written}
use Rattle.show.proofs.RowsShown.{one_record}
use Rattle.show.proofs.csv_rows.write_record.Goals as goal
use Rattle.show.proofs.csv_rows.write_record.Goals.{in-Ok, in-Err}

pub returns-clause-text : goal.returns-clause-text
returns-clause-text g c =
    let contents = g.W.Write.contents in
    let old = c.args.writer.now in
    let new = c.write_byte_record.new.self in
    let fields = fields_of c.args.fields.now in
    elim c.match-write_byte_record.branch [
      | in-Ok w ↦ subst (λ result. OnOk result (Appends (text_written contents old) (text_written contents new) (row_text default_writer fields))) (sym w.result-is) (one_record contents old new fields c.requires w.in-Ok.ensures.bytes)
      | in-Err w ↦ subst (λ result. OnOk result (Appends (text_written contents old) (text_written contents new) (row_text default_writer fields))) (sym w.result-is) tt
    ]
