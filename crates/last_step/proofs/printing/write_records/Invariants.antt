-- Loop invariants of `write_records` (`printing`).
use Rattle.std.proofs.Common.{◌++◌, map, take}
use Rattle.std.specs.Prelude.{flat_map}
use Rattle.std.specs.Io.KnownBytes.{Appends}
use Rattle.csv.specs.Writing.{text_written}
use Rattle.meaning.specs.Print.{record_text, value_text}
use Rattle.last_step.specs.Printing.{IsBetween}
use Rattle.last_step.proofs.printing.write_records.Given as goal

abbrev pub invariant-loop-k : goal.invariant-loop-k
invariant-loop-k g l = record {
  between : IsBetween l.writer;
  text : Appends (text_written g.W.Write.contents l.fn.writer) (text_written g.W.Write.contents l.writer) (record_text (map (λ i. i.header) l.plan.items) ++ flat_map (λ row. record_text (map value_text row)) (take l.k (g.R.PrintableRows.rows l.rows)));
}
