-- Proofs of the goals of `write_record` (`printing`).
use Rattle.std.proofs.Common.{◌≡◌, ◌≢◌, ℕ, false, List, [], ◌∷◌, ◌∙◌, ap, refl, subst}
use Rattle.std.specs.Prelude.{Option}
use Rattle.std.proofs.lemmas.Result.{on_ok_weaker}
use Rattle.std.specs.Io.KnownBytes.{Appends}
use Rattle.csv.specs.Records.{fields_of}
use Rattle.csv.specs.Writing.{row_text, writer_setup, fields_written, has_written, text_written}
use Rattle.csv.specs.declared.writer.QuoteStyle.TheVariants as style
use Rattle.csv.specs.declared.writer.Writer.{Writer}
use Rattle.meaning.specs.Print.{record_text}
use Rattle.last_step.specs.Printing.{record_writer, IsBetween}
use Rattle.last_step.proofs.RecordTexts.{same_record}
use Rattle.last_step.proofs.printing.write_record.Goals as goal

same_text : (fields : List (List ℕ)) → fields ≢ [] → row_text record_writer fields ≡ record_text fields
same_text [] shown = absurd (shown refl)
same_text (f ∷ fs) shown = same_record f fs

looks_at_no_number : {W : Type 0} (writer : Writer W) → writer_setup writer ≡ record_writer → (writer_setup writer).style ≢ style.NonNumeric
looks_at_no_number writer setup e = cc

-- what the writer says of a record's text, where it stood before the record
appends_record : {W : Type 0} (contents : W → Option (List ℕ)) (old new : Writer W) (fields : List (List ℕ)) → IsBetween old → fields ≢ []
    → (fields_written old ≡ 0 → has_written old ≡ false → (writer_setup old).style ≢ style.NonNumeric → Appends (text_written contents old) (text_written contents new) (row_text (writer_setup old) fields))
    → Appends (text_written contents old) (text_written contents new) (record_text fields)
appends_record contents old new fields before shown said =
    subst (Appends (text_written contents old) (text_written contents new)) (ap (λ setup. row_text setup fields) before.setup ∙ same_text fields shown)
    (said before.fields before.blank (looks_at_no_number old before.setup))

pub returns-clause-text : goal.returns-clause-text
returns-clause-text g c = on_ok_weaker c.write_byte_record.result (appends_record g.W.Write.contents c.args.writer.now c.write_byte_record.new.self (fields_of c.args.fields.now) c.requires.before c.requires.shown) c.write_byte_record.ensures.bytes
