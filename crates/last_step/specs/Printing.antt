-- What the printer asks of a header and rows, and the writer of records that it prints by.
use Rattle.std.specs.Prelude.{◌≡◌, ◌≢◌, ℕ, true, false, ⊤, List, [], All, Option, Some, None, Result, Ok, Err}
use Rattle.csv.specs.Writing.{default_writer, with_flexible, writer_setup, fields_written, has_written}
use Rattle.csv.specs.declared.writer.WriterBuilder.{WriterBuilder}
use Rattle.csv.specs.declared.writer.Writer.{Writer}
use Rattle.meaning.specs.declared.plan.Plan.{Plan}
use Rattle.meaning.specs.declared.answer.Group.{Group}
use Rattle.meaning.specs.Finish as last
use Rattle.meaning.specs.Order.{Row}
use Rattle.meaning.specs.Print.{rows_text}
use Rattle.meaning.specs.Results.{and_then}
use Rattle.last_step.specs.Best.{best}
use Rattle.last_step.specs.declared.finished.Finished.{Finished}
use Rattle.last_step.specs.declared.finished.Finished.TheVariants as finished
use Rattle.last_step.specs.declared.finished.FinishedText.{FinishedText}
use Rattle.last_step.specs.declared.finished.FinishedText.TheVariants as finished_text

-- the header and each row hold a field
pub record HasFields (plan : Plan) (shown : List Row) : Type 0 where
  pub header : plan.items ≢ []
  pub rows : All (λ row. row ≢ []) shown

-- what the last step gave can be printed
abbrev pub IsPrintable : Plan → Finished → Type 0
IsPrintable plan (finished.Rows shown) = HasFields plan shown
IsPrintable plan (finished.Fault code) = ⊤

-- a plan that shows something, and groups whose keys a plain query can show
pub record ShowsSomething (plan : Plan) (groups : List Group) : Type 0 where
  pub items : plan.items ≢ []
  pub keys : plan.plain ≡ true → All (λ g. g.key ≢ []) groups

-- the default writer, which takes records of any length
abbrev pub record_writer : WriterBuilder
record_writer = with_flexible default_writer true

-- a writer of records that stands before a record
pub record IsBetween {W : Type 0} (writer : Writer W) : Type 0 where
  pub setup : writer_setup writer ≡ record_writer
  pub fields : fields_written writer ≡ 0
  pub blank : has_written writer ≡ false

-- ---- what is printed

-- the text of the rows, or the fault that stands in their place
abbrev pub text_of : Plan → last.Finished → Result (List ℕ) ℕ
text_of plan (last.Rows rows) = Ok (rows_text plan rows)
text_of plan (last.Refusal code) = Err code

-- the text that was given, or the fault
abbrev pub text_given : FinishedText → Result (List ℕ) ℕ
text_given (finished_text.Rows text) = Ok text.items
text_given (finished_text.Fault code) = Err code

-- the text of those rows that the answer shows, or the fault that stands in their place
abbrev pub best_text : Plan → Result (List Row) ℕ → Result (List ℕ) ℕ
best_text plan rows = and_then rows (λ all. Ok (rows_text plan (best plan all)))

-- a text, or a fault that comes behind what it is of
abbrev pub text_or : Option ℕ → List ℕ → Result (List ℕ) ℕ
text_or None text = Ok text
text_or (Some code) text = Err code
