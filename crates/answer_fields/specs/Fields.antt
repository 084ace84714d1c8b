-- What the code's readers hold, as a layout.
use Rattle.std.specs.Prelude.{◌≡◌, ◌*◌, ℕ, zero, suc, List, [], ◌∷◌, drop, length, Ok}
use Rattle.meaning.specs.Said.{Body}
use Rattle.byteorder.specs.Endian.{little_number}
use Rattle.answer_fields.specs.declared.shape.Shape.{Shape as Held}
use Rattle.answer_fields.specs.declared.fields.JobFields.{JobFields}
use Rattle.answer_fields.specs.Shape.{Shape}
use Rattle.answer_fields.specs.LayoutReading as reading

abbrev pub shape_in : Held → Shape
shape_in shape = record { keys = shape.keys.items; aggregates = shape.aggregates.items }

-- so many numbers of four bytes
abbrev pub words : ℕ → List ℕ → List ℕ
words zero bytes = []
words (suc n) bytes = little_number 4 bytes ∷ words n (drop 4 bytes)

-- a body that was read by the shape
abbrev pub WasRead : Shape → Body → Type 0
WasRead shape body = (bytes rest : List ℕ) × (reading.body_at shape bytes ≡ Ok (body, rest))

-- the fields that describe the job: the cut's lengths stand in their bytes
pub record AreJobFields (job : JobFields) (read : reading.JobFields) : Type 0 where
  pub load : job.load ≡ read.load
  pub text : job.text.now ≡ read.text
  pub count : job.fragments ≡ length read.cut
  pub bytes : length job.cut.now ≡ job.fragments * 4
  pub cut : words job.fragments job.cut.now ≡ read.cut
