-- The cells of a coordinator as bytes: their spelling, one in each format, and how they are read.
use Rattle.std.specs.Prelude.{ℕ, ◌==◌, Bool, if◌then◌else◌, List, ◌++◌, length, is_some, Ok, Err}
use Rattle.std.specs.List.{flat_map}
use Rattle.meaning.specs.Said.{Cell}
use Rattle.meaning.specs.declared.answer.Cell.TheVariants.{Nothing, One, Conflict}
use Rattle.answer_fields.specs.declared.fault.DecodeFault.{DecodeFault}
use Rattle.answer_fields.specs.declared.fault.DecodeFault.TheVariants as fault
use Rattle.answer_fields.specs.declared.format.Content.TheVariants as content
use Rattle.answer_fields.specs.declared.format.Format.{Format}
use Rattle.wire.specs.Reading.{◌>>=◌, Read, number_at, repeat_at}
use Rattle.answer_fields.specs.Format.{magic, format_at, format_in}
use Rattle.answer_fields.specs.Shape.{Shape}
use Rattle.wire.specs.Bytes.{number_bytes}
use Rattle.answer_fields.specs.Spelling.{body_bytes, job_bytes, shape_bytes}
use Rattle.answer_fields.specs.LayoutReading.{JobFields, body_at, shape_at, job_at}
use Rattle.answer_fields.specs.Fault.{from_wire}

-- ---- what is spelled

-- nothing is a 0, an answer's body stands behind a 1, a conflict is a 2
unfoldable pub cell_bytes : Shape → Cell → List ℕ
cell_bytes shape Nothing = number_bytes 1 0
cell_bytes shape (One body) = number_bytes 1 1 ++ body_bytes shape body
cell_bytes shape Conflict = number_bytes 1 2

-- bytes that begin so are a state's
abbrev pub is_state : List ℕ → Bool
is_state bytes = is_some (format_in content.State bytes)

-- all of a state but its seal
pub record StateLayout : Type 0 where
  pub format : Format
  pub load : ℕ
  pub text : List ℕ
  pub cut : List ℕ
  pub shape : Shape
  pub cells : List Cell

-- the cells stand one after the other; the cut has their number
unfoldable pub state_layout_bytes : StateLayout → List ℕ
state_layout_bytes l =
    magic content.State l.format ++ job_bytes l.load l.text l.cut ++ shape_bytes l.shape ++ flat_map (cell_bytes l.shape) l.cells

-- ---- how it is read

unfoldable pub tagged_cell_at : Shape → ℕ → List ℕ → Read DecodeFault Cell
tagged_cell_at shape tag bytes =
    if tag == 0 then Ok (Nothing, bytes)
    else if tag == 1 then (body_at shape bytes >>= λ body. Ok (One body.0, body.1))
    else if tag == 2 then Ok (Conflict, bytes)
    else Err fault.Shape

unfoldable pub cell_at : Shape → List ℕ → Read DecodeFault Cell
cell_at shape bytes = do
  tag ← from_wire (number_at 1 bytes)
  tagged_cell_at shape tag.0 tag.1

-- the fields of a state, by the parts that are read
abbrev pub state_laid_out : Format → JobFields → Shape → List Cell → StateLayout
state_laid_out format job shape cells = record {
  format = format;
  load = job.load;
  text = job.text;
  cut = job.cut;
  shape = shape;
  cells = cells;
}

-- a cell for each fragment of the cut that was read
unfoldable pub state_layout_at : List ℕ → Read DecodeFault StateLayout
state_layout_at bytes = do
  format ← format_at content.State bytes
  job ← job_at format.1
  shape ← shape_at format.0 job.1
  cells ← repeat_at (cell_at shape.0) (length job.0.cut) shape.1
  Ok (state_laid_out format.0 job.0 shape.0 cells.0, cells.1)
