-- Which bytes are an answer for a job, and what is wrong first with others.
use Rattle.std.specs.Prelude.{◌≡◌, ℕ, ◌==◌, nat_lt, true, ◌&&◌, not, if◌then◌else◌, List, length, slice_index, Option, Some, None, Result, Ok, Err}
use Rattle.meaning.specs.Said.{Answer}
use Rattle.meaning.specs.Cut.{first_row}
use Rattle.meaning.specs.Fitting.{is_shaped, is_in_order, are_numbers_possible, fits}
use Rattle.answer_fields.specs.declared.fault.DecodeFault.{DecodeFault}
use Rattle.answer_fields.specs.declared.fault.DecodeFault.TheVariants.{OtherLoad, OtherQuery, OtherCut, UnsortedGroups, Shape, Numbers}
use Rattle.answer_fields.specs.declared.format.Format.{Format}
use Rattle.wire.specs.Reading.{◌>>=◌, bytes_at, same_bytes, sealed_end}
use Rattle.partial_codec.specs.Job.{JobSpec}
use Rattle.answer_fields.specs.Shape as shapes
use Rattle.answer_fields.specs.Format.{has_kinds}
use Rattle.partial_codec.specs.Spelling.{Layout, answer_spelling}
use Rattle.answer_fields.specs.LayoutReading.{layout_at}
use Rattle.answer_fields.specs.Fault.{from_wire}

-- ---- what is spelled

-- an answer that fits the job: a fragment of its cut, with groups of the plan's shape, with them and their sets ascending,
-- and with possible numbers
abbrev pub Fits : JobSpec → Answer → Type 0
Fits job a = fits job.plan job.cut a ≡ true

-- the bytes are the spelling of an answer that fits the job, in a format that has the kinds of the plan's aggregates
pub record Spells (job : JobSpec) (bytes : List ℕ) (a : Answer) : Type 0 where
  pub format : Format
  pub kinds : has_kinds format (shapes.shape_of job.plan) ≡ true
  pub fits : Fits job a
  pub spelled : bytes ≡ answer_spelling format job a

-- ---- what is wrong with bytes

-- the fields held against the job: its load, query and cut; the shape and the types; the order; the numbers
unfoldable pub held_against : JobSpec → Layout → Result Answer DecodeFault
held_against job l =
    if not (l.load == job.load) then Err OtherLoad
    else if not (same_bytes l.text job.plan.text) then Err OtherQuery
    else if not (same_bytes l.cut job.cut && nat_lt l.k (length job.cut)) then Err OtherCut
    else if not (shapes.is_same_shape l.shape (shapes.shape_of job.plan) && is_shaped job.plan l.body) then Err Shape
    else if not (is_in_order l.body) then Err UnsortedGroups
    else if not (are_numbers_possible job.plan (first_row job.cut l.k) (slice_index job.cut l.k) l.body) then Err Numbers
    else Ok (record { k = l.k; body = l.body })

-- the answer that the bytes give, or the first thing that is wrong: a field from front to back, the seal among them;
-- bytes behind the seal; the seal; and then the fields against the job
unfoldable pub judged : JobSpec → List ℕ → Result Answer DecodeFault
judged job bytes = do
  layout ← layout_at bytes
  seal ← from_wire (bytes_at 32 layout.1)
  end ← from_wire (sealed_end bytes seal.0 seal.1)
  held_against job layout.0

abbrev pub fault_in : {A : Type 0} → Result A DecodeFault → Option DecodeFault
fault_in (Ok x) = None
fault_in (Err e) = Some e

-- the first obstacle to the bytes' being an answer for the job
abbrev pub obstacle : JobSpec → List ℕ → Option DecodeFault
obstacle job bytes = fault_in (judged job bytes)
