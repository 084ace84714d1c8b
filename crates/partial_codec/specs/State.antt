-- What a coordinator holds for a job as bytes: the spelling of its cells, one in each format, and what is wrong first with
-- other bytes.
use Rattle.std.specs.Prelude.{◌≡◌, ℕ, suc, ◌==◌, Bool, true, ◌&&◌, not, if◌then◌else◌, List, [], ◌∷◌, length, get_or, slice_index, Option, Result, Ok, Err}
use Rattle.std.specs.List.{list_all}
use Rattle.meaning.specs.Said.{Body}
use Rattle.meaning.specs.Said.{Cell}
use Rattle.meaning.specs.declared.answer.Cell.TheVariants.{Nothing, One, Conflict}
use Rattle.meaning.specs.declared.plan.Plan.{Plan}
use Rattle.meaning.specs.Cut.{first_row}
use Rattle.meaning.specs.Fitting.{is_shaped, is_in_order, are_numbers_possible}
use Rattle.answer_fields.specs.declared.fault.DecodeFault.{DecodeFault}
use Rattle.answer_fields.specs.declared.fault.DecodeFault.TheVariants as fault
use Rattle.answer_fields.specs.declared.format.Format.{Format}
use Rattle.wire.specs.Reading.{◌>>=◌, bytes_at, same_bytes, sealed_end}
use Rattle.answer_fields.specs.Format.{newest, has_kinds}
use Rattle.partial_codec.specs.Job.{JobSpec}
use Rattle.answer_fields.specs.Shape.{shape_of, is_same_shape}
use Rattle.wire.specs.Bytes.{sealed}
use Rattle.partial_codec.specs.Answer.{Fits, fault_in}
use Rattle.answer_fields.specs.Fault.{from_wire}
pub use Rattle.answer_fields.specs.StateSpelling.{is_state, StateLayout, state_laid_out}
unfoldable pub use Rattle.answer_fields.specs.StateSpelling.{cell_bytes, state_layout_bytes, tagged_cell_at, cell_at, state_layout_at}

-- ---- what is spelled

-- what the cells of a job are laid out from
abbrev pub state_layout_of : Format → JobSpec → List Cell → StateLayout
state_layout_of format job cells = record {
  format = format;
  load = job.load;
  text = job.plan.text;
  cut = job.cut;
  shape = shape_of job.plan;
  cells = cells;
}

-- the one spelling of the cells of a job in a format
abbrev pub state_spelling : Format → JobSpec → List Cell → List ℕ
state_spelling format job cells = sealed (state_layout_bytes (state_layout_of format job cells))

-- how the cells of a job are written
abbrev pub state_bytes : JobSpec → List Cell → List ℕ
state_bytes job cells = state_spelling newest job cells

-- a cell for each fragment of the cut, each answer among them one that fits the job
pub record FitsState (job : JobSpec) (cells : List Cell) : Type 0 where
  pub fragments : length cells ≡ length job.cut
  pub answers : (k : ℕ) (body : Body) → get_or cells k Nothing ≡ One body → Fits job (record { k = k; body = body })

-- the bytes are the spelling of cells that fit the job, in a format that has the kinds of the plan's aggregates
pub record SpellsState (job : JobSpec) (bytes : List ℕ) (cells : List Cell) : Type 0 where
  pub format : Format
  pub kinds : has_kinds format (shape_of job.plan) ≡ true
  pub fits : FitsState job cells
  pub spelled : bytes ≡ state_spelling format job cells

-- ---- what is wrong with bytes

-- an answer in the cell has the plan's shape
abbrev pub is_cell_shaped : Plan → Cell → Bool
is_cell_shaped plan Nothing = true
is_cell_shaped plan (One body) = is_shaped plan body
is_cell_shaped plan Conflict = true

-- a body held against rows numbered from `first`: the order of its groups, and then its numbers
unfoldable pub body_held : Plan → ℕ → ℕ → Body → Result (Unit {0}) DecodeFault
body_held plan first rows body =
    if not (is_in_order body) then Err fault.UnsortedGroups
    else if not (are_numbers_possible plan first rows body) then Err fault.Numbers
    else Ok tt

-- an answer in the cell held against rows numbered from `first`
abbrev pub cell_held : Plan → ℕ → ℕ → Cell → Result (Unit {0}) DecodeFault
cell_held plan first rows Nothing = Ok tt
cell_held plan first rows (One body) = body_held plan first rows body
cell_held plan first rows Conflict = Ok tt

-- the cells of the fragments from k on, each held against its fragment before the next
unfoldable pub cells_held : JobSpec → ℕ → List Cell → Result (Unit {0}) DecodeFault
cells_held job k [] = Ok tt
cells_held job k (cell ∷ cells) = do
  held ← cell_held job.plan (first_row job.cut k) (slice_index job.cut k) cell
  cells_held job (suc k) cells

-- the fields held against the job: its load, query and cut; the shape and all types; and then fragment by fragment
unfoldable pub state_held_against : JobSpec → StateLayout → Result (List Cell) DecodeFault
state_held_against job l =
    if not (l.load == job.load) then Err fault.OtherLoad
    else if not (same_bytes l.text job.plan.text) then Err fault.OtherQuery
    else if not (same_bytes l.cut job.cut) then Err fault.OtherCut
    else if not (is_same_shape l.shape (shape_of job.plan) && list_all (is_cell_shaped job.plan) l.cells) then Err fault.Shape
    else (cells_held job 0 l.cells >>= λ held. Ok l.cells)

-- the cells that the bytes give, or the first thing that is wrong: a field from front to back, the seal among them;
-- bytes behind the seal; the seal; and then the fields against the job
unfoldable pub judged_state : JobSpec → List ℕ → Result (List Cell) DecodeFault
judged_state job bytes = do
  layout ← state_layout_at bytes
  seal ← from_wire (bytes_at 32 layout.1)
  end ← from_wire (sealed_end bytes seal.0 seal.1)
  state_held_against job layout.0

-- the first obstacle to the bytes' being the state of a coordinator for the job
abbrev pub state_obstacle : JobSpec → List ℕ → Option DecodeFault
state_obstacle job bytes = fault_in (judged_state job bytes)
