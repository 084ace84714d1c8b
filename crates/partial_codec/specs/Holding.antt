-- What the readers keep, held against a job: the same steps as for what was read, with the sums returned apart.
use Rattle.std.specs.Prelude.{ℕ, suc, ◌==◌, nat_lt, Bool, ◌&&◌, not, if◌then◌else◌, List, [], ◌∷◌, length, slice_index, Result, Ok, Err}
use Rattle.std.specs.List.{list_all}
use Rattle.meaning.specs.Cut.{first_row}
use Rattle.meaning.specs.Fitting.{is_in_order, are_numbers_possible}
use Rattle.meaning.specs.Said.{Body, Answer, Cell}
use Rattle.meaning.specs.declared.answer.Cell.TheVariants.{Nothing, One, Conflict}
use Rattle.meaning.specs.declared.plan.Plan.{Plan}
use Rattle.wire.specs.Reading.{◌>>=◌, same_bytes}
use Rattle.answer_fields.specs.declared.fault.DecodeFault.{DecodeFault}
use Rattle.answer_fields.specs.declared.fault.DecodeFault.TheVariants as fault
use Rattle.answer_layouts.specs.declared.layout.Layout.{Layout}
use Rattle.answer_layouts.specs.declared.state_layout.StateLayout.{StateLayout}
use Rattle.answer_layouts.specs.Layouts.{sums_in}
use Rattle.answer_fields.specs.Fields.{shape_in, words}
use Rattle.partial_codec.specs.Job.{JobSpec}
use Rattle.answer_fields.specs.Keeping.{is_typed, is_cell_typed}
use Rattle.answer_fields.specs.Shape.{shape_of, is_same_shape}

-- ---- answers

unfoldable pub layout_held_by : JobSpec → Layout → Result Answer DecodeFault
layout_held_by job l =
    if not (l.job.load == job.load) then Err fault.OtherLoad
    else if not (same_bytes l.job.text.now job.plan.text) then Err fault.OtherQuery
    else if not (same_bytes (words l.job.fragments l.job.cut.now) job.cut && nat_lt l.k (length job.cut)) then Err fault.OtherCut
    else if not (is_same_shape (shape_in l.shape) (shape_of job.plan)) then Err fault.Shape
    else if not (is_typed job.plan l.body) then Err fault.Shape
    else if not (is_in_order l.body) then Err fault.UnsortedGroups
    else if not l.findings.are_sums_possible then Err fault.Numbers
    else if not (are_numbers_possible job.plan (first_row job.cut l.k) (slice_index job.cut l.k) l.body) then Err fault.Numbers
    else Ok (record { k = l.k; body = l.body })

-- ---- states

abbrev pub body_held_by : Plan → ℕ → ℕ → Body → Bool → Result (Unit {0}) DecodeFault
body_held_by plan first rows body possible =
    if not (is_in_order body) then Err fault.UnsortedGroups
    else if not possible then Err fault.Numbers
    else if not (are_numbers_possible plan first rows body) then Err fault.Numbers
    else Ok tt

abbrev pub cell_held_by : Plan → ℕ → ℕ → Cell → Bool → Result (Unit {0}) DecodeFault
cell_held_by plan first rows Nothing possible = Ok tt
cell_held_by plan first rows (One body) possible = body_held_by plan first rows body possible
cell_held_by plan first rows Conflict possible = Ok tt

-- the cells of the fragments from k on, each with whether its sums are possible
unfoldable pub cells_held_by : JobSpec → ℕ → List Cell → List Bool → Result (Unit {0}) DecodeFault
cells_held_by job k [] returned = Ok tt
cells_held_by job k (cell ∷ cells) [] = Ok tt
cells_held_by job k (cell ∷ cells) (possible ∷ returned) =
    cell_held_by job.plan (first_row job.cut k) (slice_index job.cut k) cell possible >>= λ held. cells_held_by job (suc k) cells returned

unfoldable pub state_held_by : JobSpec → StateLayout → Result (List Cell) DecodeFault
state_held_by job l =
    if not (l.job.load == job.load) then Err fault.OtherLoad
    else if not (same_bytes l.job.text.now job.plan.text) then Err fault.OtherQuery
    else if not (same_bytes (words l.job.fragments l.job.cut.now) job.cut) then Err fault.OtherCut
    else if not (is_same_shape (shape_in l.shape) (shape_of job.plan)) then Err fault.Shape
    else if not (list_all (is_cell_typed job.plan) l.cells.items) then Err fault.Shape
    else (cells_held_by job 0 l.cells.items (sums_in l.findings.items) >>= λ held. Ok l.cells.items)
