-- What is kept of a group, of a body and of a cell, by what was read of their parts.
use Rattle.std.proofs.Common.{◌≡◌, ℕ, Bool, true, List, length, Ok, refl, ap}
use Rattle.meaning.specs.declared.value.Value.{Value}
use Rattle.meaning.specs.declared.answer.Statistics.{Statistics}
use Rattle.meaning.specs.declared.answer.Group.{Group}
use Rattle.meaning.specs.declared.answer.RowFault.{RowFault}
use Rattle.meaning.specs.Said.{Body, Cell}
use Rattle.meaning.specs.declared.answer.Cell.TheVariants.{Nothing, One, Conflict}
use Rattle.meaning.specs.declared.answer.Body.TheVariants.{Groups, Fault}
use Rattle.wire.specs.Reading.{number_at, repeat_at}
use Rattle.answer_fields.specs.Fault.{from_wire}
use Rattle.answer_fields.specs.Keeping.{AreKept, IsKept, kept_state, kept_group, kept_body, has_possible_sum, has_possible_sums, are_sums_possible, kept_cell, is_cell_possible}
use Rattle.answer_fields.specs.StateSpelling.{tagged_cell_at, cell_at}
use Rattle.answer_fields.specs.LayoutReading.{value_at, states_at, group_at, groups_at, fault_at, tagged_body_at, body_at}
use Rattle.answer_fields.specs.Shape.{Shape}

-- a group of what was read one after the other
pub group_kept : (shape : Shape) (bytes behind_key behind_rows rest : List ℕ) (key : List Value) (rows : ℕ) (states : List Statistics) (returned : Bool) → repeat_at value_at (length shape.keys) bytes ≡ Ok (key, behind_key)
    → from_wire (number_at 4 behind_key) ≡ Ok (rows, behind_rows) → (y : List Statistics × List ℕ) × (states_at shape.aggregates behind_rows ≡ Ok y) × AreKept kept_state has_possible_sum states returned rest y
    → (y : Group × List ℕ) × (group_at shape bytes ≡ Ok y) × IsKept kept_group has_possible_sums (record { key = key; rows = rows; states = states }) returned rest y
unfolding group_at
group_kept shape bytes behind_key behind_rows rest key rows states returned keys count (y, read, is) = (
  (record { key = key; rows = rows; states = y.0 }, y.1),
  rw (keys, count, read) refl,
  record {
    part = λ i. record { key = key; rows = rows; states = is.parts i };
    sums = is.sums;
    behind = is.behind;
  },
)

-- ---- bodies

pub fault_kept : (shape : Shape) (bytes behind_tag rest : List ℕ) (tag : ℕ) (f : RowFault) → from_wire (number_at 1 bytes) ≡ Ok (tag, behind_tag) → tag ≡ 0 → fault_at behind_tag ≡ Ok (Fault f, rest)
    → (y : Body × List ℕ) × (body_at shape bytes ≡ Ok y) × IsKept kept_body are_sums_possible (Fault f) true rest y
unfolding body_at tagged_body_at
fault_kept shape bytes behind_tag rest tag f tags is fault = ((Fault f, rest), rw (tags, is, fault) refl, record { part = refl; sums = refl; behind = refl })

pub groups_kept : (shape : Shape) (bytes behind_tag behind_count rest : List ℕ) (tag count : ℕ) (groups : List Group) (returned : Bool) → from_wire (number_at 1 bytes) ≡ Ok (tag, behind_tag) → tag ≡ 1
    → from_wire (number_at 4 behind_tag) ≡ Ok (count, behind_count) → (y : List Group × List ℕ) × (repeat_at (group_at shape) count behind_count ≡ Ok y) × AreKept kept_group has_possible_sums groups returned rest y
    → (y : Body × List ℕ) × (body_at shape bytes ≡ Ok y) × IsKept kept_body are_sums_possible (Groups groups) returned rest y
unfolding body_at tagged_body_at groups_at
groups_kept shape bytes behind_tag behind_count rest tag count groups returned tags is counts (y, read, are) =
    ((Groups y.0, y.1), rw (tags, is, counts, read) refl, record { part = ap (λ (gs : List Group). Groups gs) are.parts; sums = are.sums; behind = are.behind })

-- ---- cells

pub nothing_kept : (shape : Shape) (bytes rest : List ℕ) (tag : ℕ) → from_wire (number_at 1 bytes) ≡ Ok (tag, rest) → tag ≡ 0 → (y : Cell × List ℕ) × (cell_at shape bytes ≡ Ok y) × IsKept kept_cell is_cell_possible Nothing true rest y
unfolding cell_at tagged_cell_at
nothing_kept shape bytes rest tag tags is = ((Nothing, rest), rw (tags, is) refl, record { part = refl; sums = refl; behind = refl })

pub conflict_kept : (shape : Shape) (bytes rest : List ℕ) (tag : ℕ) → from_wire (number_at 1 bytes) ≡ Ok (tag, rest) → tag ≡ 2 → (y : Cell × List ℕ) × (cell_at shape bytes ≡ Ok y) × IsKept kept_cell is_cell_possible Conflict true rest y
unfolding cell_at tagged_cell_at
conflict_kept shape bytes rest tag tags is = ((Conflict, rest), rw (tags, is) refl, record { part = refl; sums = refl; behind = refl })

pub answer_kept : (shape : Shape) (bytes behind_tag rest : List ℕ) (tag : ℕ) (body : Body) (returned : Bool) → from_wire (number_at 1 bytes) ≡ Ok (tag, behind_tag) → tag ≡ 1
    → (y : Body × List ℕ) × (body_at shape behind_tag ≡ Ok y) × IsKept kept_body are_sums_possible body returned rest y → (y : Cell × List ℕ) × (cell_at shape bytes ≡ Ok y) × IsKept kept_cell is_cell_possible (One body) returned rest y
unfolding cell_at tagged_cell_at
answer_kept shape bytes behind_tag rest tag body returned tags is (y, read, kept) =
    ((One y.0, y.1), rw (tags, is, read) refl, record { part = ap (λ (b : Body). One b) kept.part; sums = kept.sums; behind = kept.behind })
