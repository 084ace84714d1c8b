-- What is printed of the fields of states.
use Rattle.std.specs.Prelude.{◌≡◌, ◌≢◌, ℕ, List, [], ◌∷◌, ◌++◌, length, codes, decimal, Result, Ok, Err}
use Rattle.std.specs.List.{enumerate_from, flat_map}
use Rattle.meaning.specs.Gather.{fragments_where, is_conflict, is_nothing, is_one}
use Rattle.meaning.specs.Said.{Cell}
use Rattle.meaning.specs.declared.answer.Cell.TheVariants.{Nothing, One, Conflict}
use Rattle.wire.specs.Reading.{Read}
use Rattle.answer_fields.specs.Format as formats
use Rattle.answer_fields.specs.declared.format.Format.{Format}
use Rattle.answer_fields.specs.Shape.{Shape}
use Rattle.answer_fields.specs.StateSpelling.{StateLayout}
use Rattle.answer_fields.specs.declared.fault.DecodeFault.{DecodeFault}
use Rattle.answer_text.specs.Ranges.{ranges_line}
use Rattle.answer_text.specs.Reading.{fault_in}
use Rattle.answer_text.specs.Texts.{body_text, job_text, shape_text, where_groups}
use Rattle.answer_text.specs.declared.damage.Stop.{Stop}
use Rattle.answer_text.specs.declared.damage.Stop.TheVariants as stop
use Rattle.answer_text.specs.declared.detail.Detail.{Detail}
use Rattle.answer_text.specs.declared.detail.Detail.TheVariants as of_detail
use Rattle.answer_text.specs.declared.states.Fragments.{Fragments}

-- ---- cells

-- the answer that is held for this fragment, with its groups
abbrev pub held_text : Shape → ℕ → Cell → List ℕ
held_text shape k Nothing = []
held_text shape k (One body) = codes "fragment " ++ decimal k ++ codes ": " ++ body_text of_detail.Groups shape body
held_text shape k Conflict = []

-- all answers that are held, in the fragments' order
unfoldable pub all_held_text : Shape → List Cell → List ℕ
all_held_text shape cells = flat_map (λ p. held_text shape p.0 p.1) (enumerate_from 0 cells)

-- the fragments of which there is an answer, of which there is none, and whose answers differ
unfoldable pub fragments_text : List Cell → List ℕ
fragments_text cells =
    ranges_line (codes "in") (fragments_where is_one cells) ++ ranges_line (codes "missing") (fragments_where is_nothing cells) ++ ranges_line (codes "in conflict") (fragments_where is_conflict cells)

-- answers only where groups are asked for
abbrev pub cells_text : Detail → Shape → List Cell → List ℕ
cells_text detail shape cells = where_groups detail (all_held_text shape cells) ++ fragments_text cells

-- ---- the whole

-- the line in front of a state, in a file of so many bytes
abbrev pub state_line : ℕ → ℕ → List ℕ
state_line number size = codes "state in format " ++ decimal number ++ codes ", " ++ decimal size ++ codes " bytes\n"

abbrev pub first_state_line : Format → ℕ → List ℕ
first_state_line format size = state_line (formats.number format) size

-- the shape of groups, and cells of it
abbrev pub shaped_cells_text : Detail → Shape × List Cell → List ℕ
shaped_cells_text detail p = shape_text p.0 ++ cells_text detail p.0 p.1

-- all that is printed of a state
abbrev pub held_state_text : Detail → ℕ → StateLayout → List ℕ
held_state_text detail size l =
    first_state_line l.format size ++ job_text (record { load = l.load; text = l.text; cut = l.cut }) ++ shaped_cells_text detail (l.shape, l.cells)

-- ---- cells that are read

-- the lists have the fragments of these cells
pub record AreListed (fragments : Fragments) (cells : List Cell) : Type 0 where
  pub held : fragments.held.items ≡ fragments_where is_one cells
  pub missing : fragments.missing.items ≡ fragments_where is_nothing cells
  pub in_conflict : fragments.in_conflict.items ≡ fragments_where is_conflict cells

-- the fragment of this number, whose cell is read, is in the lists of those before it, and its answer is printed
pub record IsShown (detail : Detail) (shape : Shape) (k : ℕ) (cell : Cell) (old new : Fragments) (before after : List ℕ) : Type 0 where
  pub text : after ≡ before ++ where_groups detail (held_text shape k cell)
  pub listed : (cells : List Cell) → length cells ≡ k → AreListed old cells → AreListed new (cells ++ cell ∷ [])

-- a cell that is read and shown; or what is wrong with it, unless memory was wanting
abbrev pub ShowsCell : Detail → Shape → ℕ → Result (Unit {0}) Stop → Fragments → Fragments → List ℕ → List ℕ → List ℕ → Read DecodeFault Cell → Type 0
ShowsCell detail shape k (Ok done) old new before after rest read = (cell : Cell) × (read ≡ Ok (cell, rest)) × IsShown detail shape k cell old new before after
ShowsCell detail shape k (Err e) old new before after rest read = e ≢ stop.Memory → read ≡ Err (fault_in e)

-- the same of cells from the first on
abbrev pub ShowsCells : Detail → Shape → Result (Unit {0}) Stop → Fragments → List ℕ → List ℕ → List ℕ → Read DecodeFault (List Cell) → Type 0
ShowsCells detail shape (Ok done) new before after rest read = (cells : List Cell) × (read ≡ Ok (cells, rest)) × (after ≡ before ++ where_groups detail (all_held_text shape cells)) × AreListed new cells
ShowsCells detail shape (Err e) new before after rest read = e ≢ stop.Memory → read ≡ Err (fault_in e)
