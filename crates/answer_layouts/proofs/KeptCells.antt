-- Reading cells in a loop, of which something else is kept.
use Rattle.std.proofs.Common.{◌≡◌, ℕ, ◌-◌, ◌+◌, ◌≤◌, ◌<◌, Bool, List, [], ◌∷◌, ◌++◌, map, Ok, Err, refl, sym, ap, ◌∙◌, arith}
use Rattle.std.proofs.lemmas.List.{map-append}
use Rattle.meaning.specs.Said.{Cell}
use Rattle.wire.specs.Reading.{Read, repeat_at}
use Rattle.wire.proofs.Loops.{read_behind, begins, goes_on, fails, finishes}
use Rattle.meaning.specs.declared.plan.Plan.{Plan}
use Rattle.answer_layouts.specs.declared.findings.Findings.{Findings}
use Rattle.answer_layouts.specs.Found.{AreFoundInCell, AreFoundInCells}
use Rattle.answer_layouts.specs.Layouts.{sums_in}
use Rattle.answer_fields.specs.declared.fault.DecodeFault.{DecodeFault}
use Rattle.answer_fields.specs.Keeping.{IsKept, kept_cell, is_cell_possible}
use Rattle.answer_fields.specs.Shape.{Shape}
use Rattle.answer_fields.specs.StateSpelling.{cell_at}

-- the cells and their marks, by what was read
abbrev AreCellsOf : List Cell → List Bool → List Cell → Type 0
AreCellsOf cells returned raw = (cells ≡ map kept_cell raw) × (returned ≡ map is_cell_possible raw)

abbrev pub CellsSoFar : Shape → List Cell → List Bool → ℕ → List ℕ → Read DecodeFault (List Cell) → Type 0
CellsSoFar shape cells returned left rest all = (raw : List Cell) × AreCellsOf cells returned raw × (read_behind (cell_at shape) raw left rest ≡ all)

module _ (shape : Shape) where
  pub cells_begin : (cells : List Cell) (returned : List Bool) (count i : ℕ) (bytes : List ℕ) → cells ≡ [] → returned ≡ [] → i ≡ 0 → CellsSoFar shape cells returned (count - i) bytes (repeat_at (cell_at shape) count bytes)
  cells_begin cells returned count i bytes none nothing first =
      let left : count - i ≡ count = omega (arith, first) in
      ([], (none, nothing), ap (λ (n : ℕ). read_behind (cell_at shape) [] n bytes) left ∙ begins (cell_at shape) count bytes (repeat_at (cell_at shape) count bytes) refl)

  pub cells_go_on : (cells : List Cell) (returned : List Bool) (count i : ℕ) (bytes : List ℕ) (cell : Cell) (flag : Bool) (rest : List ℕ) (all : Read DecodeFault (List Cell)) → i < count
      → (x : Cell × List ℕ) × (cell_at shape bytes ≡ Ok x) × IsKept kept_cell is_cell_possible cell flag rest x → CellsSoFar shape cells returned (count - i) bytes all
      → CellsSoFar shape (cells ++ cell ∷ []) (returned ++ flag ∷ []) (count - (i + 1)) rest all
  cells_go_on cells returned count i bytes cell flag rest all lt (x, read, is) (raw, so_far, behind) = (
    raw ++ x.0 ∷ [],
    (rw (so_far.0, is.part) (sym (map-append kept_cell raw (x.0 ∷ []))), rw (so_far.1, is.sums) (sym (map-append is_cell_possible raw (x.0 ∷ [])))),
    ap (λ (r : List ℕ). read_behind (cell_at shape) (raw ++ x.0 ∷ []) (count - (i + 1)) r) is.behind ∙ goes_on (cell_at shape) raw count i bytes x.0 x.1 all lt read behind,
  )

  pub cells_fail : (cells : List Cell) (returned : List Bool) (count i : ℕ) (bytes : List ℕ) (e : DecodeFault) (all : Read DecodeFault (List Cell)) → i < count → cell_at shape bytes ≡ Err e → CellsSoFar shape cells returned (count - i) bytes all → all ≡ Err e
  cells_fail cells returned count i bytes e all lt wrong (raw, so_far, behind) = fails (cell_at shape) raw count i bytes e all lt wrong behind

  pub cells_finish : (cells : List Cell) (returned : List Bool) (count i : ℕ) (bytes : List ℕ) (all : Read DecodeFault (List Cell)) → count ≤ i → CellsSoFar shape cells returned (count - i) bytes all
      → (y : List Cell × List ℕ) × (all ≡ Ok y) × ((cells ≡ map kept_cell y.0) × (returned ≡ map is_cell_possible y.0) × (bytes ≡ y.1))
  cells_finish cells returned count i bytes all le (raw, so_far, behind) = ((raw, bytes), finishes (cell_at shape) raw count i bytes all le behind, (so_far.0, so_far.1, refl))

-- what is found of one cell more
pub found_and_one : (plan : Plan) (cells : List Cell) (found : List Findings) (cell : Cell) (f : Findings) → AreFoundInCells plan cells found → AreFoundInCell plan cell f
    → AreFoundInCells plan (cells ++ cell ∷ []) (found ++ f ∷ [])
found_and_one plan [] [] cell f so_far here = (here, tt)
found_and_one plan [] (g ∷ found) cell f so_far here = absurd so_far
found_and_one plan (c ∷ cells) [] cell f so_far here = absurd so_far
found_and_one plan (c ∷ cells) (g ∷ found) cell f so_far here = (so_far.0, found_and_one plan cells found cell f so_far.1 here)

pub sums_and_one : (found : List Findings) (f : Findings) → sums_in (found ++ f ∷ []) ≡ sums_in found ++ f.are_sums_possible ∷ []
sums_and_one found f = map-append (λ g. g.are_sums_possible) found (f ∷ [])
