-- The obstacle in the cells that were kept is that in those that were read.
use Rattle.std.proofs.Common.{◌≡◌, ℕ, zero, suc, Bool, true, false, ◌&&◌, eqb, List, [], ◌∷◌, length, map, Result, Ok, Err, refl, sym, ap, subst, ◌∙◌, arith}
use Rattle.std.specs.Prelude.{not, if◌then◌else◌, slice_index}
use Rattle.std.specs.List.{list_all, AllByRecursion}
use Rattle.std.proofs.lemmas.Bool.{ne_eqb}
use Rattle.meaning.specs.Cut.{first_row}
use Rattle.meaning.specs.Fitting.{is_in_order}
use Rattle.meaning.specs.Said.{Body, Cell}
use Rattle.meaning.specs.declared.answer.Cell.TheVariants.{Nothing, One, Conflict}
use Rattle.meaning.specs.declared.plan.Plan.{Plan}
use Rattle.wire.specs.Reading.{◌>>=◌, number_at, bytes_at, repeat_at, same_bytes, sealed_end}
use Rattle.wire.proofs.Numbers.{bind_ok, ok_is, test_not}
use Rattle.std.proofs.lemmas.List.{length-map}
use Rattle.partial_codec.proofs.States.{layout_read, layout_cells}
use Rattle.answer_fields.specs.declared.fault.DecodeFault.{DecodeFault}
use Rattle.answer_fields.specs.declared.fault.DecodeFault.TheVariants as fault
use Rattle.answer_layouts.specs.declared.state_layout.StateLayout.{StateLayout as Held}
use Rattle.answer_layouts.specs.Layouts.{IsStateLayout, sums_in}
use Rattle.answer_fields.specs.Fields.{shape_in, words}
use Rattle.partial_codec.specs.Holding.{body_held_by, cell_held_by, cells_held_by, state_held_by}
use Rattle.partial_codec.specs.Job.{JobSpec}
use Rattle.answer_fields.specs.Keeping.{are_sums_possible, is_cell_possible, kept_body, kept_cell, is_cell_typed}
use Rattle.answer_fields.specs.LayoutReading.{body_at}
use Rattle.answer_fields.specs.Shape.{Shape, shape_of, is_same_shape}
use Rattle.partial_codec.specs.State.{StateLayout, tagged_cell_at, cell_at, state_layout_at, is_cell_shaped, body_held, cell_held, cells_held, state_held_against, judged_state}
use Rattle.partial_codec.proofs.Answers.{shape_same}
use Rattle.answer_fields.proofs.FromWire.{read_ok}
use Rattle.partial_codec.proofs.Judging.{IsReadBody, body_read, body_same, body_typed, body_in_order, body_numbers}

-- ---- how cells were read

-- what holds of an answer's body in a cell
abbrev IsReadCell : Plan → Cell → Type 0
IsReadCell plan Nothing = Unit {0}
IsReadCell plan (One body) = IsReadBody plan body
IsReadCell plan Conflict = Unit {0}

tagged_read : (plan : Plan) (tag : ℕ) (bytes : List ℕ) (p : Cell × List ℕ) → tagged_cell_at (shape_of plan) tag bytes ≡ Ok p → IsReadCell plan p.0
unfolding tagged_cell_at
tagged_read plan zero bytes p e = subst (λ (q : Cell × List ℕ). IsReadCell plan q.0) (ok_is (Nothing, bytes) p e) tt
tagged_read plan (suc zero) bytes p e =
    let a = bind_ok (body_at (shape_of plan) bytes) (λ body. Ok (One body.0, body.1)) p e in
    let made : Cell × List ℕ = (One a.0.0, a.0.1) in
    subst (λ (q : Cell × List ℕ). IsReadCell plan q.0) (ok_is made p a.2) (body_read plan bytes a.0 a.1)
tagged_read plan (suc (suc zero)) bytes p e = subst (λ (q : Cell × List ℕ). IsReadCell plan q.0) (ok_is (Conflict, bytes) p e) tt
tagged_read plan (suc (suc (suc n))) bytes p e =
    let not0 : eqb (suc (suc (suc n))) 0 ≡ false = ne_eqb _ _ (λ h. omega (arith, h)) in
    let not1 : eqb (suc (suc (suc n))) 1 ≡ false = ne_eqb _ _ (λ h. omega (arith, h)) in
    let not2 : eqb (suc (suc (suc n))) 2 ≡ false = ne_eqb _ _ (λ h. omega (arith, h)) in
    let wrong = rw (not0, not1, not2) at e in
    absurd cc

cell_read : (plan : Plan) (bytes : List ℕ) (p : Cell × List ℕ) → cell_at (shape_of plan) bytes ≡ Ok p → IsReadCell plan p.0
unfolding cell_at
cell_read plan bytes p e =
    let a = read_ok (number_at 1 bytes) (λ tag. tagged_cell_at (shape_of plan) tag.0 tag.1) p e in
    tagged_read plan a.0.0 a.0.1 p a.2

cells_read : (plan : Plan) (n : ℕ) (bytes : List ℕ) (p : List Cell × List ℕ) → repeat_at (cell_at (shape_of plan)) n bytes ≡ Ok p → AllByRecursion (IsReadCell plan) p.0
unfolding repeat_at
cells_read plan zero bytes p e = subst (λ (q : List Cell × List ℕ). AllByRecursion (IsReadCell plan) q.0) (ok_is ([], bytes) p e) tt
cells_read plan (suc n) bytes p e =
    let part = cell_at (shape_of plan) in
    let a = bind_ok (part bytes) (λ first. repeat_at part n first.1 >>= λ others. Ok (first.0 ∷ others.0, others.1)) p e in
    let b = bind_ok (repeat_at part n a.0.1) (λ others. Ok (a.0.0 ∷ others.0, others.1)) p a.2 in
    let made : List Cell × List ℕ = (a.0.0 ∷ b.0.0, b.0.1) in
    subst (λ (q : List Cell × List ℕ). AllByRecursion (IsReadCell plan) q.0) (ok_is made p b.2) (cell_read plan bytes a.0 a.1, cells_read plan n a.0.1 b.0 b.1)

-- the cells were read by the shape that the layout has
abbrev pub WereRead : StateLayout → Type 0
WereRead l = (bytes rest : List ℕ) × (repeat_at (cell_at l.shape) (length l.cut) bytes ≡ Ok (l.cells, rest))

pub state_was_read : (bytes : List ℕ) (p : StateLayout × List ℕ) → state_layout_at bytes ≡ Ok p → WereRead p.0
state_was_read bytes p e =
    let read = layout_read bytes p e in
    (read.behind_shape, p.1, read.cells)

read_by_plan : (plan : Plan) (l : StateLayout) → WereRead l → is_same_shape l.shape (shape_of plan) ≡ true → AllByRecursion (IsReadCell plan) l.cells
read_by_plan plan l (bytes, rest, read) same =
    cells_read plan (length l.cut) bytes (l.cells, rest) (subst (λ (s : Shape). repeat_at (cell_at s) (length l.cut) bytes ≡ Ok (l.cells, rest)) (shape_same l.shape (shape_of plan) same) read)

-- ---- types

cell_typed : (plan : Plan) (cell : Cell) → IsReadCell plan cell → is_cell_shaped plan cell ≡ is_cell_typed plan (kept_cell cell)
cell_typed plan Nothing is = refl
cell_typed plan (One body) is = is.typed ∙ sym (body_typed plan body)
cell_typed plan Conflict is = refl

cells_typed : (plan : Plan) (cells : List Cell) → AllByRecursion (IsReadCell plan) cells → list_all (is_cell_shaped plan) cells ≡ list_all (is_cell_typed plan) (map kept_cell cells)
cells_typed plan [] are = refl
cells_typed plan (cell ∷ cells) are = rw (cell_typed plan cell are.0, cells_typed plan cells are.1) refl

-- ---- order and numbers, fragment by fragment

body_returned : (plan : Plan) (first rows : ℕ) (body : Body) → IsReadBody plan body → body_held plan first rows body ≡ body_held_by plan first rows (kept_body body) (are_sums_possible body)
unfolding body_held
body_returned plan first rows body is =
    elim (are_sums_possible body) as (λ b. are_sums_possible body ≡ b → body_held plan first rows body ≡ body_held_by plan first rows (kept_body body) (are_sums_possible body)) [
      | true ↦ λ e. rw (body_same body e, e) refl
      | false ↦ λ e. rw (body_in_order body, body_numbers plan first rows body is, e) refl
    ] refl

cell_returned : (plan : Plan) (first rows : ℕ) (cell : Cell) → IsReadCell plan cell → cell_held plan first rows cell ≡ cell_held_by plan first rows (kept_cell cell) (is_cell_possible cell)
cell_returned plan first rows Nothing is = refl
cell_returned plan first rows (One body) is = body_returned plan first rows body is
cell_returned plan first rows Conflict is = refl

cells_returned : (job : JobSpec) (k : ℕ) (cells : List Cell) → AllByRecursion (IsReadCell job.plan) cells → cells_held job k cells ≡ cells_held_by job k (map kept_cell cells) (map is_cell_possible cells)
unfolding cells_held cells_held_by
cells_returned job k [] are = refl
cells_returned job k (cell ∷ cells) are = rw (cell_returned job.plan (first_row job.cut k) (slice_index job.cut k) cell are.0, cells_returned job (suc k) cells are.1) refl

-- ---- where all is in order, what is kept is what was read

passes : (plan : Plan) (first rows : ℕ) (body : Body) (possible : Bool) → body_held_by plan first rows body possible ≡ Ok tt → possible ≡ true
passes plan first rows body possible e =
    let sorted = test_not (is_in_order body) fault.UnsortedGroups _ tt e in
    (test_not possible fault.Numbers _ tt sorted.1).0

cell_same : (plan : Plan) (first rows : ℕ) (cell : Cell) → cell_held_by plan first rows (kept_cell cell) (is_cell_possible cell) ≡ Ok tt → kept_cell cell ≡ cell
cell_same plan first rows Nothing e = refl
cell_same plan first rows (One body) e = ap (λ (b : Body). One b) (body_same body (passes plan first rows (kept_body body) (are_sums_possible body) e))
cell_same plan first rows Conflict e = refl

cells_same : (job : JobSpec) (k : ℕ) (cells : List Cell) → cells_held_by job k (map kept_cell cells) (map is_cell_possible cells) ≡ Ok tt → map kept_cell cells ≡ cells
unfolding cells_held_by
cells_same job k [] e = refl
cells_same job k (cell ∷ cells) e =
    let a = bind_ok (cell_held_by job.plan (first_row job.cut k) (slice_index job.cut k) (kept_cell cell) (is_cell_possible cell)) (λ held. cells_held_by job (suc k) (map kept_cell cells) (map is_cell_possible cells)) tt e in
    ap (λ (c : Cell). c ∷ map kept_cell cells) (cell_same job.plan (first_row job.cut k) (slice_index job.cut k) cell a.1) ∙ ap (λ (cs : List Cell). cell ∷ cs) (cells_same job (suc k) cells a.2)

finish : (r : Result (Unit {0}) DecodeFault) (raw kept : List Cell) → (r ≡ Ok tt → kept ≡ raw) → (r >>= λ held. Ok raw) ≡ (r >>= λ held. Ok kept)
finish (Ok done) raw kept same = ap Ok (sym (same refl))
finish (Err e) raw kept same = refl

-- ---- all fields

module _ (job : JobSpec) (cells : List Cell) where
  abbrev of_read : Result (List Cell) DecodeFault
  of_read = cells_held job 0 cells >>= λ held. Ok cells

  abbrev of_kept : Result (List Cell) DecodeFault
  of_kept = cells_held_by job 0 (map kept_cell cells) (map is_cell_possible cells) >>= λ held. Ok (map kept_cell cells)

  held_same : AllByRecursion (IsReadCell job.plan) cells → of_read ≡ of_kept
  held_same are =
      ap (λ (r : Result (Unit {0}) DecodeFault). r >>= λ held. Ok cells) (cells_returned job 0 cells are)
      ∙ finish (cells_held_by job 0 (map kept_cell cells) (map is_cell_possible cells)) cells (map kept_cell cells) (cells_same job 0 cells)

  behind_shape : AllByRecursion (IsReadCell job.plan) cells
      → (if not (list_all (is_cell_shaped job.plan) cells) then Err fault.Shape else of_read) ≡ (if not (list_all (is_cell_typed job.plan) (map kept_cell cells)) then Err fault.Shape else of_kept)
  behind_shape are = rw (cells_typed job.plan cells are, held_same are) refl

  types_returned : (shape : Shape) → (is_same_shape shape (shape_of job.plan) ≡ true → AllByRecursion (IsReadCell job.plan) cells)
      → (if not (is_same_shape shape (shape_of job.plan) && list_all (is_cell_shaped job.plan) cells) then Err fault.Shape else of_read)
      ≡ (if not (is_same_shape shape (shape_of job.plan)) then Err fault.Shape else if not (list_all (is_cell_typed job.plan) (map kept_cell cells)) then Err fault.Shape else of_kept)
  types_returned shape are =
      elim (is_same_shape shape (shape_of job.plan)) as (λ b. is_same_shape shape (shape_of job.plan) ≡ b →
      (if not (b && list_all (is_cell_shaped job.plan) cells) then Err fault.Shape else of_read)
      ≡ (if not b then Err fault.Shape else if not (list_all (is_cell_typed job.plan) (map kept_cell cells)) then Err fault.Shape else of_kept)) [
        | true ↦ λ e. behind_shape (are e)
        | false ↦ λ e. refl
      ] refl

-- the steps, by the parts of the fields
abbrev by_parts : JobSpec → ℕ → List ℕ → List ℕ → Shape → List Cell → List Bool → Result (List Cell) DecodeFault
by_parts job load text cut shape cells returned =
    if not (eqb load job.load) then Err fault.OtherLoad
    else if not (same_bytes text job.plan.text) then Err fault.OtherQuery
    else if not (same_bytes cut job.cut) then Err fault.OtherCut
    else if not (is_same_shape shape (shape_of job.plan)) then Err fault.Shape
    else if not (list_all (is_cell_typed job.plan) cells) then Err fault.Shape
    else (cells_held_by job 0 cells returned >>= λ held. Ok cells)

held_parts : (job : JobSpec) (l : Held) → by_parts job l.job.load l.job.text.now (words l.job.fragments l.job.cut.now) (shape_in l.shape) l.cells.items (sums_in l.findings.items) ≡ state_held_by job l
unfolding state_held_by
held_parts job l = refl

read_parts : (job : JobSpec) (read : StateLayout) → WereRead read → state_held_against job read ≡ by_parts job read.load read.text read.cut read.shape (map kept_cell read.cells) (map is_cell_possible read.cells)
unfolding state_held_against
read_parts job read were =
    ap (λ (x : Result (List Cell) DecodeFault).
    if not (eqb read.load job.load) then Err fault.OtherLoad
    else if not (same_bytes read.text job.plan.text) then Err fault.OtherQuery
    else if not (same_bytes read.cut job.cut) then Err fault.OtherCut
    else x) (types_returned job read.cells read.shape (read_by_plan job.plan read were))

state_returned : (job : JobSpec) (l : Held) (read : StateLayout) → IsStateLayout l read → WereRead read → state_held_against job read ≡ state_held_by job l
state_returned job l read is were =
    let parts : by_parts job l.job.load l.job.text.now (words l.job.fragments l.job.cut.now) (shape_in l.shape) l.cells.items (sums_in l.findings.items)
    ≡ by_parts job read.load read.text read.cut read.shape (map kept_cell read.cells) (map is_cell_possible read.cells) =
    λ i. by_parts job (is.job.load i) (is.job.text i) (is.job.cut i) (is.shape i) (is.cells i) (is.possible i) in
    read_parts job read were ∙ sym parts ∙ held_parts job l

-- the obstacle in sealed bytes
pub judged_state_returned : (job : JobSpec) (bytes rest seal behind end : List ℕ) (l : Held) → (y : StateLayout × List ℕ) × (state_layout_at bytes ≡ Ok y) × (IsStateLayout l y.0 × (rest ≡ y.1)) → bytes_at 32 rest ≡ Ok (seal, behind)
    → sealed_end bytes seal behind ≡ Ok end → judged_state job bytes ≡ state_held_by job l
unfolding judged_state
judged_state_returned job bytes rest seal behind end l (y, read, is) sealed ended =
    let here : bytes_at 32 y.1 ≡ Ok (seal, behind) = ap (bytes_at 32) (sym is.1) ∙ sealed in
    rw (read, here, ended) (state_returned job l y.0 is.0 (state_was_read bytes y read))

-- there is a cell, and its mark, for each fragment that was read
pub as_many : (bytes rest : List ℕ) (l : Held) → (y : StateLayout × List ℕ) × (state_layout_at bytes ≡ Ok y) × (IsStateLayout l y.0 × (rest ≡ y.1)) → (length l.cells.items ≡ l.job.fragments) × (length l.findings.items ≡ l.job.fragments)
as_many bytes rest l (y, read, is) =
    let count : length y.0.cells ≡ l.job.fragments = layout_cells bytes y read ∙ sym is.0.job.count in
    (ap (λ (cs : List Cell). length cs) is.0.cells ∙ length-map y.0.cells kept_cell ∙ count, sym (length-map l.findings.items (λ f. f.are_sums_possible)) ∙ ap (λ (bs : List Bool). length bs) is.0.possible ∙ length-map y.0.cells is_cell_possible ∙ count)
