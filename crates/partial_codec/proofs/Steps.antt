-- One step of a loop over cells or fragments.
use Rattle.std.proofs.Common.{◌≡◌, ℕ, zero, suc, ◌+◌, ◌^◌, ◌≤◌, ◌<◌, Bool, true, false, ◌&&◌, List, [], ◌∷◌, None, length, get_or, take, drop, Result, Ok, refl, sym, ap, subst, ◌∙◌, arith}
use Rattle.std.specs.Prelude.{slice_index}
use Rattle.std.specs.List.{list_all}
use Rattle.std.proofs.Math.Seq.{drop-cons}
use Rattle.std.proofs.lemmas.List.{drop_all, length-map}
use Rattle.std.proofs.lemmas.List.Elements.{recursion_from_All}
use Rattle.std.proofs.lemmas.List.Sums.{sum_by-cons}
use Rattle.meaning.specs.Said.{Cell}
use Rattle.meaning.specs.declared.plan.Plan.{Plan}
use Rattle.meaning.specs.Cut.{IsCut, first_row}
use Rattle.meaning.specs.Limits.{max_rows}
use Rattle.answer_fields.specs.declared.fault.DecodeFault.{DecodeFault}
use Rattle.answer_fields.specs.Keeping.{is_cell_typed}
use Rattle.answer_layouts.specs.declared.findings.Findings.{Findings}
use Rattle.answer_layouts.specs.Found.{AreFoundInCell, AreFoundInCells}
use Rattle.answer_layouts.specs.Layouts.{sums_in}
use Rattle.partial_codec.specs.Job.{JobSpec}
use Rattle.wire.specs.Reading.{◌>>=◌}
use Rattle.partial_codec.specs.Holding.{cell_held_by, cells_held_by}
use Rattle.partial_codec.proofs.Fitting.{short_at, few_rows_before}

-- ---- cells

pub cells_step : (job : JobSpec) (cells : List Cell) (returned : List Bool) (k : ℕ) (d : Cell) (e : Bool) → k < length cells → k < length returned
    → cells_held_by job k (drop k cells) (drop k returned) ≡ (cell_held_by job.plan (first_row job.cut k) (slice_index job.cut k) (get_or cells k d) (get_or returned k e) >>= λ held. cells_held_by job (suc k) (drop (suc k) cells) (drop (suc k) returned))
unfolding cells_held_by
cells_step job cells returned k d e lt flags = rw (drop-cons cells k d lt, drop-cons returned k e flags) refl

-- what the code holds against fragment k, whose outcome is `r`
pub cells_after : (job : JobSpec) (cells : List Cell) (returned : List Bool) (k : ℕ) (d : Cell) (e : Bool) (plan : Plan) (first rows : ℕ) (cell : Cell) (possible : Bool) (r : Result (Unit {0}) DecodeFault) → k < length cells → k < length returned
    → plan ≡ job.plan → first ≡ first_row job.cut k → rows ≡ slice_index job.cut k → cell ≡ get_or cells k d → possible ≡ get_or returned k e → cell_held_by plan first rows cell possible ≡ r
    → cells_held_by job k (drop k cells) (drop k returned) ≡ (r >>= λ held. cells_held_by job (k + 1) (drop (k + 1) cells) (drop (k + 1) returned))
cells_after job cells returned k d e plan first rows cell possible r lt flags plans firsts lengths at flag held =
    let same : cell_held_by job.plan (first_row job.cut k) (slice_index job.cut k) (get_or cells k d) (get_or returned k e) ≡ r =
    ap (λ (p : Plan). cell_held_by p (first_row job.cut k) (slice_index job.cut k) (get_or cells k d) (get_or returned k e)) (sym plans)
    ∙ ap (λ (n : ℕ). cell_held_by plan n (slice_index job.cut k) (get_or cells k d) (get_or returned k e)) (sym firsts)
    ∙ ap (λ (n : ℕ). cell_held_by plan first n (get_or cells k d) (get_or returned k e)) (sym lengths)
    ∙ ap (λ (c : Cell). cell_held_by plan first rows c (get_or returned k e)) (sym at)
    ∙ ap (λ (b : Bool). cell_held_by plan first rows cell b) (sym flag) ∙ held in
    let next : suc k ≡ k + 1 = omega arith in
    cells_step job cells returned k d e lt flags ∙ ap (λ (x : Result (Unit {0}) DecodeFault). x >>= λ held. cells_held_by job (suc k) (drop (suc k) cells) (drop (suc k) returned)) same
    ∙ ap (λ (n : ℕ). r >>= λ held. cells_held_by job n (drop n cells) (drop n returned)) next

pub cells_end : (job : JobSpec) (cells : List Cell) (returned : List Bool) (k : ℕ) → length cells ≤ k → cells_held_by job k (drop k cells) (drop k returned) ≡ Ok tt
unfolding cells_held_by
cells_end job cells returned k le = rw (drop_all k cells le) refl

first_step : (cut : List ℕ) (k : ℕ) → k < length cut → first_row cut (suc k) ≡ first_row cut k + slice_index cut k
first_step [] k lt = absurd (omega arith)
first_step (n ∷ cut) zero lt = omega (arith, sum_by-cons (λ x. x) n [])
first_step (n ∷ cut) (suc k) lt =
    let next = first_step cut k (omega arith) in
    omega (arith, next, sum_by-cons (λ x. x) n (take k cut), sum_by-cons (λ x. x) n (take (suc k) cut))

-- the first row of the next fragment
pub next_first : (cut : List ℕ) (k : ℕ) → k < length cut → first_row cut (k + 1) ≡ first_row cut k + slice_index cut k
next_first cut k lt =
    let next : k + 1 ≡ suc k = omega arith in
    ap (first_row cut) next ∙ first_step cut k lt

-- the rows of a cut have numbers of 64 bits
pub rows_fit : (cut : List ℕ) (k : ℕ) → IsCut cut → first_row cut k + slice_index cut k < 2 ^ 64
rows_fit cut k is =
    let short = recursion_from_All (λ n. n ≤ max_rows) cut is.short in
    let rows = short_at cut k short in
    let first = few_rows_before cut k short in
    let few = is.few in
    omega (arith, rows, first, few)

-- what was found of cell k
pub found_at : (plan : Plan) (cells : List Cell) (found : List Findings) (k : ℕ) (d : Cell) (e : Findings) → k < length cells → AreFoundInCells plan cells found → AreFoundInCell plan (get_or cells k d) (get_or found k e)
found_at plan [] found k d e lt are = absurd (omega arith)
found_at plan (c ∷ cells) [] k d e lt are = absurd are
found_at plan (c ∷ cells) (f ∷ found) zero d e lt are = are.0
found_at plan (c ∷ cells) (f ∷ found) (suc k) d e lt are = found_at plan cells found k d e (omega arith) are.1

pub sum_at : (found : List Findings) (k : ℕ) (e : Findings) → k < length found → (get_or found k e).are_sums_possible ≡ get_or (sums_in found) k e.are_sums_possible
sum_at [] k e lt = absurd (omega arith)
sum_at (f ∷ found) zero e lt = refl
sum_at (f ∷ found) (suc k) e lt = sum_at found k e (omega arith)

pub sums_length : (found : List Findings) → length (sums_in found) ≡ length found
sums_length found = length-map found (λ f. f.are_sums_possible)

-- what the code reads past the end of a list of findings
abbrev pub no_findings : Findings
no_findings = record { are_typed = false; are_in_order = false; rows = None; have_rows = false; are_states_possible = false; are_sums_possible = false }

pub typed_step : (plan : Plan) (cells : List Cell) (k : ℕ) (d : Cell) → k < length cells → list_all (is_cell_typed plan) (drop k cells) ≡ (is_cell_typed plan (get_or cells k d) && list_all (is_cell_typed plan) (drop (k + 1) cells))
typed_step plan cells k d lt =
    let next : suc k ≡ k + 1 = omega arith in
    ap (list_all (is_cell_typed plan)) (drop-cons cells k d lt) ∙ ap (λ n. is_cell_typed plan (get_or cells k d) && list_all (is_cell_typed plan) (drop n cells)) next

pub typed_after : (plan : Plan) (cells : List Cell) (found : List Findings) (k : ℕ) (cell : Cell) (is_typed : Bool) → k < length cells → cell ≡ get_or cells k cell
    → (AreFoundInCell plan cell (get_or found k no_findings) → is_typed ≡ is_cell_typed plan cell) → AreFoundInCells plan cells found → list_all (is_cell_typed plan) cells ≡ list_all (is_cell_typed plan) (drop k cells)
    → list_all (is_cell_typed plan) cells ≡ (is_typed && list_all (is_cell_typed plan) (drop (k + 1) cells))
typed_after plan cells found k cell is_typed lt at test are so_far =
    let here : AreFoundInCell plan cell (get_or found k no_findings) = subst (λ (c : Cell). AreFoundInCell plan c (get_or found k no_findings)) (sym at) (found_at plan cells found k cell no_findings lt are) in
    so_far ∙ typed_step plan cells k cell lt ∙ ap (λ (b : Bool). b && list_all (is_cell_typed plan) (drop (k + 1) cells)) (ap (is_cell_typed plan) (sym at) ∙ sym (test here))

pub typed_end : (plan : Plan) (cells : List Cell) (k : ℕ) → length cells ≤ k → list_all (is_cell_typed plan) (drop k cells) ≡ true
typed_end plan cells k le = rw (drop_all k cells le) refl
