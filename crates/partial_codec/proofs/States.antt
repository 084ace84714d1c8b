-- The two laws of states: what is read is spelled so and fits, and what fits and is spelled is read.
use Rattle.std.proofs.Common.{◌≡◌, ℕ, zero, suc, ◌+◌, ◌<◌, true, false, ◌&&◌, eqb, List, [], ◌∷◌, ◌++◌, length, get_or, Ok, refl, ap, subst, ◌∙◌, append_assoc, arith}
use Rattle.std.specs.Prelude.{nat_lt, slice_index}
use Rattle.std.specs.List.{flat_map, AllByRecursion, list_all}
use Rattle.std.specs.Cmp.Lexicographic.{bytes_decides}
use Rattle.std.proofs.lemmas.Bool.{eqb-true, eq-eqb, lt-ltb, ne_eqb, and_parts}
use Rattle.meaning.specs.Said.{Body}
use Rattle.meaning.specs.Said.{Cell}
use Rattle.meaning.specs.declared.answer.Cell.TheVariants.{Nothing, One, Conflict}
use Rattle.meaning.specs.Cut.{first_row}
use Rattle.meaning.specs.Fitting.{is_shaped, is_in_order, are_numbers_possible, fits}
use Rattle.meaning.proofs.Tests.{both}
use Rattle.answer_fields.specs.declared.fault.DecodeFault.TheVariants as refusal
use Rattle.answer_fields.specs.declared.format.Content.TheVariants as content
use Rattle.answer_fields.specs.declared.format.Format.{Format}
use Rattle.answer_fields.specs.Format.{newest, has_kinds, magic, format_at}
use Rattle.wire.specs.Reading.{◌>>=◌, bytes_at, number_at, repeat_at, same_bytes, sealed_end}
use Rattle.partial_codec.specs.Job.{JobSpec, IsJob}
use Rattle.answer_fields.specs.Shape.{Shape, shape_of, is_same_shape}
use Rattle.wire.specs.Bytes.{number_bytes, seal_of}
use Rattle.partial_codec.specs.Spelling.{body_bytes, shape_bytes}
use Rattle.answer_fields.specs.LayoutReading.{JobFields, body_at, shape_at, job_at}
use Rattle.answer_fields.specs.Ranges.{IsCell}
use Rattle.partial_codec.specs.Answer.{Fits}
use Rattle.partial_codec.specs.State.{StateLayout, FitsState, SpellsState, cell_bytes, state_layout_bytes, state_layout_of, state_spelling, state_bytes, tagged_cell_at, cell_at, state_laid_out, state_layout_at, is_cell_shaped, body_held, cell_held, cells_held, state_held_against, judged_state}
use Rattle.wire.proofs.Numbers.{bind_ok, ok_is, IsBytes, Takes, Takes-then, bytes_take, number_takes, number_again, test_not}
use Rattle.wire.proofs.Parts.{IsSpelled, IsReadAgain, repeat_takes, repeat_again, repeat_all}
use Rattle.answer_fields.proofs.Groups.{body_takes, body_again}
use Rattle.answer_fields.proofs.FieldLaws.{IsShape, AreJobFields, job_text, job_takes, job_again, shape_known, shape_takes, shape_again}
use Rattle.wire.proofs.Seals.{seal_takes, seal_again, seal_left}
use Rattle.answer_fields.proofs.Formats.{format_takes, format_again, newest_has}
use Rattle.partial_codec.proofs.Answers.{shape_same, shape_itself, job_fits, shape_fits, body_fits}
use Rattle.answer_fields.proofs.FromWire.{read_ok}
use Rattle.answer_fields.specs.Fault.{from_wire}

-- ---- cells

tagged_takes : (shape : Shape) (start : List ℕ) (tag : ℕ) (bytes : List ℕ) (p : Cell × List ℕ) → IsBytes bytes → Takes start (number_bytes 1 tag) bytes → tagged_cell_at shape tag bytes ≡ Ok p
    → Takes start (cell_bytes shape p.0) p.1
unfolding tagged_cell_at cell_bytes
tagged_takes shape start zero bytes p fits first e =
    subst (λ (q : Cell × List ℕ). Takes start (cell_bytes shape q.0) q.1) (ok_is (Nothing, bytes) p e) first
tagged_takes shape start (suc zero) bytes p fits first e =
    let a = bind_ok (body_at shape bytes) (λ body. Ok (One body.0, body.1)) p e in
    let taken = body_takes shape bytes a.0 fits a.1 in
    let made : Cell × List ℕ = (One a.0.0, a.0.1) in
    subst (λ (q : Cell × List ℕ). Takes start (cell_bytes shape q.0) q.1) (ok_is made p a.2) (Takes-then start (number_bytes 1 1) bytes (body_bytes shape a.0.0) a.0.1 first taken)
tagged_takes shape start (suc (suc zero)) bytes p fits first e =
    subst (λ (q : Cell × List ℕ). Takes start (cell_bytes shape q.0) q.1) (ok_is (Conflict, bytes) p e) first
tagged_takes shape start (suc (suc (suc n))) bytes p fits first e =
    let not0 : eqb (suc (suc (suc n))) 0 ≡ false = ne_eqb _ _ (λ h. omega (arith, h)) in
    let not1 : eqb (suc (suc (suc n))) 1 ≡ false = ne_eqb _ _ (λ h. omega (arith, h)) in
    let not2 : eqb (suc (suc (suc n))) 2 ≡ false = ne_eqb _ _ (λ h. omega (arith, h)) in
    let wrong = rw (not0, not1, not2) at e in
    absurd cc

cell_takes : (shape : Shape) → IsSpelled (cell_at shape) (cell_bytes shape)
unfolding cell_at
cell_takes shape bytes p fits e =
    let a = read_ok (number_at 1 bytes) (λ tag. tagged_cell_at shape tag.0 tag.1) p e in
    let tag = number_takes 1 bytes a.0.0 a.0.1 fits a.1 in
    tagged_takes shape bytes a.0.0 a.0.1 p tag.0.rest_fits tag.0 a.2

cell_again : (shape : Shape) → IsReadAgain (cell_at shape) (cell_bytes shape) (IsCell shape)
unfolding cell_at tagged_cell_at cell_bytes
cell_again shape Nothing rest fits = rw (number_again 1 0 rest (omega arith)) refl
cell_again shape (One body) rest fits =
    ap (cell_at shape) (append_assoc (number_bytes 1 1) (body_bytes shape body) rest)
    ∙ rw (number_again 1 1 (body_bytes shape body ++ rest) (omega arith), body_again shape body rest fits) refl
cell_again shape Conflict rest fits = rw (number_again 1 2 rest (omega arith)) refl

-- what holds of nothing, of a conflict and of each body that is read holds of each cell that is read
module _ (Holds : Cell → Type 0) (shape : Shape) (nothing : Holds Nothing) (conflict : Holds Conflict) (one : (bytes : List ℕ) (q : Body × List ℕ) → body_at shape bytes ≡ Ok q → Holds (One q.0)) where
  of_tagged : (tag : ℕ) (bytes : List ℕ) (p : Cell × List ℕ) → tagged_cell_at shape tag bytes ≡ Ok p → Holds p.0
  unfolding tagged_cell_at
  of_tagged zero bytes p e = subst (λ (q : Cell × List ℕ). Holds q.0) (ok_is (Nothing, bytes) p e) nothing
  of_tagged (suc zero) bytes p e =
      let a = bind_ok (body_at shape bytes) (λ body. Ok (One body.0, body.1)) p e in
      let made : Cell × List ℕ = (One a.0.0, a.0.1) in
      subst (λ (q : Cell × List ℕ). Holds q.0) (ok_is made p a.2) (one bytes a.0 a.1)
  of_tagged (suc (suc zero)) bytes p e = subst (λ (q : Cell × List ℕ). Holds q.0) (ok_is (Conflict, bytes) p e) conflict
  of_tagged (suc (suc (suc n))) bytes p e =
      let not0 : eqb (suc (suc (suc n))) 0 ≡ false = ne_eqb _ _ (λ h. omega (arith, h)) in
      let not1 : eqb (suc (suc (suc n))) 1 ≡ false = ne_eqb _ _ (λ h. omega (arith, h)) in
      let not2 : eqb (suc (suc (suc n))) 2 ≡ false = ne_eqb _ _ (λ h. omega (arith, h)) in
      let wrong = rw (not0, not1, not2) at e in
      absurd cc

  of_cell : (bytes : List ℕ) (p : Cell × List ℕ) → cell_at shape bytes ≡ Ok p → Holds p.0
  unfolding cell_at
  of_cell bytes p e =
      let a = read_ok (number_at 1 bytes) (λ tag. tagged_cell_at shape tag.0 tag.1) p e in
      of_tagged a.0.0 a.0.1 p a.2

-- ---- all fields but the seal

abbrev job_of : StateLayout → JobFields
job_of l = record { load = l.load; text = l.text; cut = l.cut }

-- what reading a layout gave, field by field
pub record IsReadLayout (bytes : List ℕ) (p : StateLayout × List ℕ) : Type 0 where
  behind_format : List ℕ
  behind_job : List ℕ
  pub behind_shape : List ℕ
  format : format_at content.State bytes ≡ Ok (p.0.format, behind_format)
  job : job_at behind_format ≡ Ok (job_of p.0, behind_job)
  shape : shape_at p.0.format behind_job ≡ Ok (p.0.shape, behind_shape)
  pub cells : repeat_at (cell_at p.0.shape) (length p.0.cut) behind_shape ≡ Ok (p.0.cells, p.1)

pub layout_read : (bytes : List ℕ) (p : StateLayout × List ℕ) → state_layout_at bytes ≡ Ok p → IsReadLayout bytes p
unfolding state_layout_at
layout_read bytes p e =
    let a = bind_ok (format_at content.State bytes) (λ format. job_at format.1 >>= λ job. shape_at format.0 job.1 >>= λ shape. repeat_at (cell_at shape.0) (length job.0.cut) shape.1 >>= λ cells. Ok (state_laid_out format.0 job.0 shape.0 cells.0, cells.1)) p e in
    let b = bind_ok (job_at a.0.1) (λ job. shape_at a.0.0 job.1 >>= λ shape. repeat_at (cell_at shape.0) (length job.0.cut) shape.1 >>= λ cells. Ok (state_laid_out a.0.0 job.0 shape.0 cells.0, cells.1)) p a.2 in
    let c = bind_ok (shape_at a.0.0 b.0.1) (λ shape. repeat_at (cell_at shape.0) (length b.0.0.cut) shape.1 >>= λ cells. Ok (state_laid_out a.0.0 b.0.0 shape.0 cells.0, cells.1)) p b.2 in
    let d = bind_ok (repeat_at (cell_at c.0.0) (length b.0.0.cut) c.0.1) (λ cells. Ok (state_laid_out a.0.0 b.0.0 c.0.0 cells.0, cells.1)) p c.2 in
    let made : StateLayout × List ℕ = (state_laid_out a.0.0 b.0.0 c.0.0 d.0.0, d.0.1) in
    let read : IsReadLayout bytes made = record { behind_format = a.0.1; behind_job = b.0.1; behind_shape = c.0.1; format = a.1; job = b.1; shape = c.1; cells = d.1 } in
    subst (λ (q : StateLayout × List ℕ). IsReadLayout bytes q) (ok_is made p d.2) read

pub layout_takes : IsSpelled state_layout_at state_layout_bytes
unfolding state_layout_bytes
layout_takes bytes p fits e =
    let read = layout_read bytes p e in
    let l = p.0 in
    let job = job_of l in
    let named = magic content.State l.format in
    let format = format_takes content.State bytes (l.format, read.behind_format) fits read.format in
    let fields = job_takes read.behind_format (job, read.behind_job) format.rest_fits read.job in
    let shape = shape_takes l.format read.behind_job (l.shape, read.behind_shape) fields.rest_fits read.shape in
    let cells = repeat_takes (cell_at l.shape) (cell_bytes l.shape) (cell_takes l.shape) (length l.cut) read.behind_shape (l.cells, p.1) shape.rest_fits read.cells in
    let one = Takes-then bytes named read.behind_format (job_text job) read.behind_job format fields in
    let two = Takes-then bytes (named ++ job_text job) read.behind_job (shape_bytes l.shape) read.behind_shape one shape in
    Takes-then bytes (named ++ job_text job ++ shape_bytes l.shape) read.behind_shape (flat_map (cell_bytes l.shape) l.cells) p.1 two cells.0

-- the format has the kinds of a layout that is read
layout_known : (bytes : List ℕ) (p : StateLayout × List ℕ) → state_layout_at bytes ≡ Ok p → has_kinds p.0.format p.0.shape ≡ true
layout_known bytes p e =
    let read = layout_read bytes p e in
    shape_known p.0.format read.behind_job (p.0.shape, read.behind_shape) read.shape

-- a cell for each fragment
pub layout_cells : (bytes : List ℕ) (p : StateLayout × List ℕ) → state_layout_at bytes ≡ Ok p → length p.0.cells ≡ length p.0.cut
layout_cells bytes p e =
    let read = layout_read bytes p e in
    let l = p.0 in
    (repeat_all (cell_at l.shape) (λ c. true) (λ bs q h. refl) (length l.cut) read.behind_shape (l.cells, p.1) read.cells).0

-- a layout that has a spelling
pub record IsStateLayout (l : StateLayout) : Type 0 where
  job : AreJobFields (job_of l)
  shape : IsShape l.format l.shape
  fragments : length l.cells ≡ length l.cut
  pub cells : AllByRecursion (IsCell l.shape) l.cells

layout_again : IsReadAgain state_layout_at state_layout_bytes IsStateLayout
unfolding state_layout_at state_layout_bytes
layout_again l rest fits =
    let named = magic content.State l.format in
    let job = job_text (job_of l) in
    let shape = shape_bytes l.shape in
    let cells = flat_map (cell_bytes l.shape) l.cells in
    ap state_layout_at (append_assoc (named ++ job ++ shape) cells rest ∙ append_assoc (named ++ job) shape (cells ++ rest) ∙ append_assoc named job (shape ++ (cells ++ rest)))
    ∙ rw (
      format_again content.State l.format (job ++ (shape ++ (cells ++ rest))),
      job_again (job_of l) (shape ++ (cells ++ rest)) fits.job,
      shape_again l.format l.shape (cells ++ rest) fits.shape,
      repeat_again (cell_at l.shape) (cell_bytes l.shape) (IsCell l.shape) (cell_again l.shape) (length l.cut) l.cells rest fits.fragments fits.cells,
    ) refl

-- ---- what was held against the job fits

-- an answer that was held against fragment k
record IsHeldAnswer (job : JobSpec) (k : ℕ) (body : Body) : Type 0 where
  shaped : is_shaped job.plan body ≡ true
  sorted : is_in_order body ≡ true
  possible : are_numbers_possible job.plan (first_row job.cut k) (slice_index job.cut k) body ≡ true

held_body : (job : JobSpec) (k : ℕ) (body : Body) → is_shaped job.plan body ≡ true → body_held job.plan (first_row job.cut k) (slice_index job.cut k) body ≡ Ok tt → IsHeldAnswer job k body
unfolding body_held
held_body job k body shaped e =
    let sorted = test_not (is_in_order body) refusal.UnsortedGroups _ tt e in
    let possible = test_not (are_numbers_possible job.plan (first_row job.cut k) (slice_index job.cut k) body) refusal.Numbers _ tt sorted.1 in
    record { shaped = shaped; sorted = sorted.0; possible = possible.0 }

held_one : (job : JobSpec) (k : ℕ) (cell : Cell) (body : Body) → cell ≡ One body → is_cell_shaped job.plan cell ≡ true → cell_held job.plan (first_row job.cut k) (slice_index job.cut k) cell ≡ Ok tt
    → IsHeldAnswer job k body
held_one job k cell body is shaped held =
    held_body job k body (subst (λ (c : Cell). is_cell_shaped job.plan c ≡ true) is shaped)
    (subst (λ (c : Cell). cell_held job.plan (first_row job.cut k) (slice_index job.cut k) c ≡ Ok tt) is held)

no_answer : (body : Body) → Nothing ≡ One body → ⊥
no_answer body e = absurd cc

-- the answers in the cells of the fragments from j on
held_each : (job : JobSpec) (cells : List Cell) (j k n : ℕ) (body : Body) → list_all (is_cell_shaped job.plan) cells ≡ true → cells_held job j cells ≡ Ok tt
    → get_or cells k Nothing ≡ One body → n ≡ j + k → (k < length cells) × IsHeldAnswer job n body
unfolding cells_held
held_each job [] j zero n body shaped held at is = absurd (no_answer body at)
held_each job [] j (suc k) n body shaped held at is = absurd (no_answer body at)
held_each job (cell ∷ cells) j zero n body shaped held at is =
    let a = bind_ok (cell_held job.plan (first_row job.cut j) (slice_index job.cut j) cell) (λ held. cells_held job (suc j) cells) tt held in
    let here = held_one job j cell body at (and_parts (is_cell_shaped job.plan cell) (list_all (is_cell_shaped job.plan) cells) shaped).0 a.1 in
    let same : j ≡ n = omega (arith, is) in
    (omega arith, subst (λ (m : ℕ). IsHeldAnswer job m body) same here)
held_each job (cell ∷ cells) j (suc k) n body shaped held at is =
    let a = bind_ok (cell_held job.plan (first_row job.cut j) (slice_index job.cut j) cell) (λ held. cells_held job (suc j) cells) tt held in
    let others = held_each job cells (suc j) k n body (and_parts (is_cell_shaped job.plan cell) (list_all (is_cell_shaped job.plan) cells) shaped).1 a.2 at (omega (arith, is)) in
    let lt = others.0 in
    (omega (arith, lt), others.1)

held_fits : (job : JobSpec) (k : ℕ) (body : Body) → k < length job.cut → IsHeldAnswer job k body → Fits job (record { k = k; body = body })
held_fits job k body lt held = both _ _ (lt-ltb k (length job.cut) lt) (both _ _ held.shaped (both _ _ held.sorted held.possible))

-- the fields that were held against the job
record IsHeld (job : JobSpec) (l : StateLayout) (cells : List Cell) : Type 0 where
  layout : l ≡ state_layout_of l.format job cells
  shape : l.shape ≡ shape_of job.plan
  shaped : list_all (is_cell_shaped job.plan) cells ≡ true
  held : cells_held job 0 cells ≡ Ok tt

held_takes : (job : JobSpec) (l : StateLayout) (cells : List Cell) → state_held_against job l ≡ Ok cells → IsHeld job l cells
unfolding state_held_against
held_takes job l cells e =
    let load = test_not (eqb l.load job.load) refusal.OtherLoad _ cells e in
    let text = test_not (same_bytes l.text job.plan.text) refusal.OtherQuery _ cells load.1 in
    let cut = test_not (same_bytes l.cut job.cut) refusal.OtherCut _ cells text.1 in
    let shape = test_not (is_same_shape l.shape (shape_of job.plan) && list_all (is_cell_shaped job.plan) l.cells) refusal.Shape _ cells cut.1 in
    let each = bind_ok (cells_held job 0 l.cells) (λ held. Ok l.cells) cells shape.1 in
    let shapes = and_parts (is_same_shape l.shape (shape_of job.plan)) (list_all (is_cell_shaped job.plan) l.cells) shape.0 in
    let loads : l.load ≡ job.load = eqb-true _ _ load.0 in
    let texts : l.text ≡ job.plan.text = (bytes_decides l.text job.plan.text).0 text.0 in
    let lengths : l.cut ≡ job.cut = (bytes_decides l.cut job.cut).0 cut.0 in
    let same_shape : l.shape ≡ shape_of job.plan = shape_same l.shape (shape_of job.plan) shapes.0 in
    let same_layout : l ≡ state_layout_of l.format job l.cells = λ i. record { format = l.format; load = loads i; text = texts i; cut = lengths i; shape = same_shape i; cells = l.cells } in
    let held : IsHeld job l l.cells = record { layout = same_layout; shape = same_shape; shaped = shapes.1; held = each.1 } in
    subst (λ (cs : List Cell). IsHeld job l cs) (ok_is l.cells cells each.2) held

state_fits : (job : JobSpec) (l : StateLayout) (cells : List Cell) → length l.cells ≡ length l.cut → IsHeld job l cells → FitsState job cells
state_fits job l cells is held =
    let fragments : length cells ≡ length job.cut = subst (λ (m : StateLayout). length m.cells ≡ length m.cut) held.layout is in
    let answers : (k : ℕ) (body : Body) → get_or cells k Nothing ≡ One body → Fits job (record { k = k; body = body }) = λ k body at.
    let each = held_each job cells 0 k k body held.shaped held.held at (omega arith) in
    held_fits job k body (let lt = each.0 in omega (arith, lt, fragments)) each.1 in
    record { fragments = fragments; answers = answers }

pub file_takes : (job : JobSpec) (bytes : List ℕ) (cells : List Cell) → IsBytes bytes → judged_state job bytes ≡ Ok cells → SpellsState job bytes cells
unfolding judged_state
file_takes job bytes cells ok e =
    let one = bind_ok (state_layout_at bytes) (λ layout. from_wire (bytes_at 32 layout.1) >>= λ seal. from_wire (sealed_end bytes seal.0 seal.1) >>= λ end. state_held_against job layout.0) cells e in
    let two = read_ok (bytes_at 32 one.0.1) (λ seal. from_wire (sealed_end bytes seal.0 seal.1) >>= λ end. state_held_against job one.0.0) cells one.2 in
    let three = read_ok (sealed_end bytes two.0.0 two.0.1) (λ end. state_held_against job one.0.0) cells two.2 in
    let layout = layout_takes bytes one.0 ok one.1 in
    let seal = bytes_take 32 one.0.1 two.0.0 two.0.1 layout.rest_fits two.1 in
    let front = state_layout_bytes one.0.0 in
    let parts : bytes ≡ front ++ (two.0.0 ++ two.0.1) = layout.parts ∙ ap (λ (t : List ℕ). front ++ t) seal.0.parts in
    let ended = subst (λ (bs : List ℕ). sealed_end bs two.0.0 two.0.1 ≡ Ok three.0) parts three.1 in
    let sealed = seal_takes front two.0.0 two.0.1 three.0 seal.1 ended in
    let held = held_takes job one.0.0 cells three.2 in
    let format = one.0.0.format in
    let kinds : has_kinds format (shape_of job.plan) ≡ true = subst (λ (s : Shape). has_kinds format s ≡ true) held.shape (layout_known bytes one.0 one.1) in
    let whole : bytes ≡ state_spelling format job cells = parts ∙ sealed ∙ ap (λ (l : StateLayout). state_layout_bytes l ++ seal_of (state_layout_bytes l)) held.layout in
    record { format = format; kinds = kinds; fits = state_fits job one.0.0 cells (layout_cells bytes one.0 one.1) held; spelled = whole }

-- ---- what fits and is spelled is read

-- what is given of each answer in the cells of the fragments from j on
abbrev EachFits : JobSpec → ℕ → List Cell → Type 0
EachFits job j cells = (k n : ℕ) (body : Body) → n ≡ j + k → get_or cells k Nothing ≡ One body → Fits job (record { k = n; body = body })

here_fits : (job : JobSpec) (j : ℕ) (cell : Cell) (cells : List Cell) → EachFits job j (cell ∷ cells) → (body : Body) → cell ≡ One body → Fits job (record { k = j; body = body })
here_fits job j cell cells given body is = given 0 j body (omega arith) is

later_fit : (job : JobSpec) (j : ℕ) (cell : Cell) (cells : List Cell) → EachFits job j (cell ∷ cells) → EachFits job (suc j) cells
later_fit job j cell cells given k n body is at = given (suc k) n body (omega (arith, is)) at

cell_fits : (job : JobSpec) (j : ℕ) (cell : Cell) → IsJob job → ((body : Body) → cell ≡ One body → Fits job (record { k = j; body = body })) → IsCell (shape_of job.plan) cell
cell_fits job j Nothing is given = tt
cell_fits job j (One body) is given =
    let fit = given body refl in
    body_fits job (record { k = j; body = body }) is fit
cell_fits job j Conflict is given = tt

cells_fit : (job : JobSpec) (j : ℕ) (cells : List Cell) → IsJob job → EachFits job j cells → AllByRecursion (IsCell (shape_of job.plan)) cells
cells_fit job j [] is given = tt
cells_fit job j (cell ∷ cells) is given = (cell_fits job j cell is (here_fits job j cell cells given), cells_fit job (suc j) cells is (later_fit job j cell cells given))

cell_held_again : (job : JobSpec) (j : ℕ) (cell : Cell) → ((body : Body) → cell ≡ One body → Fits job (record { k = j; body = body }))
    → (is_cell_shaped job.plan cell ≡ true) × (cell_held job.plan (first_row job.cut j) (slice_index job.cut j) cell ≡ Ok tt)
unfolding body_held
cell_held_again job j Nothing given = (refl, refl)
cell_held_again job j (One body) given =
    let k = and_parts (nat_lt j (length job.cut)) _ (given body refl) in
    let shaped = and_parts (is_shaped job.plan body) _ k.1 in
    let sorted = and_parts (is_in_order body) _ shaped.1 in
    (shaped.0, rw (sorted.0, sorted.1) refl)
cell_held_again job j Conflict given = (refl, refl)

cells_held_again : (job : JobSpec) (j : ℕ) (cells : List Cell) → EachFits job j cells → (list_all (is_cell_shaped job.plan) cells ≡ true) × (cells_held job j cells ≡ Ok tt)
unfolding cells_held
cells_held_again job j [] given = (refl, refl)
cells_held_again job j (cell ∷ cells) given =
    let here = cell_held_again job j cell (here_fits job j cell cells given) in
    let later = cells_held_again job (suc j) cells (later_fit job j cell cells given) in
    (both _ _ here.0 later.0, rw (here.1, later.1) refl)

each_fits : (job : JobSpec) (cells : List Cell) → FitsState job cells → EachFits job 0 cells
each_fits job cells fit k n body is at =
    let same : k ≡ n = omega (arith, is) in
    subst (λ (m : ℕ). Fits job (record { k = m; body = body })) same (fit.answers k body at)

pub state_layout_fits : (format : Format) (job : JobSpec) (cells : List Cell) → IsJob job → has_kinds format (shape_of job.plan) ≡ true → FitsState job cells → IsStateLayout (state_layout_of format job cells)
state_layout_fits format job cells is kinds fit =
    record {
      job = job_fits job is;
      shape = shape_fits format job is kinds;
      fragments = fit.fragments;
      cells = cells_fit job 0 cells is (each_fits job cells fit);
    }

held_again : (format : Format) (job : JobSpec) (cells : List Cell) → FitsState job cells → state_held_against job (state_layout_of format job cells) ≡ Ok cells
unfolding state_held_against
held_again format job cells fit =
    let each = cells_held_again job 0 cells (each_fits job cells fit) in
    rw (eq-eqb job.load job.load refl, (bytes_decides job.plan.text job.plan.text).1 refl, (bytes_decides job.cut job.cut).1 refl, shape_itself (shape_of job.plan), each.0, each.1) refl

pub file_again : (format : Format) (job : JobSpec) (cells : List Cell) → IsJob job → has_kinds format (shape_of job.plan) ≡ true → FitsState job cells → judged_state job (state_spelling format job cells) ≡ Ok cells
unfolding judged_state
file_again format job cells is kinds fit =
    let front = state_layout_bytes (state_layout_of format job cells) in
    let seal = seal_of front in
    let sealed = seal_left front in
    rw (layout_again (state_layout_of format job cells) seal (state_layout_fits format job cells is kinds fit), sealed, seal_again front, held_again format job cells fit) refl

pub spelled_state_reads : (job : JobSpec) (bytes : List ℕ) (cells : List Cell) → IsJob job → SpellsState job bytes cells → judged_state job bytes ≡ Ok cells
spelled_state_reads job bytes cells is spells = ap (judged_state job) spells.spelled ∙ file_again spells.format job cells is spells.kinds spells.fits

-- ---- what is written

-- what is written of cells that fit spells them
pub written_state_spells : (job : JobSpec) (bytes : List ℕ) (cells : List Cell) → FitsState job cells → bytes ≡ state_bytes job cells → SpellsState job bytes cells
written_state_spells job bytes cells fit written = record { format = newest; kinds = newest_has (shape_of job.plan); fits = fit; spelled = written }
