-- The obstacle in the fields that were kept is that in those that were read.
use Rattle.std.proofs.Common.{◌≡◌, ℕ, Bool, true, false, ◌&&◌, eqb, List, length, Result, Ok, Err, refl, sym, ap, subst, ◌∙◌}
use Rattle.std.specs.Prelude.{not, if◌then◌else◌, nat_lt, slice_index}
use Rattle.meaning.specs.Cut.{first_row}
use Rattle.meaning.specs.Fitting.{is_shaped, is_in_order, are_numbers_possible}
use Rattle.meaning.specs.Said.{Body, Answer}
use Rattle.meaning.specs.declared.plan.Plan.{Plan}
use Rattle.meaning.specs.Wanting.{GivesIfMemory}
use Rattle.wire.specs.Reading.{Reads, bytes_at, same_bytes, sealed_end}
use Rattle.answer_fields.specs.declared.fault.DecodeFault.{DecodeFault}
use Rattle.answer_fields.specs.declared.fault.DecodeFault.TheVariants as fault
use Rattle.answer_layouts.specs.declared.layout.Layout.{Layout as Held}
use Rattle.partial_codec.specs.Answer.{held_against, judged}
use Rattle.answer_fields.specs.Fields.{WasRead, shape_in, words}
use Rattle.answer_layouts.specs.Layouts.{IsLayout}
use Rattle.partial_codec.specs.Holding.{layout_held_by}
use Rattle.partial_codec.specs.Job.{JobSpec}
use Rattle.answer_fields.specs.Keeping.{are_sums_possible, kept_body, is_typed}
use Rattle.answer_fields.specs.LayoutReading.{body_at, layout_at}
use Rattle.answer_fields.specs.Shape.{Shape, shape_of, is_same_shape}
use Rattle.partial_codec.specs.Spelling.{Layout}
use Rattle.partial_codec.proofs.Answers.{shape_same}
use Rattle.answer_fields.proofs.FieldLaws.{layout_read}
use Rattle.partial_codec.proofs.Judging.{IsReadBody, body_read, body_same, body_typed, body_in_order, body_numbers}

-- the body was read by the shape that the layout has
pub layout_was_read : (bytes : List ℕ) (p : Layout × List ℕ) → layout_at bytes ≡ Ok p → WasRead p.0.shape p.0.body
layout_was_read bytes p e =
    let read = layout_read bytes p e in
    (read.behind_shape, p.1, read.body)

-- a body that was read by a shape which is the plan's
pub read_by_plan : (plan : Plan) (shape : Shape) (body : Body) → WasRead shape body → is_same_shape shape (shape_of plan) ≡ true → IsReadBody plan body
read_by_plan plan shape body (bytes, rest, read) same =
    body_read plan bytes (body, rest) (subst (λ (s : Shape). body_at s bytes ≡ Ok (body, rest)) (shape_same shape (shape_of plan) same) read)

module _ (plan : Plan) (k first rows : ℕ) (body : Body) where
  -- behind the types
  abbrev of_read : Result Answer DecodeFault
  of_read = if not (is_in_order body) then Err fault.UnsortedGroups else if not (are_numbers_possible plan first rows body) then Err fault.Numbers else Ok (record { k = k; body = body })

  abbrev of_kept : Result Answer DecodeFault
  of_kept =
      if not (is_in_order (kept_body body)) then Err fault.UnsortedGroups
      else if not (are_sums_possible body) then Err fault.Numbers
      else if not (are_numbers_possible plan first rows (kept_body body)) then Err fault.Numbers
      else Ok (record { k = k; body = kept_body body })

  numbers_same : IsReadBody plan body → of_read ≡ of_kept
  numbers_same is = elim (are_sums_possible body) as (λ b. are_sums_possible body ≡ b → of_read ≡ of_kept) [ true ↦ λ e. rw (body_same body e, e) refl | false ↦ λ e. rw (body_in_order body, body_numbers plan first rows body is, e) refl ] refl

  behind_shape : IsReadBody plan body → (if not (is_shaped plan body) then Err fault.Shape else of_read) ≡ (if not (is_typed plan (kept_body body)) then Err fault.Shape else of_kept)
  behind_shape is = rw (is.typed, body_typed plan body, numbers_same is) refl

  pub body_returned : (shape : Shape) → WasRead shape body
      → (if not (is_same_shape shape (shape_of plan) && is_shaped plan body) then Err fault.Shape else of_read)
      ≡ (if not (is_same_shape shape (shape_of plan)) then Err fault.Shape else if not (is_typed plan (kept_body body)) then Err fault.Shape else of_kept)
  body_returned shape was =
      elim (is_same_shape shape (shape_of plan)) as (λ b. is_same_shape shape (shape_of plan) ≡ b →
      (if not (b && is_shaped plan body) then Err fault.Shape else of_read) ≡ (if not b then Err fault.Shape else if not (is_typed plan (kept_body body)) then Err fault.Shape else of_kept)) [
        | true ↦ λ e. behind_shape (read_by_plan plan shape body was e)
        | false ↦ λ e. refl
      ] refl

-- the steps, by the parts of the fields
abbrev by_parts : JobSpec → ℕ → List ℕ → List ℕ → ℕ → Shape → Body → Bool → Result Answer DecodeFault
by_parts job load text cut k shape body possible =
    if not (eqb load job.load) then Err fault.OtherLoad
    else if not (same_bytes text job.plan.text) then Err fault.OtherQuery
    else if not (same_bytes cut job.cut && nat_lt k (length job.cut)) then Err fault.OtherCut
    else if not (is_same_shape shape (shape_of job.plan)) then Err fault.Shape
    else if not (is_typed job.plan body) then Err fault.Shape
    else if not (is_in_order body) then Err fault.UnsortedGroups
    else if not possible then Err fault.Numbers
    else if not (are_numbers_possible job.plan (first_row job.cut k) (slice_index job.cut k) body) then Err fault.Numbers
    else Ok (record { k = k; body = body })

held_parts : (job : JobSpec) (l : Held) → by_parts job l.job.load l.job.text.now (words l.job.fragments l.job.cut.now) l.k (shape_in l.shape) l.body l.findings.are_sums_possible ≡ layout_held_by job l
unfolding layout_held_by
held_parts job l = refl

read_parts : (job : JobSpec) (read : Layout) → WasRead read.shape read.body → held_against job read ≡ by_parts job read.load read.text read.cut read.k read.shape (kept_body read.body) (are_sums_possible read.body)
unfolding held_against
read_parts job read was =
    ap (λ (x : Result Answer DecodeFault).
    if not (eqb read.load job.load) then Err fault.OtherLoad
    else if not (same_bytes read.text job.plan.text) then Err fault.OtherQuery
    else if not (same_bytes read.cut job.cut && nat_lt read.k (length job.cut)) then Err fault.OtherCut
    else x) (body_returned job.plan read.k (first_row job.cut read.k) (slice_index job.cut read.k) read.body read.shape was)

pub layout_returned : (job : JobSpec) (l : Held) (read : Layout) → IsLayout l read → WasRead read.shape read.body → held_against job read ≡ layout_held_by job l
layout_returned job l read is was =
    let parts : by_parts job l.job.load l.job.text.now (words l.job.fragments l.job.cut.now) l.k (shape_in l.shape) l.body l.findings.are_sums_possible
    ≡ by_parts job read.load read.text read.cut read.k read.shape (kept_body read.body) (are_sums_possible read.body) =
    λ i. by_parts job (is.job.load i) (is.job.text i) (is.job.cut i) (is.k i) (is.shape i) (is.body i) (is.possible i) in
    read_parts job read was ∙ sym parts ∙ held_parts job l

-- the obstacle in sealed bytes
pub judged_returned : (job : JobSpec) (bytes rest seal behind end : List ℕ) (l : Held) → (y : Layout × List ℕ) × (layout_at bytes ≡ Ok y) × (IsLayout l y.0 × (rest ≡ y.1)) → bytes_at 32 rest ≡ Ok (seal, behind) → sealed_end bytes seal behind ≡ Ok end
    → judged job bytes ≡ layout_held_by job l
unfolding judged
judged_returned job bytes rest seal behind end l (y, read, is) sealed ended =
    let here : bytes_at 32 y.1 ≡ Ok (seal, behind) = ap (bytes_at 32) (sym is.1) ∙ sealed in
    rw (read, here, ended) (layout_returned job l y.0 is.0 (layout_was_read bytes y read))

pub if_memory : {E X Y : Type 0} (memory : E) (view : X → Y) (r : Result X E) (read returned : Result Y E) → read ≡ returned → Reads view r returned → GivesIfMemory memory view r read
if_memory memory view (Ok x) read returned same reads = same ∙ reads
if_memory memory view (Err e) read returned same reads = λ not_memory. same ∙ reads
