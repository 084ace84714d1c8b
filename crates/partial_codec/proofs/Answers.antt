-- The two laws of answers: what is read is spelled so and fits, and what fits and is spelled is read.
use Rattle.std.proofs.Common.{◌≡◌, ℕ, ◌≤◌, true, ◌&&◌, eqb, List, [], ◌∷◌, ◌++◌, length, map, Option, Some, None, Result, Ok, refl, sym, ap, subst, ◌∙◌, arith}
use Rattle.std.specs.Prelude.{nat_lt, nat_le, sum, slice_index}
use Rattle.std.specs.List.{AllByRecursion, list_all}
use Rattle.std.specs.Bool.{Decides}
use Rattle.std.specs.Cmp.Lexicographic.{pointwise, pointwise_decides, bytes_decides}
use Rattle.std.proofs.lemmas.Bool.{eqb-true, eq-eqb, ltb-true, leb-true, and_parts}
use Rattle.std.proofs.lemmas.List.{length-map}
use Rattle.std.proofs.lemmas.List.Elements.{recursion_from_All}
use Rattle.meaning.specs.declared.value.ColType.{ColType}
use Rattle.meaning.specs.declared.value.ColType.TheVariants as of_type
use Rattle.meaning.specs.declared.plan.AggregateKind.{AggregateKind}
use Rattle.meaning.specs.declared.plan.AggregateKind.TheVariants.{CountRows, Count, Sum, Min, Max, Avg, CountDistinct, SumDistinct}
use Rattle.meaning.specs.declared.plan.Aggregate.{Aggregate}
use Rattle.meaning.specs.Said.{Body}
use Rattle.meaning.specs.declared.answer.Body.TheVariants.{Groups, Fault}
use Rattle.meaning.specs.Said.{Answer}
use Rattle.meaning.specs.Group.{certain_keys}
use Rattle.meaning.specs.Cut.{first_row}
use Rattle.meaning.specs.Fitting.{is_group_possible, are_rows_possible, is_shaped, is_in_order, are_numbers_possible, fits}
use Rattle.meaning.specs.Limits.{max_rows}
use Rattle.meaning.proofs.Tests.{both}
use Rattle.answer_fields.specs.declared.fault.DecodeFault.{DecodeFault}
use Rattle.answer_fields.specs.declared.fault.DecodeFault.TheVariants as refusal
use Rattle.answer_fields.specs.declared.format.Format.{Format}
use Rattle.answer_fields.specs.declared.shape.AggregateShape.{AggregateShape}
use Rattle.answer_fields.specs.Format.{newest, has_kind, has_kinds}
use Rattle.wire.specs.Reading.{◌>>=◌, bytes_at, same_bytes, sealed_end}
use Rattle.partial_codec.specs.Job.{JobSpec, IsJob}
use Rattle.meaning.specs.TypeCodes.{type_code}
use Rattle.answer_fields.specs.Shape.{Shape, shape_of, shape_of_aggregate, argument_of, argument_code, kind_code, is_same_type, is_same_aggregate, is_same_shape}
use Rattle.partial_codec.specs.Spelling.{Layout, layout_bytes, layout_of, answer_spelling, answer_bytes}
use Rattle.wire.specs.Bytes.{seal_of}
use Rattle.answer_fields.specs.LayoutReading.{type_of, kind_of, argument_from, layout_at}
use Rattle.partial_codec.specs.Answer.{Fits, Spells, held_against, judged}
use Rattle.wire.proofs.Numbers.{bind_ok, ok_is, IsBytes, bytes_take, test_not}
use Rattle.answer_fields.specs.Ranges.{IsBody}
use Rattle.answer_fields.proofs.FieldLaws.{type_again, kind_again, IsAggregate, IsShape, AreJobFields, IsLayout, layout_takes, layout_known, layout_again}
use Rattle.partial_codec.proofs.Fitting.{groups_fit, few_groups, short_at, few_rows_before, words, fault_fits}
use Rattle.answer_fields.proofs.Formats.{newest_has}
use Rattle.answer_fields.proofs.FromWire.{read_ok}
use Rattle.answer_fields.specs.Fault.{from_wire}
use Rattle.wire.proofs.Seals.{seal_takes, seal_left, seal_again}

-- ---- equal shapes

some_code : Option ColType → Result (Option ColType) DecodeFault
some_code None = Ok None
some_code (Some t) = type_of (type_code t) >>= λ u. Ok (Some u)

type_exact : (a b : ColType) → Decides (is_same_type a b) (a ≡ b)
type_exact a b = (
  λ e. ok_is a b (sym (type_again a) ∙ ap type_of (eqb-true (type_code a) (type_code b) e) ∙ type_again b),
  λ e. eq-eqb (type_code a) (type_code b) (ap type_code e),
)

argument_exact : (a b : Option ColType) → argument_code a ≡ argument_code b → a ≡ b
argument_exact None None e = refl
argument_exact None (Some of_type.Int) e = absurd (omega (arith, e))
argument_exact None (Some of_type.Text) e = absurd (omega (arith, e))
argument_exact (Some of_type.Int) None e = absurd (omega (arith, e))
argument_exact (Some of_type.Text) None e = absurd (omega (arith, e))
argument_exact (Some s) (Some t) e = ap Some (ok_is s t (sym (type_again s) ∙ ap type_of e ∙ type_again t))

same_aggregates : (a b : AggregateShape) → is_same_aggregate a b ≡ true → a ≡ b
same_aggregates a b e =
    let h = and_parts (eqb (kind_code a.kind) (kind_code b.kind)) (eqb (argument_code a.argument) (argument_code b.argument)) e in
    let kinds : a.kind ≡ b.kind = ok_is a.kind b.kind (sym (kind_again a.kind) ∙ ap kind_of (eqb-true _ _ h.0) ∙ kind_again b.kind) in
    let arguments = argument_exact a.argument b.argument (eqb-true _ _ h.1) in
    λ i. record { kind = kinds i; argument = arguments i }

aggregate_exact : (a b : AggregateShape) → Decides (is_same_aggregate a b) (a ≡ b)
aggregate_exact a b = (
  same_aggregates a b,
  λ e. both _ _ (eq-eqb _ _ (ap (λ (s : AggregateShape). kind_code s.kind) e)) (eq-eqb _ _ (ap (λ (s : AggregateShape). argument_code s.argument) e)),
)

pub shape_same : (a b : Shape) → is_same_shape a b ≡ true → a ≡ b
shape_same a b e =
    let h = and_parts (pointwise is_same_type a.keys b.keys) (pointwise is_same_aggregate a.aggregates b.aggregates) e in
    let keys = (pointwise_decides type_exact a.keys b.keys).0 h.0 in
    let aggregates = (pointwise_decides aggregate_exact a.aggregates b.aggregates).0 h.1 in
    λ i. record { keys = keys i; aggregates = aggregates i }

pub shape_itself : (a : Shape) → is_same_shape a a ≡ true
shape_itself a = both _ _ ((pointwise_decides type_exact a.keys a.keys).1 refl) ((pointwise_decides aggregate_exact a.aggregates a.aggregates).1 refl)

-- ---- what is read is spelled so and fits

-- the fields that were held against the job
record IsHeld (job : JobSpec) (l : Layout) (a : Answer) : Type 0 where
  layout : l ≡ layout_of l.format job a
  shape : l.shape ≡ shape_of job.plan
  fits : fits job.plan job.cut a ≡ true

held_takes : (job : JobSpec) (l : Layout) (a : Answer) → held_against job l ≡ Ok a → IsHeld job l a
unfolding held_against
held_takes job l a e =
    let load = test_not (eqb l.load job.load) refusal.OtherLoad _ a e in
    let text = test_not (same_bytes l.text job.plan.text) refusal.OtherQuery _ a load.1 in
    let cut = test_not (same_bytes l.cut job.cut && nat_lt l.k (length job.cut)) refusal.OtherCut _ a text.1 in
    let shape = test_not (is_same_shape l.shape (shape_of job.plan) && is_shaped job.plan l.body) refusal.Shape _ a cut.1 in
    let sorted = test_not (is_in_order l.body) refusal.UnsortedGroups _ a shape.1 in
    let numbers = test_not (are_numbers_possible job.plan (first_row job.cut l.k) (slice_index job.cut l.k) l.body) refusal.Numbers _ a sorted.1 in
    let cuts = and_parts (same_bytes l.cut job.cut) (nat_lt l.k (length job.cut)) cut.0 in
    let shapes = and_parts (is_same_shape l.shape (shape_of job.plan)) (is_shaped job.plan l.body) shape.0 in
    let loads : l.load ≡ job.load = eqb-true _ _ load.0 in
    let texts : l.text ≡ job.plan.text = (bytes_decides l.text job.plan.text).0 text.0 in
    let lengths : l.cut ≡ job.cut = (bytes_decides l.cut job.cut).0 cuts.0 in
    let same_shape : l.shape ≡ shape_of job.plan = shape_same l.shape (shape_of job.plan) shapes.0 in
    let made : Answer = record { k = l.k; body = l.body } in
    let same_layout : l ≡ layout_of l.format job made = λ i. record { format = l.format; load = loads i; text = texts i; cut = lengths i; k = l.k; shape = same_shape i; body = l.body } in
    let all : fits job.plan job.cut made ≡ true = both _ _ cuts.1 (both _ _ shapes.1 (both _ _ sorted.0 numbers.0)) in
    let held : IsHeld job l made = record { layout = same_layout; shape = same_shape; fits = all } in
    subst (λ (b : Answer). IsHeld job l b) (ok_is made a numbers.1) held

pub answer_takes : (job : JobSpec) (bytes : List ℕ) (a : Answer) → IsBytes bytes → judged job bytes ≡ Ok a → Spells job bytes a
unfolding judged
answer_takes job bytes a ok e =
    let one = bind_ok (layout_at bytes) (λ layout. from_wire (bytes_at 32 layout.1) >>= λ seal. from_wire (sealed_end bytes seal.0 seal.1) >>= λ end. held_against job layout.0) a e in
    let two = read_ok (bytes_at 32 one.0.1) (λ seal. from_wire (sealed_end bytes seal.0 seal.1) >>= λ end. held_against job one.0.0) a one.2 in
    let three = read_ok (sealed_end bytes two.0.0 two.0.1) (λ end. held_against job one.0.0) a two.2 in
    let layout = layout_takes bytes one.0 ok one.1 in
    let seal = bytes_take 32 one.0.1 two.0.0 two.0.1 layout.rest_fits two.1 in
    let front = layout_bytes one.0.0 in
    let parts : bytes ≡ front ++ (two.0.0 ++ two.0.1) = layout.parts ∙ ap (λ (t : List ℕ). front ++ t) seal.0.parts in
    let ended = subst (λ (bs : List ℕ). sealed_end bs two.0.0 two.0.1 ≡ Ok three.0) parts three.1 in
    let sealed = seal_takes front two.0.0 two.0.1 three.0 seal.1 ended in
    let held = held_takes job one.0.0 a three.2 in
    let format = one.0.0.format in
    let kinds : has_kinds format (shape_of job.plan) ≡ true = subst (λ (s : Shape). has_kinds format s ≡ true) held.shape (layout_known bytes one.0 one.1) in
    let whole : bytes ≡ answer_spelling format job a = parts ∙ sealed ∙ ap (λ (l : Layout). layout_bytes l ++ seal_of (layout_bytes l)) held.layout in
    record { format = format; kinds = kinds; fits = held.fits; spelled = whole }

-- ---- what fits and is spelled is read

argument_back : (k : AggregateKind) (t : ColType) → argument_from k (argument_code (argument_of k t)) ≡ Ok (argument_of k t)
argument_back CountRows t = refl
argument_back Count t = rw (type_again t) refl
argument_back Sum t = rw (type_again t) refl
argument_back Min t = rw (type_again t) refl
argument_back Max t = rw (type_again t) refl
argument_back Avg t = rw (type_again t) refl
argument_back CountDistinct t = rw (type_again t) refl
argument_back SumDistinct t = rw (type_again t) refl

aggregates_fit : (format : Format) (aggs : List Aggregate) → list_all (λ (s : AggregateShape). has_kind format s.kind) (map shape_of_aggregate aggs) ≡ true
    → AllByRecursion (IsAggregate format) (map shape_of_aggregate aggs)
aggregates_fit format [] kinds = tt
aggregates_fit format (a ∷ aggs) kinds =
    let h = and_parts (has_kind format a.kind) (list_all (λ (s : AggregateShape). has_kind format s.kind) (map shape_of_aggregate aggs)) kinds in
    (record { known = h.0; argument = argument_back a.kind a.col_type }, aggregates_fit format aggs h.1)

pub body_fits : (job : JobSpec) (a : Answer) → IsJob job → fits job.plan job.cut a ≡ true → IsBody (shape_of job.plan) a.body
body_fits job a is fit =
    let shaped = and_parts (is_shaped job.plan a.body) _ (and_parts (nat_lt a.k (length job.cut)) _ fit).1 in
    of_body a.body shaped.0 (and_parts (is_in_order a.body) _ shaped.1).1
  where
    short : AllByRecursion (λ n. n ≤ max_rows) job.cut
    short = recursion_from_All (λ n. n ≤ max_rows) job.cut is.cut.short

    of_body : (body : Body) → is_shaped job.plan body ≡ true → are_numbers_possible job.plan (first_row job.cut a.k) (slice_index job.cut a.k) body ≡ true → IsBody (shape_of job.plan) body
    of_body (Fault f) shaped possible =
        let rows = short_at job.cut a.k short in
        let first = few_rows_before job.cut a.k short in
        let few = is.cut.few in
        fault_fits (first_row job.cut a.k) (slice_index job.cut a.k) f (omega (arith, rows, first, few)) possible
    of_body (Groups gs) shaped possible =
        let h = and_parts (nat_le (sum (map (λ g. g.rows) gs)) (slice_index job.cut a.k)) (are_rows_possible (certain_keys job.plan.plain job.plan.keys) gs && list_all (is_group_possible job.plan) gs) possible in
        let k = and_parts (are_rows_possible (certain_keys job.plan.plain job.plan.keys) gs) (list_all (is_group_possible job.plan) gs) h.1 in
        let within = leb-true _ _ h.0 in
        let rows = short_at job.cut a.k short in
        let all : sum (map (λ g. g.rows) gs) ≤ max_rows = omega (arith, within, rows) in
        let count = few_groups (certain_keys job.plan.plain job.plan.keys) gs all k.0 in
        (omega (arith, count), groups_fit job.plan gs all shaped k.1)

-- the fields that describe a job have a spelling
pub job_fits : (job : JobSpec) → IsJob job → AreJobFields (record { load = job.load; text = job.plan.text; cut = job.cut })
job_fits job is =
    let few = is.cut.few in
    let text = is.plan.text in
    record {
      load = is.load;
      text = record { is_text = is.is_text; short = omega (arith, text) };
      fragments = omega (arith, few);
      each = words job.cut (recursion_from_All (λ n. n ≤ max_rows) job.cut is.cut.short);
    }

-- a plan's shape has a spelling
pub shape_fits : (format : Format) (job : JobSpec) → IsJob job → has_kinds format (shape_of job.plan) ≡ true → IsShape format (shape_of job.plan)
shape_fits format job is kinds =
    let keys = is.plan.keys in
    let aggregates = is.plan.aggregates in
    record {
      keys = omega (arith, keys, length-map job.plan.keys (λ k. k.col_type));
      aggregates = omega (arith, aggregates, length-map job.plan.aggs shape_of_aggregate);
      each = aggregates_fit format job.plan.aggs kinds;
    }

pub layout_fits : (format : Format) (job : JobSpec) (a : Answer) → IsJob job → has_kinds format (shape_of job.plan) ≡ true → Fits job a → IsLayout (layout_of format job a)
layout_fits format job a is kinds fit =
    let k = ltb-true a.k (length job.cut) (and_parts (nat_lt a.k (length job.cut)) _ fit).0 in
    let few = is.cut.few in
    record {
      job = job_fits job is;
      k = omega (arith, k, few);
      shape = shape_fits format job is kinds;
      body = body_fits job a is fit;
    }

held_again : (format : Format) (job : JobSpec) (a : Answer) → fits job.plan job.cut a ≡ true → held_against job (layout_of format job a) ≡ Ok a
unfolding held_against
held_again format job a fit =
    let k = and_parts (nat_lt a.k (length job.cut)) _ fit in
    let shaped = and_parts (is_shaped job.plan a.body) _ k.1 in
    let sorted = and_parts (is_in_order a.body) _ shaped.1 in
    rw (eq-eqb job.load job.load refl, (bytes_decides job.plan.text job.plan.text).1 refl, (bytes_decides job.cut job.cut).1 refl, k.0, shape_itself (shape_of job.plan), shaped.0, sorted.0, sorted.1) refl

pub answer_again : (format : Format) (job : JobSpec) (a : Answer) → IsJob job → has_kinds format (shape_of job.plan) ≡ true → Fits job a → judged job (answer_spelling format job a) ≡ Ok a
unfolding judged
answer_again format job a is kinds fit =
    let front = layout_bytes (layout_of format job a) in
    let seal = seal_of front in
    let sealed = seal_left front in
    rw (layout_again (layout_of format job a) seal (layout_fits format job a is kinds fit), sealed, seal_again front, held_again format job a fit) refl

pub spelled_reads : (job : JobSpec) (bytes : List ℕ) (a : Answer) → IsJob job → Spells job bytes a → judged job bytes ≡ Ok a
spelled_reads job bytes a is spells = ap (judged job) spells.spelled ∙ answer_again spells.format job a is spells.kinds spells.fits

-- ---- what is written

-- what is written of an answer that fits spells it
pub written_spells : (job : JobSpec) (bytes : List ℕ) (a : Answer) → Fits job a → bytes ≡ answer_bytes job a → Spells job bytes a
written_spells job bytes a fit written = record { format = newest; kinds = newest_has (shape_of job.plan); fits = fit; spelled = written }
