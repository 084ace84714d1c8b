-- An answer that was shown to its end is spelled so.
use Rattle.std.proofs.Common.{◌≡◌, ℕ, List, ◌++◌, Err, Ok, refl, sym, ap, subst, ◌∙◌}
use Rattle.meaning.specs.Said.{Body}
use Rattle.wire.specs.Bytes.{sealed}
use Rattle.wire.specs.Reading.{◌>>=◌, Read, bytes_at, number_at, sealed_end}
use Rattle.wire.proofs.Numbers.{IsBytes, bind_ok, bytes_take, ok_is}
use Rattle.wire.proofs.Seals.{seal_takes}
use Rattle.answer_fields.proofs.FieldLaws.{layout_takes}
use Rattle.answer_fields.proofs.FromWire.{read_ok}
use Rattle.answer_fields.specs.Fault.{from_wire}
use Rattle.answer_fields.specs.Format.{format_at}
use Rattle.answer_fields.specs.LayoutReading.{JobFields, body_at, job_at, laid_out, layout_at, shape_at}
use Rattle.answer_fields.specs.Shape.{Shape}
use Rattle.answer_fields.specs.Spelling.{Layout, layout_bytes}
use Rattle.answer_fields.specs.declared.fault.DecodeFault.{DecodeFault}
use Rattle.answer_fields.specs.declared.format.Content.TheVariants as content
use Rattle.answer_fields.specs.declared.format.Format.{Format}
use Rattle.answer_text.specs.Reading.{answer_at, from_fragment_at, seal_at, sealed_body_at, shaped_at}

-- what a part is made of
pub mapped : {A B : Type 0} (read : Read DecodeFault A) (make : A → B) (p : B × List ℕ) → (read >>= λ x. Ok (make x.0, x.1)) ≡ Ok p → (a : A) × (read ≡ Ok (a, p.1)) × (make a ≡ p.0)
mapped {A} {B} (Ok x) make p e =
    let same = ok_is (make x.0, x.1) p e in
    (x.0, ap (λ (t : List ℕ). Ok (x.0, t)) (ap (λ (q : B × List ℕ). q.1) same), ap (λ (q : B × List ℕ). q.0) same)
mapped (Err e) make p is = absurd cc

sealed_read : (shape : Shape) (whole bytes : List ℕ) (p : Body × List ℕ) → sealed_body_at shape whole bytes ≡ Ok p → (body : Body × List ℕ) × (body_at shape bytes ≡ Ok body) × (seal_at whole body.1 ≡ Ok (tt, p.1)) × (body.0 ≡ p.0)
sealed_read shape whole bytes p e =
    let (body, read, more) = bind_ok (body_at shape bytes) (λ body. seal_at whole body.1 >>= λ seal. Ok (body.0, seal.1)) p e in
    let (seal, there, same) = mapped (seal_at whole body.1) (λ u. body.0) p more in
    (body, read, there, same)

shaped_read : (format : Format) (whole bytes : List ℕ) (p : (Shape × Body) × List ℕ) → shaped_at format whole bytes ≡ Ok p
    → (shape : Shape × List ℕ) × (body : Body) × (shape_at format bytes ≡ Ok shape) × (sealed_body_at shape.0 whole shape.1 ≡ Ok (body, p.1)) × ((shape.0, body) ≡ p.0)
shaped_read format whole bytes p e =
    let (shape, read, more) = bind_ok (shape_at format bytes) (λ shape. sealed_body_at shape.0 whole shape.1 >>= λ body. Ok ((shape.0, body.0), body.1)) p e in
    let (body, there, same) = mapped (sealed_body_at shape.0 whole shape.1) (λ b. (shape.0, b)) p more in
    (shape, body, read, there, same)

fragment_read : (format : Format) (whole bytes : List ℕ) (p : (ℕ × (Shape × Body)) × List ℕ) → from_fragment_at format whole bytes ≡ Ok p
    → (k : ℕ × List ℕ) × (shaped : Shape × Body) × (number_at 4 bytes ≡ Ok k) × (shaped_at format whole k.1 ≡ Ok (shaped, p.1)) × ((k.0, shaped) ≡ p.0)
fragment_read format whole bytes p e =
    let (k, read, more) = read_ok (number_at 4 bytes) (λ k. shaped_at format whole k.1 >>= λ shaped. Ok ((k.0, shaped.0), shaped.1)) p e in
    let (shaped, there, same) = mapped (shaped_at format whole k.1) (λ s. (k.0, s)) p more in
    (k, shaped, read, there, same)

abbrev with_job : Format → JobFields → ℕ × (Shape × Body) → Layout
with_job format job b = laid_out format job b.0 b.1.0 b.1.1

answer_read : (format : Format) (whole bytes : List ℕ) (p : Layout × List ℕ) → answer_at format whole bytes ≡ Ok p
    → (job : JobFields × List ℕ) × (behind : ℕ × (Shape × Body)) × (job_at bytes ≡ Ok job) × (from_fragment_at format whole job.1 ≡ Ok (behind, p.1)) × (with_job format job.0 behind ≡ p.0)
answer_read format whole bytes p e =
    let (job, read, more) = bind_ok (job_at bytes) (λ job. from_fragment_at format whole job.1 >>= λ b. Ok (with_job format job.0 b.0, b.1)) p e in
    let (behind, there, same) = mapped (from_fragment_at format whole job.1) (with_job format job.0) p more in
    (job, behind, read, there, same)

read_again : (bytes : List ℕ) (format : Format) (behind : List ℕ) (job : JobFields × List ℕ) (k : ℕ × List ℕ) (shape : Shape × List ℕ) (body : Body × List ℕ) → format_at content.Answer bytes ≡ Ok (format, behind) → job_at behind ≡ Ok job
    → number_at 4 job.1 ≡ Ok k → shape_at format k.1 ≡ Ok shape → body_at shape.0 shape.1 ≡ Ok body → layout_at bytes ≡ Ok (laid_out format job.0 k.0 shape.0 body.0, body.1)
unfolding layout_at
read_again bytes format behind job k shape body one two three four five = rw (one, two, three, four, five) refl

-- the fields are those of a layout, which the seal ends
sealed_layout : (bytes : List ℕ) (l : Layout) (behind rest : List ℕ) → IsBytes bytes → layout_at bytes ≡ Ok (l, behind) → seal_at bytes behind ≡ Ok (tt, rest) → bytes ≡ sealed (layout_bytes l)
sealed_layout bytes l behind rest ok read e =
    let (seal, taken, more) = read_ok (bytes_at 32 behind) (λ seal. from_wire (sealed_end bytes seal.0 seal.1) >>= λ end. Ok (tt, seal.1)) (tt, rest) e in
    let (end, ends, done) = read_ok (sealed_end bytes seal.0 seal.1) (λ end. Ok (tt, seal.1)) (tt, rest) more in
    let layout = layout_takes bytes (l, behind) ok read in
    let part = bytes_take 32 behind seal.0 seal.1 layout.rest_fits taken in
    let front = layout_bytes l in
    let all : bytes ≡ front ++ (seal.0 ++ seal.1) = layout.parts ∙ ap (λ (x : List ℕ). front ++ x) part.0.parts in
    let ended = subst (λ (bs : List ℕ). sealed_end bs seal.0 seal.1 ≡ Ok end) all ends in
    all ∙ seal_takes front seal.0 seal.1 end part.1 ended

pub answer_spelled : (bytes : List ℕ) (format : Format) (behind : List ℕ) (l : Layout) (rest : List ℕ) → IsBytes bytes → format_at content.Answer bytes ≡ Ok (format, behind)
    → answer_at format bytes behind ≡ Ok (l, rest) → (l.format ≡ format) × (bytes ≡ sealed (layout_bytes l))
answer_spelled bytes format behind l rest ok begins e =
    let (job, parts, job_read, from_fragment, made) = answer_read format bytes behind (l, rest) e in
    let (k, shaped, k_read, from_shape, of_parts) = fragment_read format bytes job.1 (parts, rest) from_fragment in
    let (shape, body, shape_read, from_body, of_shaped) = shaped_read format bytes k.1 (shaped, rest) from_shape in
    let (given, body_read, seal_read, of_body) = sealed_read shape.0 bytes shape.1 (body, rest) from_body in
    let whole : (k.0, (shape.0, given.0)) ≡ parts = ap (λ (q : Shape × Body). (k.0, q)) (ap (λ (b : Body). (shape.0, b)) of_body ∙ of_shaped) ∙ of_parts in
    let same : laid_out format job.0 k.0 shape.0 given.0 ≡ l = ap (with_job format job.0) whole ∙ made in
    let spelled = sealed_layout bytes (laid_out format job.0 k.0 shape.0 given.0) given.1 rest ok (read_again bytes format behind job k shape given begins job_read k_read shape_read body_read) seal_read in
    (ap (λ (x : Layout). x.format) (sym same), spelled ∙ ap (λ (x : Layout). sealed (layout_bytes x)) same)
