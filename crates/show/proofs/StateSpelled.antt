-- A state that was shown to its end is spelled so.
use Rattle.std.proofs.Common.{◌≡◌, ℕ, List, ◌++◌, Ok, length, refl, sym, ap, subst, ◌∙◌}
use Rattle.meaning.specs.Said.{Cell}
use Rattle.wire.specs.Bytes.{sealed}
use Rattle.wire.specs.Reading.{◌>>=◌, bytes_at, repeat_at, sealed_end}
use Rattle.wire.proofs.Numbers.{IsBytes, bind_ok, bytes_take}
use Rattle.wire.proofs.Seals.{seal_takes}
use Rattle.answer_fields.proofs.FromWire.{read_ok}
use Rattle.answer_fields.specs.Fault.{from_wire}
use Rattle.answer_fields.specs.Format.{format_at}
use Rattle.answer_fields.specs.LayoutReading.{JobFields, job_at, shape_at}
use Rattle.answer_fields.specs.Shape.{Shape}
use Rattle.answer_fields.specs.StateSpelling.{StateLayout, cell_at, state_laid_out, state_layout_at, state_layout_bytes}
use Rattle.answer_fields.specs.declared.format.Content.TheVariants as content
use Rattle.answer_fields.specs.declared.format.Format.{Format}
use Rattle.answer_text.proofs.Spelled.{mapped}
use Rattle.answer_text.specs.Reading.{seal_at, sealed_cells_at, shaped_cells_at, state_at}
use Rattle.partial_codec.proofs.States.{layout_takes}

cells_read : (shape : Shape) (count : ℕ) (whole bytes : List ℕ) (p : List Cell × List ℕ) → sealed_cells_at shape count whole bytes ≡ Ok p
    → (cells : List Cell × List ℕ) × (repeat_at (cell_at shape) count bytes ≡ Ok cells) × (seal_at whole cells.1 ≡ Ok (tt, p.1)) × (cells.0 ≡ p.0)
cells_read shape count whole bytes p e =
    let (cells, read, more) = bind_ok (repeat_at (cell_at shape) count bytes) (λ cells. seal_at whole cells.1 >>= λ seal. Ok (cells.0, seal.1)) p e in
    let (seal, there, same) = mapped (seal_at whole cells.1) (λ u. cells.0) p more in
    (cells, read, there, same)

shaped_read : (format : Format) (count : ℕ) (whole bytes : List ℕ) (p : (Shape × List Cell) × List ℕ) → shaped_cells_at format count whole bytes ≡ Ok p
    → (shape : Shape × List ℕ) × (cells : List Cell) × (shape_at format bytes ≡ Ok shape) × (sealed_cells_at shape.0 count whole shape.1 ≡ Ok (cells, p.1)) × ((shape.0, cells) ≡ p.0)
shaped_read format count whole bytes p e =
    let (shape, read, more) = bind_ok (shape_at format bytes) (λ shape. sealed_cells_at shape.0 count whole shape.1 >>= λ cells. Ok ((shape.0, cells.0), cells.1)) p e in
    let (cells, there, same) = mapped (sealed_cells_at shape.0 count whole shape.1) (λ cs. (shape.0, cs)) p more in
    (shape, cells, read, there, same)

abbrev with_job : Format → JobFields → Shape × List Cell → StateLayout
with_job format job b = state_laid_out format job b.0 b.1

state_read : (format : Format) (whole bytes : List ℕ) (p : StateLayout × List ℕ) → state_at format whole bytes ≡ Ok p
    → (job : JobFields × List ℕ) × (behind : Shape × List Cell) × (job_at bytes ≡ Ok job) × (shaped_cells_at format (length job.0.cut) whole job.1 ≡ Ok (behind, p.1)) × (with_job format job.0 behind ≡ p.0)
state_read format whole bytes p e =
    let (job, read, more) = bind_ok (job_at bytes) (λ job. shaped_cells_at format (length job.0.cut) whole job.1 >>= λ b. Ok (with_job format job.0 b.0, b.1)) p e in
    let (behind, there, same) = mapped (shaped_cells_at format (length job.0.cut) whole job.1) (with_job format job.0) p more in
    (job, behind, read, there, same)

read_again : (bytes : List ℕ) (format : Format) (behind : List ℕ) (job : JobFields × List ℕ) (shape : Shape × List ℕ) (cells : List Cell × List ℕ) → format_at content.State bytes ≡ Ok (format, behind) → job_at behind ≡ Ok job
    → shape_at format job.1 ≡ Ok shape → repeat_at (cell_at shape.0) (length job.0.cut) shape.1 ≡ Ok cells → state_layout_at bytes ≡ Ok (state_laid_out format job.0 shape.0 cells.0, cells.1)
unfolding state_layout_at
read_again bytes format behind job shape cells one two three four = rw (one, two, three, four) refl

-- the fields are those of a layout, which the seal ends
sealed_layout : (bytes : List ℕ) (l : StateLayout) (behind rest : List ℕ) → IsBytes bytes → state_layout_at bytes ≡ Ok (l, behind) → seal_at bytes behind ≡ Ok (tt, rest) → bytes ≡ sealed (state_layout_bytes l)
sealed_layout bytes l behind rest ok read e =
    let (seal, taken, more) = read_ok (bytes_at 32 behind) (λ seal. from_wire (sealed_end bytes seal.0 seal.1) >>= λ end. Ok (tt, seal.1)) (tt, rest) e in
    let (end, ends, done) = read_ok (sealed_end bytes seal.0 seal.1) (λ end. Ok (tt, seal.1)) (tt, rest) more in
    let layout = layout_takes bytes (l, behind) ok read in
    let part = bytes_take 32 behind seal.0 seal.1 layout.rest_fits taken in
    let front = state_layout_bytes l in
    let all : bytes ≡ front ++ (seal.0 ++ seal.1) = layout.parts ∙ ap (λ (x : List ℕ). front ++ x) part.0.parts in
    let ended = subst (λ (bs : List ℕ). sealed_end bs seal.0 seal.1 ≡ Ok end) all ends in
    all ∙ seal_takes front seal.0 seal.1 end part.1 ended

pub state_spelled : (bytes : List ℕ) (format : Format) (behind : List ℕ) (l : StateLayout) (rest : List ℕ) → IsBytes bytes → format_at content.State bytes ≡ Ok (format, behind)
    → state_at format bytes behind ≡ Ok (l, rest) → (l.format ≡ format) × (bytes ≡ sealed (state_layout_bytes l))
state_spelled bytes format behind l rest ok begins e =
    let (job, parts, job_read, from_shape, made) = state_read format bytes behind (l, rest) e in
    let (shape, held, shape_read, from_cells, of_shaped) = shaped_read format (length job.0.cut) bytes job.1 (parts, rest) from_shape in
    let (given, cells_are, seal_read, of_cells) = cells_read shape.0 (length job.0.cut) bytes shape.1 (held, rest) from_cells in
    let whole : (shape.0, given.0) ≡ parts = ap (λ (cs : List Cell). (shape.0, cs)) of_cells ∙ of_shaped in
    let same : state_laid_out format job.0 shape.0 given.0 ≡ l = ap (with_job format job.0) whole ∙ made in
    let spelled = sealed_layout bytes (state_laid_out format job.0 shape.0 given.0) given.1 rest ok (read_again bytes format behind job shape given begins job_read shape_read cells_are) seal_read in
    (ap (λ (x : StateLayout). x.format) (sym same), spelled ∙ ap (λ (x : StateLayout). sealed (state_layout_bytes x)) same)
