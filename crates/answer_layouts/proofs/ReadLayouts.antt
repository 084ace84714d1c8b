-- The fields of an answer and of a state, by what was read of them.
use Rattle.std.proofs.Common.{◌≡◌, ℕ, List, length, map, Ok, refl, sym, ap, ◌∙◌}
use Rattle.meaning.specs.Said.{Body, Cell}
use Rattle.wire.specs.Reading.{number_at, repeat_at}
use Rattle.answer_fields.specs.declared.fields.JobFields.{JobFields}
use Rattle.answer_fields.specs.declared.format.Content.TheVariants as content
use Rattle.answer_fields.specs.declared.format.Format.{Format}
use Rattle.answer_fields.specs.Format.{format_at}
use Rattle.answer_fields.specs.Fault.{from_wire}
use Rattle.answer_fields.specs.Fields.{AreJobFields, shape_in}
use Rattle.answer_fields.specs.Keeping.{IsKept, kept_body, are_sums_possible, kept_cell, is_cell_possible}
use Rattle.answer_fields.specs.LayoutReading.{shape_at, body_at, job_at, laid_out, layout_at}
use Rattle.answer_fields.specs.LayoutReading as reading
use Rattle.answer_fields.specs.Spelling.{Layout}
use Rattle.answer_fields.specs.StateSpelling.{StateLayout, cell_at, state_laid_out, state_layout_at}
use Rattle.answer_layouts.specs.declared.layout.Layout.{Layout as Held}
use Rattle.answer_layouts.specs.declared.state_layout.StateLayout.{StateLayout as HeldState}
use Rattle.answer_layouts.specs.Layouts.{IsLayout, IsStateLayout, sums_in}

-- a job's fields, of which the bytes are known
abbrev pub IsJobRead : List ℕ → JobFields → List ℕ → Type 0
IsJobRead bytes job rest = (y : reading.JobFields × List ℕ) × (job_at bytes ≡ Ok y) × (AreJobFields job y.0 × (rest ≡ y.1))

pub layout_kept : (bytes behind_format behind_job behind_k behind_shape rest : List ℕ) (format : Format) (l : Held) → format_at content.Answer bytes ≡ Ok (format, behind_format) → IsJobRead behind_format l.job behind_job
    → from_wire (number_at 4 behind_job) ≡ Ok (l.k, behind_k) → shape_at format behind_k ≡ Ok (shape_in l.shape, behind_shape)
    → (y : Body × List ℕ) × (body_at (shape_in l.shape) behind_shape ≡ Ok y) × IsKept kept_body are_sums_possible l.body l.findings.are_sums_possible rest y
    → (y : Layout × List ℕ) × (layout_at bytes ≡ Ok y) × (IsLayout l y.0 × (rest ≡ y.1))
unfolding layout_at
layout_kept bytes behind_format behind_job behind_k behind_shape rest format l first (j, job, is) k shape (b, body, kept) =
    let k_read : from_wire (number_at 4 j.1) ≡ Ok (l.k, behind_k) = ap (λ (bs : List ℕ). from_wire (number_at 4 bs)) (sym is.1) ∙ k in (
      (laid_out format j.0 l.k (shape_in l.shape) b.0, b.1),
      rw (first, job, k_read, shape, body) refl,
      (record { job = is.0; k = refl; shape = refl; body = kept.part; possible = kept.sums }, kept.behind),
    )

pub state_kept : (bytes behind_format behind_job behind_shape rest : List ℕ) (format : Format) (l : HeldState) → format_at content.State bytes ≡ Ok (format, behind_format) → IsJobRead behind_format l.job behind_job
    → shape_at format behind_job ≡ Ok (shape_in l.shape, behind_shape)
    → (y : List Cell × List ℕ) × (repeat_at (cell_at (shape_in l.shape)) l.job.fragments behind_shape ≡ Ok y) × ((l.cells.items ≡ map kept_cell y.0) × (sums_in l.findings.items ≡ map is_cell_possible y.0) × (rest ≡ y.1))
    → (y : StateLayout × List ℕ) × (state_layout_at bytes ≡ Ok y) × (IsStateLayout l y.0 × (rest ≡ y.1))
unfolding state_layout_at
state_kept bytes behind_format behind_job behind_shape rest format l first (j, job, is) shape (cs, cells, kept) =
    let shape_read : shape_at format j.1 ≡ Ok (shape_in l.shape, behind_shape) = ap (shape_at format) (sym is.1) ∙ shape in
    let cells_read : repeat_at (cell_at (shape_in l.shape)) (length j.0.cut) behind_shape ≡ Ok cs = ap (λ (n : ℕ). repeat_at (cell_at (shape_in l.shape)) n behind_shape) (sym is.0.count) ∙ cells in (
      (state_laid_out format j.0 (shape_in l.shape) cs.0, cs.1),
      rw (first, job, shape_read, cells_read) refl,
      (record { job = is.0; shape = refl; cells = kept.0; possible = kept.1 }, kept.2),
    )
