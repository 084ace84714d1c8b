-- How many records a journal needs.
use Rattle.std.specs.Prelude.{◌≡◌, ℕ, ◌+◌, ◌*◌, ◌<◌, ◌≤◌, ◌^◌, true, false, cond, List, [], ◌∷◌, length, slice_set}
use Rattle.std.proofs.Common.{refl, ap, ◌∙◌, arith}
use Rattle.std.proofs.lemmas.List.{set-get_or}
use Rattle.std.proofs.lemmas.List.FromFn.{length-map-range_with_len}
use Rattle.std.proofs.lemmas.List.Sums.{sum_by-cons, sum_by-set}
use Rattle.meaning.specs.Said.{Answer, Body, Cell}
use Rattle.meaning.specs.declared.answer.Cell.TheVariants.{Nothing, One, Conflict}
use Rattle.meaning.specs.Cut.{Cut, IsCut}
use Rattle.meaning.specs.Gather.{cell_of, said_of, join_cells, joined, same_body}
use Rattle.partial_codec.specs.Job.{JobSpec, IsJob}
use Rattle.gathering.specs.Gathering.{GatherSpec, IsGather, cell_at, cells_with}
use Rattle.journal.specs.Journal.{IsJournal, IsLean, max_records, records_for, records_needed}
use Rattle.journal.specs.Durable.{last_gate}
use Rattle.journal.specs.Fault.{IsNoFile}
use Rattle.journal.proofs.OneJournal.{journal_same}

-- ---- one answer more

more_for : (c : Cell) (body : Body) → (join_cells c (One body) ≡ c → ⊥) → records_for (join_cells c (One body)) ≡ records_for c + 1
more_for Nothing body changes = refl
more_for (One known) body changes =
    elim (same_body known body) as (λ t. (cond t (One known) Conflict ≡ One known → ⊥) → records_for (cond t (One known) Conflict) ≡ 2) [
      | true ↦ λ f. absurd (f refl)
      | false ↦ λ f. refl
    ] changes
more_for Conflict body changes = absurd (changes refl)

-- an answer that changes what is held needs one record more
pub needs_more : (cells : List Cell) (a : Answer) → a.k < length cells → (cells_with cells a ≡ cells → ⊥) → records_needed (cells_with cells a) ≡ records_needed cells + 1
needs_more cells a within changes =
    let own = cell_at cells a.k in
    let all = sum_by-set records_for cells a.k (join_cells own (One a.body)) Nothing within in
    omega (arith, all, more_for own a.body (λ same. changes (ap (slice_set cells a.k) same ∙ set-get_or cells a.k Nothing)))

-- ---- at most two a fragment

two_for : (c : Cell) → records_for c ≤ 2
two_for Nothing = omega arith
two_for (One body) = omega arith
two_for Conflict = omega arith

pub needs_few : (cells : List Cell) → records_needed cells ≤ 2 * length cells
needs_few [] = omega arith
needs_few (c ∷ cells) = omega (arith, sum_by-cons records_for c cells, two_for c, needs_few cells)

joined_long : (cut : Cut) (answers : List Answer) → length (joined cut answers) ≡ length cut
joined_long cut answers = length-map-range_with_len (λ k. cell_of (said_of k answers)) 0 (length cut)

pub lean_few : (job : JobSpec) (file : List ℕ) → IsJob job → IsLean job file → (answers : List Answer) → IsJournal job answers file → length answers ≤ 2 * length job.cut
lean_few job file is_job lean answers journal =
    omega (arith, lean.few, needs_few (joined job.cut lean.answers), joined_long job.cut lean.answers, ap length (journal_same job is_job answers lean.answers file journal lean.journal))

pub lean_opens : (job : JobSpec) (file : List ℕ) → IsJob job → IsLean job file → IsNoFile job file → ⊥
unfolding max_records
lean_opens job file is_job lean none = none lean.answers (omega (arith, lean_few job file is_job lean lean.answers lean.journal, is_job.cut.few)) lean.journal

-- the offset of a gate can be counted
pub last_near : (g : GatherSpec) → IsGather g → IsCut g.job.cut → last_gate g.cells < 2 ^ 62
unfolding max_records
last_near g is cut = omega (arith, needs_few g.cells, is.each, cut.few)
