-- What a coordinator holds may be spelled as a state, and what a state spells may be held.
use Rattle.std.specs.Prelude.{◌≡◌, ◌≢◌, ℕ, zero, suc, ◌<◌, true, List, [], ◌∷◌, length, get_or, Result, Ok, Err}
use Rattle.std.proofs.Common.{refl, sym, ap, ◌∙◌, subst, arith}
use Rattle.meaning.specs.Said.{Body}
use Rattle.meaning.specs.Said.{Cell}
use Rattle.meaning.specs.declared.answer.Cell.TheVariants.{Nothing, One, Conflict}
use Rattle.partial_codec.specs.Answer.{Fits}
use Rattle.partial_codec.specs.Job.{JobSpec}
use Rattle.partial_codec.specs.State.{FitsState}
use Rattle.gathering.specs.Fitted.{AreFitting, is_fitting}
use Rattle.gathering.specs.Gathering.{GatherSpec, IsGather, fault_of, join_states}
use Rattle.gathering.proofs.Fitting.{AreFitting-at}
use Rattle.gathering.proofs.Joined.{AreFitting-from, AreFitting-join}
use Rattle.gathering.specs.declared.fault.GatherFault.TheVariants.{Memory}
use Rattle.answer_fields.specs.declared.fault.DecodeFault.{DecodeFault}
use Rattle.answer_fields.specs.declared.fault.DecodeFault.TheVariants as decode

-- an answer stands in a cell alone
within : (cells : List Cell) (k : ℕ) (body : Body) → get_or cells k Nothing ≡ One body → k < length cells
within [] k body e = cc
within (c ∷ cells) zero body e = omega arith
within (c ∷ cells) (suc k) body e = let below = within cells k body e in omega (arith, below)

-- what is held may be spelled
pub fits_state : (g : GatherSpec) → IsGather g → FitsState g.job g.cells
fits_state g ok = record {
  fragments = ok.each;
  answers = λ k body e. subst (λ c. is_fitting g.job.plan g.job.cut k c ≡ true) e (AreFitting-at g.job.plan g.job.cut g.cells k Nothing (within g.cells k body e) ok.fitting);
}

cell_fits : (job : JobSpec) (k : ℕ) (c : Cell) → ((body : Body) → c ≡ One body → Fits job (record { k = k; body = body })) → is_fitting job.plan job.cut k c ≡ true
cell_fits job k Nothing fits = refl
cell_fits job k (One body) fits = fits body refl
cell_fits job k Conflict fits = refl

-- what is spelled may be held
pub held_state : (job : JobSpec) (cells : List Cell) → FitsState job cells → AreFitting job.plan job.cut cells
held_state job cells fits = AreFitting-from job.plan job.cut cells (λ k below. cell_fits job k (get_or cells k Nothing) (fits.answers k))

-- two that hold answers for one job, as one
pub joined_fits : (g other : GatherSpec) → IsGather g → IsGather other → g.job ≡ other.job → AreFitting g.job.plan g.job.cut (join_states g.cells other.cells)
joined_fits g other ok right same =
    let right_fits = subst (λ job. IsGather (record { job = job; cells = other.cells; merges = other.merges })) (sym same) right in
    AreFitting-join g.job.plan g.job.cut g.cells other.cells ok.fitting right_fits.fitting

pub same_lengths : (g other : GatherSpec) → IsGather g → IsGather other → g.job ≡ other.job → length g.cells ≡ length other.cells
same_lengths g other ok right same = ok.each ∙ ap (λ (job : JobSpec). length job.cut) same ∙ sym right.each

-- where something is spelled, only want of memory stops a reader
ok_apart : {A : Type 0} (x : A) (e : DecodeFault) → ◌≡◌ {A = Result A DecodeFault} (Ok x) (Err e) → ⊥
ok_apart x e same = cc

pub stopped_by_memory : {A : Type 0} (x : A) (e : DecodeFault) → (e ≢ decode.Memory → ◌≡◌ {A = Result A DecodeFault} (Ok x) (Err e)) → fault_of e ≡ Memory
stopped_by_memory x decode.Memory f = refl
stopped_by_memory x decode.Magic f = absurd (ok_apart x decode.Magic (f (λ bad. cc)))
stopped_by_memory x decode.Truncated f = absurd (ok_apart x decode.Truncated (f (λ bad. cc)))
stopped_by_memory x decode.TrailingBytes f = absurd (ok_apart x decode.TrailingBytes (f (λ bad. cc)))
stopped_by_memory x decode.Seal f = absurd (ok_apart x decode.Seal (f (λ bad. cc)))
stopped_by_memory x decode.OtherLoad f = absurd (ok_apart x decode.OtherLoad (f (λ bad. cc)))
stopped_by_memory x decode.OtherQuery f = absurd (ok_apart x decode.OtherQuery (f (λ bad. cc)))
stopped_by_memory x decode.OtherCut f = absurd (ok_apart x decode.OtherCut (f (λ bad. cc)))
stopped_by_memory x decode.UnsortedGroups f = absurd (ok_apart x decode.UnsortedGroups (f (λ bad. cc)))
stopped_by_memory x decode.Shape f = absurd (ok_apart x decode.Shape (f (λ bad. cc)))
stopped_by_memory x decode.Numbers f = absurd (ok_apart x decode.Numbers (f (λ bad. cc)))
