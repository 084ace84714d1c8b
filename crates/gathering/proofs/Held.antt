-- What a coordinator holds fits its job, before and after an answer.
use Rattle.std.specs.Prelude.{◌≡◌, ℕ, zero, suc, ◌+◌, ◌<◌, Bool, true, false, not, cond, List, [], ◌∷◌, ◌++◌, map, length, replicate, slice_set, slice_index_or}
use Rattle.std.specs.List.{range_with_len}
use Rattle.std.proofs.Common.{refl, sym, ap, ◌∙◌, subst, arith}
use Rattle.std.proofs.lemmas.List.{length-replicate, length-set, set-get_or, get_or-set_same}
use Rattle.std.proofs.lemmas.Bool.{ltb-true, false≢true}
use Rattle.std.proofs.lemmas.Option.{slice_get-get_or, same_Some}
use Rattle.meaning.specs.declared.plan.Plan.{Plan}
use Rattle.meaning.specs.Said.{Answer, Body, Cell}
use Rattle.meaning.specs.declared.answer.Cell.TheVariants.{Nothing, One, Conflict}
use Rattle.meaning.specs.Cut.{Cut}
use Rattle.meaning.specs.Gather.{join_cells, joined, same_body}
use Rattle.meaning_laws.proofs.Absorb.{joined-push}
use Rattle.meaning.proofs.Tests.{first_of}
use Rattle.wire.proofs.Numbers.{ok_is}
use Rattle.partial_codec.specs.Job.{JobSpec, IsJob}
use Rattle.partial_codec.specs.Answer.{Fits, Spells}
use Rattle.partial_codec.proofs.Answers.{spelled_reads}
use Rattle.gathering.specs.declared.gather.Absorbed.{Absorbed}
use Rattle.meaning.specs.SoundPlan.{IsSoundPlan}
use Rattle.gathering.specs.Fitted.{AreFitting, is_fitting}
use Rattle.gathering.specs.Gathering.{GatherSpec, IsGather, Would, absorbed_as, cell_at, cells_with, changes, least_handed, most_handed}
use Rattle.gathering.specs.Joining.{conflict_unless, delta_of}
use Rattle.gathering.specs.Merging.{all_groups, groups_in}
use Rattle.gathering.specs.Totals.{behind, most_at_change}
use Rattle.gathering.proofs.Fitting.{AreFitting-at, AreFitting-none, AreFitting-set, is_fitting-join}

-- ---- a coordinator that has taken nothing

pub fresh_each : (cut : Cut) → length (replicate {A = Cell} (length cut) Nothing) ≡ length cut
fresh_each cut = length-replicate (length cut) Nothing

pub fresh_cells : (cut : Cut) → replicate (length cut) Nothing ≡ joined cut []
fresh_cells cut = from 0 (length cut) where
  from : (start n : ℕ) → replicate {A = Cell} n Nothing ≡ map {B = Cell} (λ k. Nothing) (range_with_len start n)
  from start zero = refl
  from start (suc n) = ap (λ (cells : List Cell). Nothing ∷ cells) (from (start + 1) n)

pub held_nothing : (job : JobSpec) (cells : List Cell) → IsSoundPlan job.plan → cells ≡ replicate (length job.cut) Nothing → IsGather (record { job = job; cells = cells; merges = 0 })
held_nothing job cells sound are = record {
  sound = sound;
  each = ap (λ (cs : List Cell). length cs) are ∙ fresh_each job.cut;
  fitting = subst (AreFitting job.plan job.cut) (sym are) (AreFitting-none job.plan job.cut (length job.cut));
}

-- the state of a set of answers becomes that of the set with one more
pub one_more : (cut : Cut) (answers : List Answer) (a : Answer) (cells : List Cell) → a.k < length cut → cells ≡ joined cut answers
    → slice_set cells a.k (join_cells (slice_index_or cells a.k Nothing) (One a.body)) ≡ joined cut (answers ++ a ∷ [])
one_more cut answers a cells below e = ap (λ cs. slice_set cs a.k (join_cells (slice_index_or cs a.k Nothing) (One a.body))) e ∙ sym (joined-push answers a cut below)

-- ---- the cell of an answer that fits

-- its fragment is one of the cut's
pub below_cut : (job : JobSpec) (a : Answer) → Fits job a → a.k < length job.cut
below_cut job a fits = ltb-true a.k (length job.cut) (first_of _ _ fits)

pub below : (job : JobSpec) (cells : List Cell) (a : Answer) → length cells ≡ length job.cut → Fits job a → a.k < length cells
below job cells a each fits = subst (λ n. a.k < n) (sym each) (below_cut job a fits)

pub same_at : (cells : List Cell) (i : ℕ) (d e : Cell) → i < length cells → slice_index_or cells i d ≡ slice_index_or cells i e
same_at cells i d e h = same_Some _ _ (sym (slice_get-get_or cells i d h) ∙ slice_get-get_or cells i e h)

-- ---- what is new of a cell

-- a cell behind what is new of it is the cell joined with the other
pub behind_delta : (own other : Cell) → behind own (delta_of own other) ≡ join_cells own other
behind_delta Nothing Nothing = refl
behind_delta Nothing (One b) = refl
behind_delta Nothing Conflict = refl
behind_delta (One a) Nothing = refl
behind_delta (One a) (One b) = elim (same_body a b) as (λ t. behind (One a) (conflict_unless t) ≡ cond t (One a) Conflict) [ true ↦ refl | false ↦ refl ]
behind_delta (One a) Conflict = refl
behind_delta Conflict Nothing = refl
behind_delta Conflict (One b) = refl
behind_delta Conflict Conflict = refl

-- what is new fits where the other does
pub delta_fits : (plan : Plan) (cut : Cut) (k : ℕ) (own other : Cell) → is_fitting plan cut k other ≡ true → is_fitting plan cut k (delta_of own other) ≡ true
delta_fits plan cut k Nothing other fits = fits
delta_fits plan cut k (One a) Nothing fits = refl
delta_fits plan cut k (One a) (One b) fits = elim (same_body a b) as (λ t. is_fitting plan cut k (conflict_unless t) ≡ true) [ true ↦ refl | false ↦ refl ]
delta_fits plan cut k (One a) Conflict fits = refl
delta_fits plan cut k Conflict other fits = refl

-- how many groups an answer has handed over
pub handed_least : (own : Cell) (body : Body) → length (groups_in (delta_of own (One body))) ≡ least_handed own body
handed_least Nothing body = refl
handed_least (One a) body = elim (same_body a body) as (λ t. length (groups_in (conflict_unless t)) ≡ 0) [ true ↦ refl | false ↦ refl ]
handed_least Conflict body = refl

pub handed_most : (own : Cell) (body : Body) (kept : List Cell) → most_at_change (delta_of own (One body)) kept ≡ most_handed own body kept
handed_most Nothing body kept = refl
handed_most (One a) body kept = elim (same_body a body) as (λ t. most_at_change (conflict_unless t) kept ≡ cond t 0 (length (all_groups kept))) [ true ↦ refl | false ↦ refl ]
handed_most Conflict body kept = refl

-- ---- whether an answer changes what is held

stays_held : (c : Cell) (body : Body) → changes c body ≡ false → join_cells c (One body) ≡ c
stays_held Nothing body e = absurd (false≢true (sym e))
stays_held (One known) body e =
    elim (same_body known body) as (λ t. not t ≡ false → cond t (One known) Conflict ≡ One known) [
      | true ↦ λ f. refl
      | false ↦ λ f. absurd (false≢true (sym f))
    ] e
stays_held Conflict body e = refl

one_is_something : (body : Body) → One body ≡ Nothing → ⊥
one_is_something body e = cc

conflict_is_no_answer : (body : Body) → Conflict ≡ One body → ⊥
conflict_is_no_answer body e = cc

moves_held : (c : Cell) (body : Body) → changes c body ≡ true → join_cells c (One body) ≡ c → ⊥
moves_held Nothing body e same = one_is_something body same
moves_held (One known) body e same =
    elim (same_body known body) as (λ t. not t ≡ true → cond t (One known) Conflict ≡ One known → ⊥) [
      | true ↦ λ f g. false≢true f
      | false ↦ λ f g. conflict_is_no_answer known g
    ] e same
moves_held Conflict body e same = false≢true e

-- an answer that changes nothing hands no groups over
hands_nothing : (c : Cell) (body : Body) → changes c body ≡ false → least_handed c body ≡ 0
hands_nothing Nothing body e = absurd (false≢true (sym e))
hands_nothing (One known) body e = refl
hands_nothing Conflict body e = refl

-- the cells with an answer that changes nothing are the cells
pub stay : (cells : List Cell) (a : Answer) → changes (cell_at cells a.k) a.body ≡ false → cells_with cells a ≡ cells
stay cells a e = ap (slice_set cells a.k) (stays_held (cell_at cells a.k) a.body e) ∙ set-get_or cells a.k Nothing

-- and those with one that changes something are others
pub move : (cells : List Cell) (a : Answer) → a.k < length cells → changes (cell_at cells a.k) a.body ≡ true → cells_with cells a ≡ cells → ⊥
move cells a within e same =
    moves_held (cell_at cells a.k) a.body e
    (sym (get_or-set_same cells a.k (join_cells (cell_at cells a.k) (One a.body)) Nothing within) ∙ ap (λ (cs : List Cell). cell_at cs a.k) same)

-- what is held behind an answer
pub held_with : (g : GatherSpec) (a : Answer) → IsGather g → Fits g.job a → IsGather (record { job = g.job; cells = cells_with g.cells a; merges = g.merges })
held_with g a is fits = record {
  sound = is.sound;
  each = length-set g.cells a.k (join_cells (cell_at g.cells a.k) (One a.body)) ∙ is.each;
  fitting =
      let within = below g.job g.cells a is.each fits in
      let here = AreFitting-at g.job.plan g.job.cut g.cells a.k Nothing within is.fitting in
      AreFitting-set g.job.plan g.job.cut g.cells a.k (join_cells (cell_at g.cells a.k) (One a.body))
      (is_fitting-join g.job.plan g.job.cut a.k (cell_at g.cells a.k) (One a.body) here fits) is.fitting;
}

-- bytes spell one answer
pub spelled_once : (job : JobSpec) (bytes : List ℕ) (a b : Answer) → IsJob job → Spells job bytes a → Spells job bytes b → b ≡ a
spelled_once job bytes a b is_job first second = ok_is b a (sym (spelled_reads job bytes b is_job second) ∙ spelled_reads job bytes a is_job first)

-- what is said of an answer before it is taken
pub said_before : (g : GatherSpec) (bytes : List ℕ) (returned : Absorbed × Bool) (a : Answer) → IsGather g → Spells g.job bytes a → ((b : Answer) → Spells g.job bytes b → b ≡ a)
    → returned.0 ≡ absorbed_as (cell_at g.cells a.k) a.k a.body → returned.1 ≡ changes (cell_at g.cells a.k) a.body → Would g bytes returned
said_before g bytes returned a ok spelled one classified is = record {
  answer = a;
  spelled = spelled;
  classified = classified;
  same = λ e. record {
    answer = a;
    spelled = spelled;
    job = refl;
    cells = sym (stay g.cells a (sym is ∙ e));
    classified = classified;
    counted = record {
      at_least = omega (arith, hands_nothing (cell_at g.cells a.k) a.body (sym is ∙ e));
      at_most = omega arith;
    };
  };
  changed = λ e b b_spelled same. move g.cells a (below g.job g.cells a ok.each spelled.fits) (sym is ∙ e) (ap (cells_with g.cells) (sym (one b b_spelled)) ∙ same);
}
