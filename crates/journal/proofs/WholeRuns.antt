-- What a whole run holds.
use Rattle.std.specs.Prelude.{◌≡◌, ◌⊎◌, ℕ, List, [], ◌∷◌, ◌++◌, get_or}
use Rattle.std.specs.List.{Contains}
use Rattle.std.proofs.Common.{inl, inr, refl, sym, ap, ◌∙◌, subst, arith, append_assoc}
use Rattle.std.proofs.lemmas.List.{append-nil}
use Rattle.std.proofs.lemmas.List.Elements.{Contains-append_cases, Contains-append_right}
use Rattle.meaning.specs.Said.{Answer}
use Rattle.meaning.specs.Gather.{joined}
use Rattle.partial_codec.specs.Job.{JobSpec, IsJob}
use Rattle.partial_codec.specs.Answer.{Spells}
use Rattle.gathering.specs.declared.gather.Absorbed.{Absorbed}
use Rattle.gathering.specs.Gathering.{GatherSpec, Takes}
use Rattle.gathering.proofs.Held.{one_more, below_cut}
use Rattle.journal.specs.Journal.{IsJournalOf}
use Rattle.journal.specs.Runs.{Step, Acknowledged, Refused, CutOff, Reopened, RunsTo, presented, acknowledged, HoldsAcknowledged}
use Rattle.journal.proofs.OneJournal.{one_state}

-- ---- elements

none_in : {X : Type 0} (x : X) → Contains [] x → ⊥
none_in x is = omega (arith, is.1)

only_in : {X : Type 0} (x y : X) → Contains (x ∷ []) y → x ≡ y
only_in x y is =
    let front : is.0 ≡ 0 = omega (arith, is.1) in
    sym (ap (λ (k : ℕ). get_or (x ∷ []) k y) front) ∙ is.2

first_in : {X : Type 0} (x : X) (xs : List X) → Contains (x ∷ xs) x
first_in x xs = (0, omega arith, refl)

later_in : {X : Type 0} (x : X) (xs : List X) (y : X) → Contains xs y → Contains (x ∷ xs) y
later_in x xs y is = Contains-append_right (x ∷ []) xs y is

in_cases : {X : Type 0} (x : X) (xs : List X) (y : X) → Contains (x ∷ xs) y → (x ≡ y) ⊎ Contains xs y
in_cases x xs y is = elim (Contains-append_cases (x ∷ []) xs y is) [
  | inl here ↦ inl (only_in x y here)
  | inr later ↦ inr later
]

-- ---- steps

-- what is gathered behind some steps: the answers from before and more, which these steps presented
record Goes (job : JobSpec) (before : List Answer) (steps : List Step) (last : GatherSpec) : Type 0 where
  pub more : List Answer
  pub same_job : last.job ≡ job
  pub state : last.cells ≡ joined job.cut (before ++ more)
  pub each : (bytes : List ℕ) → Contains (acknowledged steps) bytes → (a : Answer) × Contains more a × Spells job bytes a
  pub others : (a : Answer) → Contains more a → (bytes : List ℕ) × Contains (presented steps) bytes × Spells job bytes a

-- the bytes that a step presents
module _ (job : JobSpec) (before : List Answer) (bytes : List ℕ) (shown told : List (List ℕ)) where
  -- an answer more, in front of those of later steps
  with_more : (a : Answer) → Spells job bytes a → (more : List Answer) → ((b : List ℕ) → Contains told b → (c : Answer) × Contains more c × Spells job b c)
      → (b : List ℕ) → Contains (bytes ∷ told) b → (c : Answer) × Contains (a ∷ more) c × Spells job b c
  with_more a spells more each b is = elim (in_cases bytes told b is) [
    | inl same ↦ (a, first_in a more, subst (λ (l : List ℕ). Spells job l a) same spells)
    | inr later ↦ let c = each b later in (c.0, later_in a more c.0 c.1, c.2)
  ]

  still_more : (a : Answer) (more : List Answer) → ((b : List ℕ) → Contains told b → (c : Answer) × Contains more c × Spells job b c) → (b : List ℕ) → Contains told b → (c : Answer) × Contains (a ∷ more) c × Spells job b c
  still_more a more each b is = let c = each b is in (c.0, later_in a more c.0 c.1, c.2)

  from_more : (a : Answer) → Spells job bytes a → (more : List Answer) → ((c : Answer) → Contains more c → (b : List ℕ) × Contains shown b × Spells job b c)
      → (c : Answer) → Contains (a ∷ more) c → (b : List ℕ) × Contains (bytes ∷ shown) b × Spells job b c
  from_more a spells more others c is = elim (in_cases a more c is) [
    | inl same ↦ (bytes, first_in bytes shown, subst (Spells job bytes) same spells)
    | inr later ↦ let b = others c later in (b.0, later_in bytes shown b.0 b.1, b.2)
  ]

  from_later : (more : List Answer) → ((c : Answer) → Contains more c → (b : List ℕ) × Contains shown b × Spells job b c) → (c : Answer) → Contains more c → (b : List ℕ) × Contains (bytes ∷ shown) b × Spells job b c
  from_later more others c is = let b = others c is in (b.0, later_in bytes shown b.0 b.1, b.2)

-- an answer that was taken
taken_state : (job : JobSpec) (before : List Answer) (old new : GatherSpec) (bytes : List ℕ) (returned : Absorbed) → old.job ≡ job → old.cells ≡ joined job.cut before → (takes : Takes old new bytes returned)
    → (new.job ≡ job) × (new.cells ≡ joined job.cut (before ++ takes.answer ∷ [])) × Spells job bytes takes.answer
taken_state job before old new bytes returned same state takes =
    let spells : Spells job bytes takes.answer = subst (λ (j : JobSpec). Spells j bytes takes.answer) same takes.spelled in (
      takes.job ∙ same,
      takes.cells ∙ one_more job.cut before takes.answer old.cells (below_cut job takes.answer spells.fits) state,
      spells,
    )

-- a journal that is opened
opened_state : (job : JobSpec) → IsJob job → (g h : GatherSpec) (file : List ℕ) → g.job ≡ job → h.job ≡ job → IsJournalOf g file → IsJournalOf h file → h.cells ≡ g.cells
opened_state job is g h file first second left right = sym (one_state g h file (subst IsJob (sym first) is) (first ∙ sym second) left right)

module _ (job : JobSpec) (is_job : IsJob job) where
  runs : (steps : List Step) (before : List Answer) (first last : GatherSpec) → first.job ≡ job → first.cells ≡ joined job.cut before → RunsTo steps first last → Goes job before steps last
  runs [] before first last same state run = record {
    more = [];
    same_job = ap (λ (g : GatherSpec). g.job) run ∙ same;
    state = ap (λ (g : GatherSpec). g.cells) run ∙ state ∙ ap (joined job.cut) (sym (append-nil before));
    each = λ bytes is. absurd (none_in bytes is);
    others = λ a is. absurd (none_in a is);
  }
  runs (Acknowledged bytes ∷ steps) before first last same state run =
      let takes = run.1.1 in
      let a = takes.answer in
      let taken = taken_state job before first run.0 bytes run.1.0 same state takes in
      let rest = runs steps (before ++ a ∷ []) run.0 last taken.0 taken.1 run.2 in
      record {
        more = a ∷ rest.more;
        same_job = rest.same_job;
        state = rest.state ∙ ap (joined job.cut) (append_assoc before (a ∷ []) rest.more);
        each = with_more job before bytes (presented steps) (acknowledged steps) a taken.2 rest.more rest.each;
        others = from_more job before bytes (presented steps) (acknowledged steps) a taken.2 rest.more rest.others;
      }
  runs (Refused bytes ∷ steps) before first last same state run =
      let rest = runs steps before run.0 last (ap (λ (g : GatherSpec). g.job) run.1 ∙ same) (ap (λ (g : GatherSpec). g.cells) run.1 ∙ state) run.2 in
      record {
        more = rest.more;
        same_job = rest.same_job;
        state = rest.state;
        each = rest.each;
        others = from_later job before bytes (presented steps) (acknowledged steps) rest.more rest.others;
      }
  runs (CutOff bytes ∷ steps) before first last same state run = elim run.1.2 [
    | inl without ↦
        let here = run.1.1 ∙ same in
        let rest = runs steps before run.0 last here (opened_state job is_job first run.0 run.1.0 same here without run.1.3 ∙ state) run.2 in
        record {
          more = rest.more;
          same_job = rest.same_job;
          state = rest.state;
          each = rest.each;
          others = from_later job before bytes (presented steps) (acknowledged steps) rest.more rest.others;
        }
    | inr with_it ↦
        let here = run.1.1 ∙ same in
        let takes = with_it.2 in
        let a = takes.answer in
        let taken = taken_state job before first with_it.0 bytes with_it.1 same state takes in
        let rest = runs steps (before ++ a ∷ []) run.0 last here (opened_state job is_job with_it.0 run.0 run.1.0 taken.0 here with_it.3 run.1.3 ∙ taken.1) run.2 in
        record {
          more = a ∷ rest.more;
          same_job = rest.same_job;
          state = rest.state ∙ ap (joined job.cut) (append_assoc before (a ∷ []) rest.more);
          each = still_more job before bytes (presented steps) (acknowledged steps) a rest.more rest.each;
          others = from_more job before bytes (presented steps) (acknowledged steps) a taken.2 rest.more rest.others;
        }
  ]
  runs (Reopened ∷ steps) before first last same state run =
      let here = run.1.1 ∙ same in
      let rest = runs steps before run.0 last here (opened_state job is_job first run.0 run.1.0 same here run.1.2 run.1.3 ∙ state) run.2 in
      record { more = rest.more; same_job = rest.same_job; state = rest.state; each = rest.each; others = rest.others }

pub runs_hold : (steps : List Step) (first last : GatherSpec) → IsJob first.job → first.cells ≡ joined first.job.cut [] → RunsTo steps first last → HoldsAcknowledged first.job steps last
runs_hold steps first last is_job fresh run =
    let all = runs first.job is_job steps [] first last refl fresh run in
    record { answers = all.more; same_job = all.same_job; state = all.state; each = all.each; others = all.others }
