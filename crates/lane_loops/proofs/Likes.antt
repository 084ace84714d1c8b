-- A pattern that is tried character by character, and behind a `%` from the first position where it fits.
use Rattle.std.specs.Prelude.{◌≡◌, ℕ, ◌==◌, Bool, true, false, cond, ◌&&◌, ◌||◌, List, [], ◌∷◌, length}
use Rattle.std.specs.Str.{chars}
use Rattle.std.proofs.Common.{refl, sym, ap, arith, ◌∙◌}
use Rattle.std.proofs.lemmas.Str.{chars-nil}
use Rattle.meaning.specs.Like.{after_any_run, characters_fit, fits_one}
use Rattle.meaning.proofs.LikeLemmas.{after_any_run-here}
use Rattle.meaning.proofs.Tests.{second_of, or_second}

pub same_test : (a b : Bool) → (a ≡ true → b ≡ true) → (b ≡ true → a ≡ true) → a ≡ b
same_test true true to from = refl
same_test true false to from = sym (to refl)
same_test false true to from = from refl
same_test false false to from = refl

-- what passes behind a run of a rest passes behind a run of the whole
pub run_longer : (test : List ℕ → Bool) (t : ℕ) (ts : List ℕ) → after_any_run test ts ≡ true → after_any_run test (t ∷ ts) ≡ true
run_longer test t ts e = or_second (test (t ∷ ts)) (after_any_run test ts) e

-- two runs are one
pub runs_join : (test : List ℕ → Bool) (ts : List ℕ) → after_any_run (after_any_run test) ts ≡ true → after_any_run test ts ≡ true
runs_join test [] e = e
runs_join test (t ∷ ts) e =
    elim (after_any_run test (t ∷ ts)) as (λ b. after_any_run test (t ∷ ts) ≡ b → (b || after_any_run (after_any_run test) ts) ≡ true → after_any_run test (t ∷ ts) ≡ true) [
      | true ↦ λ is _. is
      | false ↦ λ _ more. run_longer test t ts (runs_join test ts more)
    ] refl e

-- behind a character that isn't `%`, of a text that has one
fits_more : (p : ℕ) (ps : List ℕ) (t : ℕ) (ts : List ℕ) → (p == 37) ≡ false → characters_fit (p ∷ ps) (t ∷ ts) ≡ (fits_one p t && characters_fit ps ts)
fits_more p ps t ts other = ap (λ b. cond b (after_any_run (characters_fit ps) (t ∷ ts)) (fits_one p t && characters_fit ps ts)) other

fits_none : (p : ℕ) (ps : List ℕ) → (p == 37) ≡ false → characters_fit (p ∷ ps) [] ≡ false
fits_none p ps other = ap (λ b. cond b (after_any_run (characters_fit ps) []) false) other

-- what fits behind some run fits, without its first character, behind some run of the text without its first
pub run_next : (p : ℕ) (ps : List ℕ) (t : ℕ) (ts : List ℕ) → (p == 37) ≡ false → after_any_run (characters_fit (p ∷ ps)) (t ∷ ts) ≡ true → after_any_run (characters_fit ps) ts ≡ true
run_next p ps t [] other e =
    elim (characters_fit (p ∷ ps) (t ∷ [])) as (λ b. characters_fit (p ∷ ps) (t ∷ []) ≡ b → (b || after_any_run (characters_fit (p ∷ ps)) []) ≡ true → after_any_run (characters_fit ps) [] ≡ true) [
      | true ↦ λ is _. second_of (fits_one p t) (characters_fit ps []) (sym (fits_more p ps t [] other) ∙ is)
      | false ↦ λ _ bad. let no : false ≡ true = sym (fits_none p ps other) ∙ bad in absurd cc
    ] refl e
run_next p ps t (u ∷ us) other e =
    elim (characters_fit (p ∷ ps) (t ∷ u ∷ us)) as (λ b. characters_fit (p ∷ ps) (t ∷ u ∷ us) ≡ b → (b || after_any_run (characters_fit (p ∷ ps)) (u ∷ us)) ≡ true → after_any_run (characters_fit ps) (u ∷ us) ≡ true) [
      | true ↦ λ is _. after_any_run-here (characters_fit ps) (u ∷ us) (second_of (fits_one p t) (characters_fit ps (u ∷ us)) (sym (fits_more p ps t (u ∷ us) other) ∙ is))
      | false ↦ λ _ more. run_longer (characters_fit ps) u us (run_next p ps u us other more)
    ] refl e

module _ (pattern text : List ℕ) (ps ts : List ℕ) (here : characters_fit pattern text ≡ characters_fit ps ts) (later : after_any_run (characters_fit pattern) text ≡ true → after_any_run (characters_fit ps) ts ≡ true) where
  -- a `%` comes next
  pub sign_here : (behind : List ℕ) → ps ≡ 37 ∷ behind → characters_fit pattern text ≡ after_any_run (characters_fit behind) ts
  sign_here behind is = here ∙ ap (λ (qs : List ℕ). characters_fit qs ts) is

  pub sign_later : (behind : List ℕ) → ps ≡ 37 ∷ behind → after_any_run (characters_fit pattern) text ≡ after_any_run (characters_fit behind) ts
  sign_later behind is = same_test (after_any_run (characters_fit pattern) text) (after_any_run (characters_fit behind) ts)
      (λ e. runs_join (characters_fit behind) ts (ap (λ (qs : List ℕ). after_any_run (characters_fit qs) ts) (sym is) ∙ later e))
      (λ e. after_any_run-here (characters_fit pattern) text (sign_here behind is ∙ e))

  -- another character comes next
  module _ (p : ℕ) (behind : List ℕ) (pattern_is : ps ≡ p ∷ behind) (other : (p == 37) ≡ false) where
    pub none_left : ts ≡ [] → characters_fit pattern text ≡ false
    none_left none = here ∙ ap (λ (qs : List ℕ). characters_fit qs ts) pattern_is ∙ ap (λ (us : List ℕ). characters_fit (p ∷ behind) us) none ∙ fits_none p behind other

    module _ (t : ℕ) (more : List ℕ) (text_is : ts ≡ t ∷ more) where
      both : characters_fit pattern text ≡ (fits_one p t && characters_fit behind more)
      both = here ∙ ap (λ (qs : List ℕ). characters_fit qs ts) pattern_is ∙ ap (λ (us : List ℕ). characters_fit (p ∷ behind) us) text_is ∙ fits_more p behind t more other

      pub one_differs : fits_one p t ≡ false → characters_fit pattern text ≡ false
      one_differs differs = both ∙ ap (λ b. b && characters_fit behind more) differs

      pub one_fits : fits_one p t ≡ true → characters_fit pattern text ≡ characters_fit behind more
      one_fits same = both ∙ ap (λ b. b && characters_fit behind more) same

      pub one_later : after_any_run (characters_fit pattern) text ≡ true → after_any_run (characters_fit behind) more ≡ true
      one_later e = run_next p behind t more other (ap (λ (us : List ℕ). after_any_run (characters_fit (p ∷ behind)) us) (sym text_is) ∙ ap (λ (qs : List ℕ). after_any_run (characters_fit qs) ts) (sym pattern_is) ∙ later e)

pub empty_chars : (bs : List ℕ) → length bs ≡ 0 → chars bs ≡ []
empty_chars [] none = chars-nil
empty_chars (b ∷ bs) none = absurd (omega (arith, none))
