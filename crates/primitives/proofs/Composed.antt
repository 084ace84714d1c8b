-- What was evaluated, in a form in which one evaluation follows another.
use Rattle.std.proofs.Common.{◌≡◌, ℕ, true, List, [], ◌∷◌, Some, None, inl, inr, refl, subst, sym}
use Rattle.std.specs.Prelude.{◌⊎◌, ◌==◌}
use Rattle.meaning.specs.declared.outcome.Outcome.{Outcome}
use Rattle.meaning.specs.declared.outcome.Outcome.TheVariants as gives
use Rattle.meaning.proofs.Tests.{or_second}
use Rattle.vectors.specs.Selection.{is_among}
use Rattle.vector_operators.specs.declared.fault.Faulted.{Faulted}
use Rattle.vector_operators.specs.Evaluated.{Evaluates, Finds, Held, IsEvaluated, fault_at, first_fault, noted}
use Rattle.vector_operators.proofs.Among.{self_among}
use Rattle.vector_operators.proofs.Composes.{noted_cases}

module _ (meant : ℕ → Outcome) where
  -- the first fault stands at one of the positions
  found_behind : (x : ℕ) (xs : List ℕ) (f : Faulted) → (first_fault meant xs ≡ Some f → (is_among xs f.position ≡ true) × (meant f.position ≡ gives.Fault f.fault)) → (o : Outcome) → meant x ≡ o
      → fault_at x o (first_fault meant xs) ≡ Some f → (is_among (x ∷ xs) f.position ≡ true) × (meant f.position ≡ gives.Fault f.fault)
  found_behind x xs f later (gives.Fault g) is found =
      let same : record { position = x; fault = g } ≡ f = cc found in
      subst (λ (h : Faulted). (is_among (x ∷ xs) h.position ≡ true) × (meant h.position ≡ gives.Fault h.fault)) same (self_among x xs, is)
  found_behind x xs f later (gives.Value v) is found = (or_second (x == f.position) (is_among xs f.position) (later found).0, (later found).1)
  found_behind x xs f later (gives.Truth t) is found = (or_second (x == f.position) (is_among xs f.position) (later found).0, (later found).1)

  -- the first fault stands at one of the positions
  first_found : (list : List ℕ) (f : Faulted) → first_fault meant list ≡ Some f → (is_among list f.position ≡ true) × (meant f.position ≡ gives.Fault f.fault)
  first_found [] f e = absurd cc
  first_found (x ∷ xs) f e = found_behind x xs f (first_found xs f) (meant x) refl e

  module _ (list : List ℕ) (held : Held) where
    noted_found : (first : Held) → first_fault meant list ≡ first → (noted held first ≡ held) ⊎ Finds meant (λ i. is_among list i ≡ true) held (noted held first)
    noted_found None e = inl refl
    noted_found (Some f) e = elim (noted_cases held f) [
      | inl taken ↦ (let there = first_found list f e in
          inr (record { position = f.position; fault = f.fault; is_new = taken.1; is_selected = there.0; is_before = taken.0; is_meant = there.1 }))
      | inr kept ↦ inl kept.0
    ]

    -- the fault that is held then is the one held before, or one that was found
    pub origin_noted : (new : Held) → new ≡ noted held (first_fault meant list) → (new ≡ held) ⊎ Finds meant (λ i. is_among list i ≡ true) held new
    origin_noted new e = subst (λ (h : Held). (h ≡ held) ⊎ Finds meant (λ i. is_among list i ≡ true) held h) (sym e) (noted_found (first_fault meant list) refl)

    pub composed : (new : Held) (lanes : ℕ → Outcome) → IsEvaluated meant list held new lanes → Evaluates meant (λ i. is_among list i ≡ true) held new lanes
    composed new lanes is = record { exact = is.exact; origin = origin_noted new is.least }
