-- A loop that fills the lanes at positions.
use Rattle.std.specs.Prelude.{◌≡◌, ℕ, ◌+◌, ◌<◌, eqb, true, false, List, length, get_or, set, All}
use Rattle.std.proofs.Common.{refl, sym, ap, subst, arith, ◌∙◌}
use Rattle.std.proofs.lemmas.Bool.{eqb-true, eqb-false}
use Rattle.std.proofs.lemmas.List.Elements.{All-get_or}
use Rattle.std.proofs.lemmas.List.{length-set, get_or-set_other}
use Rattle.std.proofs.lemmas.Grind.{get_or-set_at}

-- the lanes at the first `k` positions are filled
pub record AreFilledAt {X : Type 0} (blank : X) (n : ℕ) (positions : List ℕ) (k : ℕ) (Premise : ℕ → Type 0) (meant : ℕ → X) (lanes : List X) : Type 0 where
  pub long : length lanes ≡ n
  pub each : (j : ℕ) → j < k → Premise (get_or positions j 0) → get_or lanes (get_or positions j 0) blank ≡ meant (get_or positions j 0)

abbrev pub always : ℕ → Type 0
always i = Unit {0}

module _ {X : Type 0} (blank : X) (n : ℕ) (positions : List ℕ) (within : All (λ p. p < n) positions) (Premise : ℕ → Type 0) (meant : ℕ → X) where
  pub filled_more_at : (out : List X) (k : ℕ) (x : X) → AreFilledAt blank n positions k Premise meant out → k < length positions → (Premise (get_or positions k 0) → x ≡ meant (get_or positions k 0))
      → AreFilledAt blank n positions (k + 1) Premise meant (set out (get_or positions k 0) x)
  filled_more_at out k x so_far below same = record {
    long = length-set out (get_or positions k 0) x ∙ so_far.long;
    each = λ j before holds. elim (eqb (get_or positions j 0) (get_or positions k 0)) as (λ b. eqb (get_or positions j 0) (get_or positions k 0) ≡ b → get_or (set out (get_or positions k 0) x) (get_or positions j 0) blank ≡ meant (get_or positions j 0)) [
      | true ↦ λ e.
          let at : get_or positions j 0 ≡ get_or positions k 0 = eqb-true (get_or positions j 0) (get_or positions k 0) e in
          let under : get_or positions k 0 < n = All-get_or (λ p. p < n) positions k 0 below within in
          let here : get_or positions k 0 < length out = omega (arith, so_far.long, under) in
          get_or-set_at out (get_or positions k 0) (get_or positions j 0) x blank at here ∙ same (subst Premise at holds) ∙ ap meant (sym at)
      | false ↦ λ e.
          let apart : get_or positions j 0 ≡ get_or positions k 0 → ⊥ = eqb-false (get_or positions j 0) (get_or positions k 0) e in
          let earlier : j < k = before_k j before (λ same_position. apart (ap (λ (q : ℕ). get_or positions q 0) same_position)) in
          get_or-set_other out (get_or positions k 0) (get_or positions j 0) x blank apart ∙ so_far.each j earlier holds
    ] refl;
  } where
    before_k : (j : ℕ) → j < k + 1 → (j ≡ k → ⊥) → j < k
    before_k j before apart = omega (arith, before, apart)
