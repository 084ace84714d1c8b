-- A loop that fills one lane after the other.
use Rattle.std.specs.Prelude.{◌≡◌, ℕ, ◌+◌, ◌<◌, eqb, true, false, List, length, get_or, set}
use Rattle.std.proofs.Common.{refl, sym, ap, subst, arith, ◌∙◌}
use Rattle.std.proofs.lemmas.Bool.{eqb-true, eqb-false}
use Rattle.std.proofs.lemmas.List.{length-set, get_or-set_other}
use Rattle.std.proofs.lemmas.Grind.{get_or-set_at}
use Rattle.lane_loops.specs.Lanes.{AreFilled}

module _ {X : Type 0} (blank : X) (n : ℕ) (meant : ℕ → X) where
  -- one more lane is filled
  pub filled_more : (out : List X) (i : ℕ) (x : X) → AreFilled blank n i meant out → i < n → x ≡ meant i → AreFilled blank n (i + 1) meant (set out i x)
  filled_more out i x so_far within same = record { long = length-set out i x ∙ so_far.long; each = each } where
    here : i < length out
    here = omega (arith, so_far.long, within)

    each : (j : ℕ) → j < i + 1 → get_or (set out i x) j blank ≡ meant j
    each j below = elim (eqb j i) as (λ b. eqb j i ≡ b → get_or (set out i x) j blank ≡ meant j) [
      | true ↦ λ e. let at : j ≡ i = eqb-true j i e in get_or-set_at out i j x blank at here ∙ same ∙ ap meant (sym at)
      | false ↦ λ e. let apart : j ≡ i → ⊥ = eqb-false j i e in let before : j < i = omega (arith, below, apart) in get_or-set_other out i j x blank apart ∙ so_far.each j before
    ] refl

-- the first `i` of so many lanes are what is meant there, where the premise holds
pub record AreFilledWhere {X : Type 0} (blank : X) (n i : ℕ) (Premise : ℕ → Type 0) (meant : ℕ → X) (lanes : List X) : Type 0 where
  pub long : length lanes ≡ n
  pub each : (j : ℕ) → j < i → Premise j → get_or lanes j blank ≡ meant j

module _ {X : Type 0} (blank : X) (n : ℕ) (Premise : ℕ → Type 0) (meant : ℕ → X) where
  pub filled_more_where : (out : List X) (i : ℕ) (x : X) → AreFilledWhere blank n i Premise meant out → i < n → (Premise i → x ≡ meant i) → AreFilledWhere blank n (i + 1) Premise meant (set out i x)
  filled_more_where out i x so_far within same = record { long = length-set out i x ∙ so_far.long; each = each } where
    here : i < length out
    here = omega (arith, so_far.long, within)

    each : (j : ℕ) → j < i + 1 → Premise j → get_or (set out i x) j blank ≡ meant j
    each j below holds = elim (eqb j i) as (λ b. eqb j i ≡ b → get_or (set out i x) j blank ≡ meant j) [
      | true ↦ λ e. let at : j ≡ i = eqb-true j i e in get_or-set_at out i j x blank at here ∙ same (subst Premise at holds) ∙ ap meant (sym at)
      | false ↦ λ e. let apart : j ≡ i → ⊥ = eqb-false j i e in let before : j < i = omega (arith, below, apart) in get_or-set_other out i j x blank apart ∙ so_far.each j before holds
    ] refl
