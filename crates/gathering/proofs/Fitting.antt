-- Cells whose answers fit their fragments.
use Rattle.std.specs.Prelude.{◌≡◌, ℕ, zero, suc, ◌+◌, ◌<◌, true, false, cond, List, [], ◌∷◌, length, replicate, slice_index_or, slice_set}
use Rattle.std.specs.List.{list_all, enumerate_from}
use Rattle.std.proofs.Common.{refl, sym, subst, arith, add-zero}
use Rattle.meaning.specs.declared.plan.Plan.{Plan}
use Rattle.meaning.specs.Said.{Cell}
use Rattle.meaning.specs.declared.answer.Cell.TheVariants.{Nothing, One, Conflict}
use Rattle.meaning.specs.Cut.{Cut}
use Rattle.meaning.specs.Gather.{same_body, join_cells}
use Rattle.meaning.proofs.Tests.{first_of, second_of, both}
use Rattle.gathering.specs.Fitted.{is_fitting, AreFitting}

-- ---- one cell changes

module _ (plan : Plan) (cut : Cut) where
  set_from : (n : ℕ) (cells : List Cell) (k : ℕ) (c : Cell) → is_fitting plan cut (n + k) c ≡ true → list_all (λ p. is_fitting plan cut p.0 p.1) (enumerate_from n cells) ≡ true
      → list_all (λ p. is_fitting plan cut p.0 p.1) (enumerate_from n (slice_set cells k c)) ≡ true
  set_from n [] k c here e = refl
  set_from n (d ∷ cells) zero c here e = both _ _ (subst (λ (j : ℕ). is_fitting plan cut j c ≡ true) (add-zero n) here) (second_of _ _ e)
  set_from n (d ∷ cells) (suc k) c here e =
      let later : n + suc k ≡ (n + 1) + k = omega arith in
      both _ _ (first_of _ _ e) (set_from (n + 1) cells k c (subst (λ (j : ℕ). is_fitting plan cut j c ≡ true) later here) (second_of _ _ e))

  -- a fitting cell may be any fragment's
  pub AreFitting-set : (cells : List Cell) (k : ℕ) (c : Cell) → is_fitting plan cut k c ≡ true → AreFitting plan cut cells → AreFitting plan cut (slice_set cells k c)
  AreFitting-set cells k c here before =
      let same : k ≡ 0 + k = omega arith in
      record { each = set_from 0 cells k c (subst (λ (j : ℕ). is_fitting plan cut j c ≡ true) same here) before.each }

  none_from : (n m : ℕ) → list_all (λ p. is_fitting plan cut p.0 p.1) (enumerate_from n (replicate m Nothing)) ≡ true
  none_from n zero = refl
  none_from n (suc m) = none_from (n + 1) m

  -- where nothing is said yet, all cells are fitting
  pub AreFitting-none : (m : ℕ) → AreFitting plan cut (replicate m Nothing)
  AreFitting-none m = record { each = none_from 0 m }

  -- two fitting cells as one
  pub is_fitting-join : (k : ℕ) (c d : Cell) → is_fitting plan cut k c ≡ true → is_fitting plan cut k d ≡ true → is_fitting plan cut k (join_cells c d) ≡ true
  is_fitting-join k Nothing d p q = q
  is_fitting-join k (One a) Nothing p q = p
  is_fitting-join k (One a) (One b) p q = elim (same_body a b) as (λ t. is_fitting plan cut k (cond t (One a) Conflict) ≡ true) [ true ↦ p | false ↦ refl ]
  is_fitting-join k (One a) Conflict p q = refl
  is_fitting-join k Conflict Nothing p q = refl
  is_fitting-join k Conflict (One b) p q = refl
  is_fitting-join k Conflict Conflict p q = refl

  at_fragment : (n : ℕ) (cells : List Cell) (k : ℕ) (d : Cell) → k < length cells → list_all (λ p. is_fitting plan cut p.0 p.1) (enumerate_from n cells) ≡ true → is_fitting plan cut (n + k) (slice_index_or cells k d) ≡ true
  at_fragment n [] k d below e = absurd (omega arith)
  at_fragment n (c ∷ cells) zero d below e = subst (λ (j : ℕ). is_fitting plan cut j c ≡ true) (sym (add-zero n)) (first_of _ _ e)
  at_fragment n (c ∷ cells) (suc k) d below e =
      let later : (n + 1) + k ≡ n + suc k = omega arith in
      subst (λ (j : ℕ). is_fitting plan cut j (slice_index_or cells k d) ≡ true) later (at_fragment (n + 1) cells k d (omega arith) (second_of _ _ e))

  -- each cell fits its fragment
  pub AreFitting-at : (cells : List Cell) (k : ℕ) (d : Cell) → k < length cells → AreFitting plan cut cells → is_fitting plan cut k (slice_index_or cells k d) ≡ true
  AreFitting-at cells k d below fitting =
      let same : 0 + k ≡ k = omega arith in
      subst (λ (j : ℕ). is_fitting plan cut j (slice_index_or cells k d) ≡ true) same (at_fragment 0 cells k d below fitting.each)
