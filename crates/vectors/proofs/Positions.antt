-- What is kept of a selection is a selection, and so are all positions.
use Rattle.std.specs.Prelude.{◌≡◌, ℕ, zero, suc, ◌+◌, ◌<◌, ◌≤◌, ◌^◌, ◌==◌, Bool, true, false, cond, ◌||◌, List, [], ◌∷◌, length, replicate, filter, take, All, get_or, Result, Ok, Err, IfOk}
use Rattle.std.specs.List.{range_with_len, AllZip, AllByRecursion}
use Rattle.std.specs.List.Sorted.{IsStrictlyIncreasing, IsStrictlySortedBy}
use Rattle.std.specs.Ordering.{nat_cmp}
use Rattle.std.specs.declared.cmp.Ordering.TheVariants.{Less}
use Rattle.std.proofs.Common.{refl, sym, ap, arith, ◌∙◌, subst}
use Rattle.std.proofs.lemmas.Map.Keys.{IsStrictlyIncreasing-from_sorted, sorted_from_strictly_increasing}
use Rattle.std.proofs.lemmas.List.Elements.{All-from_recursion, recursion_from_All, All-from_get_or}
use Rattle.std.proofs.lemmas.Bool.{eqb-false}
use Rattle.std.proofs.lemmas.List.{length-take, length-replicate, get_or-replicate}
use Rattle.std.proofs.lemmas.List.FromFn.{length-range_with_len, get_or-range_with_len}
use Rattle.vectors.specs.Selection.{Positions, IsSelection, all_below, positions_of, is_among, IsHeld, IsMask, answered_true, Keeps}

module _ (Answers : ℕ → Bool → Type 0) where
  -- what holds of each position holds of each that is kept
  kept_all : (P : ℕ → Type 0) (ps : List ℕ) (as' : List Bool) → AllZip Answers ps as' → AllByRecursion P ps → AllByRecursion P (answered_true ps as')
  kept_all P [] [] asked all = all
  kept_all P [] (a ∷ as') asked all = absurd asked
  kept_all P (p ∷ ps) [] asked all = absurd asked
  kept_all P (p ∷ ps) (true ∷ as') asked all = (all.0, kept_all P ps as' asked.1 all.1)
  kept_all P (p ∷ ps) (false ∷ as') asked all = kept_all P ps as' asked.1 all.1

  kept_sorted : (ps : List ℕ) (as' : List Bool) → AllZip Answers ps as' → IsStrictlySortedBy nat_cmp ps → IsStrictlySortedBy nat_cmp (answered_true ps as')
  unfolding IsStrictlySortedBy
  kept_sorted [] [] asked sorted = sorted
  kept_sorted [] (a ∷ as') asked sorted = absurd asked
  kept_sorted (p ∷ ps) [] asked sorted = absurd asked
  kept_sorted (p ∷ ps) (true ∷ as') asked sorted = (kept_all (λ q. nat_cmp p q ≡ Less) ps as' asked.1 sorted.0, kept_sorted ps as' asked.1 sorted.1)
  kept_sorted (p ∷ ps) (false ∷ as') asked sorted = kept_sorted ps as' asked.1 sorted.1

  -- a selection that is narrowed is one
  pub kept_is_selection : (below : ℕ) (old new : List ℕ) → IsSelection (record { below = below; list = old }) → Keeps Answers old new → IsSelection (record { below = below; list = new })
  kept_is_selection below old new is keeps = record {
    ascending = subst IsStrictlyIncreasing (sym keeps.kept) (IsStrictlyIncreasing-from_sorted (answered_true old keeps.answers) (kept_sorted old keeps.answers keeps.asked (sorted_from_strictly_increasing old is.ascending)));
    within = subst (All (λ p. p < below)) (sym keeps.kept) (All-from_recursion (λ p. p < below) (answered_true old keeps.answers) (kept_all (λ p. p < below) old keeps.answers keeps.asked (recursion_from_All (λ p. p < below) old is.within)));
  }

-- all positions are a selection
pub all_are_selection : (n : ℕ) → IsSelection (all_below n)
all_are_selection n = record { ascending = ascending; within = All-from_get_or (λ p. p < n) (range_with_len 0 n) 0 below } where
  long : length (range_with_len 0 n) ≡ n
  long = length-range_with_len 0 n

  at : (i : ℕ) → i < n → get_or (range_with_len 0 n) i 0 ≡ i
  at i within = get_or-range_with_len 0 n i 0 within ∙ none where
    none : 0 + i ≡ i
    none = omega arith

  ascending : IsStrictlyIncreasing (range_with_len 0 n)
  ascending k within =
      let next : k + 1 < n = omega (arith, within, long) in
      let here : k < n = omega (arith, next) in
      rw (at k here, at (k + 1) next) (omega arith)

  below : (i : ℕ) → i < length (range_with_len 0 n) → get_or (range_with_len 0 n) i 0 < n
  below i within = let here : i < n = omega (arith, within, long) in rw (at i here) here

-- a selection of all is well held
pub all_is_held : (n : ℕ) (positions : List ℕ) → n ≡ length positions → n < 2 ^ 32 → IsHeld true n positions
all_is_held n positions counted few = record {
  counted = counted ∙ sym (length-range_with_len 0 (length positions));
  few = subst (λ (k : ℕ). k < 2 ^ 32) counted few;
  selection = all_are_selection (length positions);
}

-- a front that is kept of a selection is well held
pub kept_is_held : (Answers : ℕ → Bool → Type 0) (is_all : Bool) (n count : ℕ) (old new : List ℕ) → IsHeld is_all n old
    → Keeps Answers (positions_of is_all n old).list (take count new) → count ≤ length new → length new ≡ length old → IsHeld false count new
kept_is_held Answers is_all n count old new held keeps within same = record {
  counted = long;
  few = subst (λ (k : ℕ). k < 2 ^ 32) (sym same) held.few;
  selection = subst (λ (k : ℕ). IsSelection (record { below = k; list = take count new })) (sym same)
      (kept_is_selection Answers (length old) (positions_of is_all n old).list (take count new) held.selection keeps);
} where
  long : count ≡ length (take count new)
  long = omega (arith, length-take count new, within)

pub held_within : (count : ℕ) (positions : List ℕ) → IsHeld false count positions → count ≤ length positions
held_within count positions held = omega (arith, held.counted, length-take count positions)

-- ---- masks

among_range : (a n p : ℕ) → a ≤ p → p < a + n → is_among (range_with_len a n) p ≡ true
among_range a zero p from below = absurd (omega (arith, from, below))
among_range a (suc n) p from below = elim (a == p) as (λ b. a == p ≡ b → b || is_among (range_with_len (a + 1) n) p ≡ true) [
  | true ↦ λ e. refl
  | false ↦ λ e. let apart : a ≡ p → ⊥ = eqb-false a p e in let later : a + 1 ≤ p = omega (arith, from, apart) in let within : p < (a + 1) + n = omega (arith, below) in among_range (a + 1) n p later within
] refl

-- all positions are among all
pub full_mask : (n : ℕ) (mask : List Bool) → mask ≡ replicate n true → IsMask (range_with_len 0 n) n mask
full_mask n mask all = record {
  long = ap length all ∙ length-replicate n true;
  reports = reports;
} where
  reports : (p : ℕ) → p < n → get_or mask p false ≡ is_among (range_with_len 0 n) p
  reports p below =
      let least : 0 ≤ p = omega arith in
      let within : p < 0 + n = omega (arith, below) in
      ap (λ (m : List Bool). get_or m p false) all ∙ get_or-replicate n p true false below ∙ sym (among_range 0 n p least within)

-- ---- a question whose answer is a function's

module _ (Answers : ℕ → Bool → Type 0) (f : ℕ → Bool) (n : ℕ) (is_answer : (p : ℕ) (a : Bool) → p < n → Answers p a → a ≡ f p) where
  filters : (ps : List ℕ) (as' : List Bool) → AllByRecursion (λ p. p < n) ps → AllZip Answers ps as' → answered_true ps as' ≡ filter f ps
  filters [] [] below asked = refl
  filters [] (a ∷ as') below asked = absurd asked
  filters (p ∷ ps) [] below asked = absurd asked
  filters (p ∷ ps) (true ∷ as') below asked = ap (λ (l : List ℕ). p ∷ l) (filters ps as' below.1 asked.1) ∙ ap (λ b. cond b (p ∷ filter f ps) (filter f ps)) (is_answer p true below.0 asked.0)
  filters (p ∷ ps) (false ∷ as') below asked = filters ps as' below.1 asked.1 ∙ ap (λ b. cond b (p ∷ filter f ps) (filter f ps)) (is_answer p false below.0 asked.0)

  -- what stays is what the function keeps
  pub keeps_filter : (old new : List ℕ) → All (λ p. p < n) old → Keeps Answers old new → new ≡ filter f old
  keeps_filter old new below keeps = keeps.kept ∙ filters old keeps.answers (recursion_from_All (λ p. p < n) old below) keeps.asked

-- positions are their length and their list
pub positions_are : (s : Positions) (n : ℕ) (list : List ℕ) → s.below ≡ n → s.list ≡ list → s ≡ record { below = n; list = list }
positions_are s n list below same = ap (λ (k : ℕ). record { below = k; list = s.list }) below ∙ ap (λ (l : List ℕ). record { below = n; list = l }) same

pub full_mask_if : {M E : Type 0} → (items : M → List Bool) (n : ℕ) (result : Result M E) → IfOk result (λ mask. items mask ≡ replicate n true) → IfOk result (λ mask. IsMask (range_with_len 0 n) n (items mask))
full_mask_if items n (Ok mask) all = full_mask n (items mask) all
full_mask_if items n (Err e) all = tt
