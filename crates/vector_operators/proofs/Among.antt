-- Positions among those that are selected.
use Rattle.std.specs.Prelude.{◌≡◌, ℕ, zero, suc, ◌<◌, ◌⊎◌, ◌==◌, Bool, true, false, cond, ◌||◌, List, [], ◌∷◌, length, filter, find, All, Some, None}
use Rattle.std.specs.List.{list_any, AllByRecursion}
use Rattle.std.specs.List.Sorted.{IsStrictlyIncreasing, IsStrictlySortedBy}
use Rattle.std.specs.Ordering.{nat_cmp}
use Rattle.std.specs.declared.cmp.Ordering.TheVariants.{Less}
use Rattle.std.proofs.Common.{refl, sym, ap, arith, ◌∙◌, subst, inl, inr}
use Rattle.std.proofs.lemmas.Map.Keys.{sorted_from_strictly_increasing}
use Rattle.std.proofs.lemmas.List.Elements.{recursion_from_All}
use Rattle.std.proofs.lemmas.Bool.{eqb-true}
use Rattle.meaning.proofs.Tests.{or_second}
use Rattle.vectors.specs.Selection.{is_among}
use Rattle.lane_loops.specs.Lanes.{is_flag, is_flagged}

pub or_cases : (a b : Bool) → (a || b) ≡ true → (a ≡ true) ⊎ (b ≡ true)
or_cases true b h = inl refl
or_cases false b h = inr h

-- what holds of each holds of one that is among them
pub all_among : (P : ℕ → Type 0) (xs : List ℕ) (i : ℕ) → AllByRecursion P xs → is_among xs i ≡ true → P i
all_among P [] i all among = absurd cc
all_among P (x ∷ xs) i all among = elim (or_cases (x == i) (is_among xs i) among) [
  | inl here ↦ subst P (eqb-true x i here) all.0
  | inr behind ↦ all_among P xs i all.1 behind
]

pub within_among : (n : ℕ) (xs : List ℕ) (i : ℕ) → All (λ p. p < n) xs → is_among xs i ≡ true → i < n
within_among n xs i all among = all_among (λ p. p < n) xs i (recursion_from_All (λ p. p < n) xs all) among

pub self_among : (x : ℕ) (xs : List ℕ) → is_among (x ∷ xs) x ≡ true
self_among x xs = grind arith

pub less_is : (x i : ℕ) → nat_cmp x i ≡ Less → x < i
less_is x i h = grind arith

-- ---- what is filtered

module _ (f : ℕ → Bool) where
  pub filter_stays : (xs : List ℕ) (i : ℕ) → is_among xs i ≡ true → f i ≡ true → is_among (filter f xs) i ≡ true
  filter_stays [] i among passes = among
  filter_stays (x ∷ xs) i among passes = elim (f x) as (λ b. f x ≡ b → is_among (cond b (x ∷ filter f xs) (filter f xs)) i ≡ true) [
    | true ↦ λ e. elim (or_cases (x == i) (is_among xs i) among) [
      | inl here ↦ ap (λ (b : Bool). b || is_among (filter f xs) i) here
      | inr behind ↦ or_second (x == i) _ (filter_stays xs i behind passes)
    ]
    | false ↦ λ e. elim (or_cases (x == i) (is_among xs i) among) [
      | inl here ↦ (let same : f x ≡ f i = ap f (eqb-true x i here) in absurd cc)
      | inr behind ↦ filter_stays xs i behind passes
    ]
  ] refl

  pub filter_stood : (xs : List ℕ) (i : ℕ) → is_among (filter f xs) i ≡ true → (is_among xs i ≡ true) × (f i ≡ true)
  filter_stood [] i among = absurd cc
  filter_stood (x ∷ xs) i among = elim (f x) as (λ b. f x ≡ b → is_among (cond b (x ∷ filter f xs) (filter f xs)) i ≡ true → (is_among (x ∷ xs) i ≡ true) × (f i ≡ true)) [
    | true ↦ λ e a. elim (or_cases (x == i) (is_among (filter f xs) i) a) [
      | inl here ↦ (ap (λ (b : Bool). b || is_among xs i) here, ap f (sym (eqb-true x i here)) ∙ e)
      | inr behind ↦ (let w = filter_stood xs i behind in (or_second (x == i) _ w.0, w.1))
    ]
    | false ↦ λ e a. (let w = filter_stood xs i a in (or_second (x == i) _ w.0, w.1))
  ] refl among

-- ---- the first that passes

module _ (test : ℕ → Bool) where
  pub find_passes : (xs : List ℕ) (q : ℕ) → find test xs ≡ Some q → (is_among xs q ≡ true) × (test q ≡ true)
  find_passes [] q found = absurd cc
  find_passes (x ∷ xs) q found = elim (test x) as (λ b. test x ≡ b → cond b (Some x) (find test xs) ≡ Some q → (is_among (x ∷ xs) q ≡ true) × (test q ≡ true)) [
    | true ↦ λ e s. (let same : x ≡ q = cc in (subst (λ (y : ℕ). is_among (x ∷ xs) y ≡ true) same (self_among x xs), ap test (sym same) ∙ e))
    | false ↦ λ e s. (let w = find_passes xs q s in (or_second (x == q) _ w.0, w.1))
  ] refl found

  pub none_passes : (xs : List ℕ) → find test xs ≡ None → (i : ℕ) → is_among xs i ≡ true → test i ≡ false
  none_passes [] none i among = absurd cc
  none_passes (x ∷ xs) none i among = elim (test x) as (λ b. test x ≡ b → cond b (Some x) (find test xs) ≡ None → test i ≡ false) [
    | true ↦ λ e s. absurd cc
    | false ↦ λ e s. elim (or_cases (x == i) (is_among xs i) among) [
      | inl here ↦ ap test (sym (eqb-true x i here)) ∙ e
      | inr behind ↦ none_passes xs s i behind
    ]
  ] refl none

  pub all_fail : (xs : List ℕ) → ((i : ℕ) → test i ≡ false) → find test xs ≡ None
  all_fail [] fails = refl
  all_fail (x ∷ xs) fails = ap (λ (b : Bool). cond b (Some x) (find test xs)) (fails x) ∙ all_fail xs fails

  before_sorted : (xs : List ℕ) (q : ℕ) → IsStrictlySortedBy nat_cmp xs → find test xs ≡ Some q → (i : ℕ) → is_among xs i ≡ true → i < q → test i ≡ false
  unfolding IsStrictlySortedBy
  before_sorted [] q sorted found i among less = absurd cc
  before_sorted (x ∷ xs) q sorted found i among less = elim (test x) as (λ b. test x ≡ b → cond b (Some x) (find test xs) ≡ Some q → test i ≡ false) [
    | true ↦ λ e s. (let same : x ≡ q = cc in elim (or_cases (x == i) (is_among xs i) among) [
      | inl here ↦ (let at : x ≡ i = eqb-true x i here in absurd (omega (arith, at, same, less)))
      | inr behind ↦ (let later : x < i = less_is x i (all_among (λ y. nat_cmp x y ≡ Less) xs i sorted.0 behind) in absurd (omega (arith, later, same, less)))
    ])
    | false ↦ λ e s. elim (or_cases (x == i) (is_among xs i) among) [
      | inl here ↦ ap test (sym (eqb-true x i here)) ∙ e
      | inr behind ↦ before_sorted xs q sorted.1 s i behind less
    ]
  ] refl found

  -- of ascending positions none before the first that passes does
  pub before_fails : (xs : List ℕ) (q : ℕ) → IsStrictlyIncreasing xs → find test xs ≡ Some q → (i : ℕ) → is_among xs i ≡ true → i < q → test i ≡ false
  before_fails xs q ascending = before_sorted xs q (sorted_from_strictly_increasing xs ascending)

-- ---- flags

pub flagged_within : (flags : List ℕ) (p : ℕ) → is_flagged flags p ≡ true → p < length flags
flagged_within [] p e = absurd cc
flagged_within (x ∷ xs) zero e = omega arith
flagged_within (x ∷ xs) (suc p) e = let w = flagged_within xs p e in omega (arith, w)

pub no_flags : (flags : List ℕ) → list_any is_flag flags ≡ false → (p : ℕ) → is_flagged flags p ≡ false
no_flags [] e p = refl
no_flags (x ∷ xs) e zero = elim (is_flag x) as (λ b. is_flag x ≡ b → (b || list_any is_flag xs) ≡ false → is_flag x ≡ false) [ true ↦ λ t f. absurd cc | false ↦ λ t f. t ] refl e
no_flags (x ∷ xs) e (suc p) = elim (is_flag x) as (λ b. (b || list_any is_flag xs) ≡ false → is_flagged xs p ≡ false) [ true ↦ λ f. absurd cc | false ↦ λ f. no_flags xs f p ] e
