-- Sets as lists: what is cut off before an element comes, the set of a list in order, and the order of a set.
use Rattle.std.proofs.Common.{◌≡◌, ℕ, zero, suc, Bool, true, false, cond, List, [], ◌∷◌, ◌++◌, map, take, refl, sym, ap, ◌∙◌}
use Rattle.std.specs.Prelude.{◌||◌, filter, All}
use Rattle.std.specs.Cmp.{IsTotalOrder, Equal-is}
use Rattle.std.specs.FinMap.{IsAntisymmetric}
use Rattle.std.specs.List.{AllByRecursion, dedup, dedup_from, list_any}
use Rattle.std.specs.Ordering.{eq_by_cmp, is_eq, is_lt, match_ordering, ordering_reverse}
use Rattle.std.specs.declared.cmp.Ordering.{Ordering}
use Rattle.std.specs.declared.cmp.Ordering.TheVariants.{Less, Equal, Greater}
use Rattle.std.proofs.lemmas.Cmp.{tied_itself}
use Rattle.std.proofs.lemmas.List.Elements.{All-from_recursion, recursion_from_All}
use Rattle.meaning.specs.Order.{ascending_set, inserted, inserted_once, is_ascending, sorted}
use Rattle.meaning.proofs.Sets.{any-ascending_set, ascending_set_itself, filter-ascending_set, is_ascending-ascending_set, same_ascending_set}
use Rattle.meaning.proofs.Tests.{both, first_of, list_any-append, or_turned, second_of}

module _ {X : Type 0} (cmp : X → X → Ordering) where
  -- what holds of all holds of the set
  all_inserted : (P : X → Type 0) (x : X) (ys : List X) → P x → AllByRecursion P ys → AllByRecursion P (inserted_once cmp x ys)
  all_inserted P x [] here all = (here, tt)
  all_inserted P x (y ∷ ys) here all =
      elim (cmp x y) as (λ r. AllByRecursion P (match_ordering r (x ∷ y ∷ ys) (y ∷ ys) (y ∷ inserted_once cmp x ys))) [
        | Less ↦ (here, all)
        | Equal ↦ all
        | Greater ↦ (all.0, all_inserted P x ys here all.1)
      ]

  pub all_by_recursion : (P : X → Type 0) (xs : List X) → AllByRecursion P xs → AllByRecursion P (ascending_set cmp xs)
  all_by_recursion P [] all = tt
  all_by_recursion P (x ∷ xs) all = all_inserted P x (ascending_set cmp xs) all.0 (all_by_recursion P xs all.1)

  pub all_of_set : (P : X → Type 0) (xs : List X) → All P xs → All P (ascending_set cmp xs)
  all_of_set P xs all = All-from_recursion P (ascending_set cmp xs) (all_by_recursion P xs (recursion_from_All P xs all))

  -- the first so many of an ascending list
  pub cut_ascends : (n : ℕ) (xs : List X) → is_ascending cmp xs ≡ true → is_ascending cmp (take n xs) ≡ true
  cut_ascends zero xs up = refl
  cut_ascends (suc n) [] up = refl
  cut_ascends (suc zero) (x ∷ xs) up = refl
  cut_ascends (suc (suc n)) (x ∷ []) up = refl
  cut_ascends (suc (suc n)) (x ∷ y ∷ ys) up =
      both _ _ (first_of (is_lt (cmp x y)) (is_ascending cmp (y ∷ ys)) up)
      (cut_ascends (suc n) (y ∷ ys) (second_of (is_lt (cmp x y)) (is_ascending cmp (y ∷ ys)) up))

module _ {X : Type 0} {cmp : X → X → Ordering} (o : IsTotalOrder cmp) (exact : IsAntisymmetric cmp) where
  pub set_turned : (xs ys : List X) → ascending_set cmp (xs ++ ys) ≡ ascending_set cmp (ys ++ xs)
  set_turned xs ys = same_ascending_set o exact (xs ++ ys) (ys ++ xs) (λ q.
      list_any-append (eq_by_cmp cmp q) xs ys
      ∙ or_turned (list_any (eq_by_cmp cmp q) xs) (list_any (eq_by_cmp cmp q) ys)
      ∙ sym (list_any-append (eq_by_cmp cmp q) ys xs))

  -- ---- a set in order

  -- where an element isn't there, it is put where it belongs
  put_alike : (x : X) (ys : List X) → list_any (eq_by_cmp cmp x) ys ≡ false → inserted cmp x ys ≡ inserted_once cmp x ys
  put_alike x [] none = refl
  put_alike x (y ∷ ys) none =
      elim (cmp x y) as
      (λ r. cmp x y ≡ r → (is_eq r || list_any (eq_by_cmp cmp x) ys) ≡ false
      → cond (is_lt (cmp y x)) (y ∷ inserted cmp x ys) (x ∷ y ∷ ys) ≡ match_ordering r (x ∷ y ∷ ys) (y ∷ ys) (y ∷ inserted_once cmp x ys)) [
        | Less ↦ λ is none. ap (λ r. cond (is_lt r) (y ∷ inserted cmp x ys) (x ∷ y ∷ ys)) (behind is)
        | Equal ↦ λ is none. cc
        | Greater ↦ λ is none. ap (λ r. cond (is_lt r) (y ∷ inserted cmp x ys) (x ∷ y ∷ ys)) (before is) ∙ ap (λ zs. y ∷ zs) (put_alike x ys none)
      ] refl none
    where
      behind : cmp x y ≡ Less → cmp y x ≡ Greater
      behind is = o.antisymm y x ∙ ap ordering_reverse is

      before : cmp x y ≡ Greater → cmp y x ≡ Less
      before is = o.antisymm y x ∙ ap ordering_reverse is

-- ---- sets under two orders

both_ways : (s t : Bool) → (s ≡ true → t ≡ true) → (t ≡ true → s ≡ true) → s ≡ t
both_ways true t f g = sym (f refl)
both_ways false true f g = g refl
both_ways false false f g = refl

none_left : {X : Type 0} (p : X → Bool) (xs : List X) → filter p xs ≡ [] → list_any p xs ≡ false
none_left p [] e = refl
none_left p (x ∷ xs) e =
    elim (p x) as (λ b. cond b (x ∷ filter p xs) (filter p xs) ≡ [] → (b || list_any p xs) ≡ false) [
      | true ↦ λ e. cc
      | false ↦ λ e. none_left p xs e
    ] e

module _ {X : Type 0} {cmp base : X → X → Ordering} (o : IsTotalOrder cmp) (exact : IsAntisymmetric cmp) (ob : IsTotalOrder base) (exactb : IsAntisymmetric base) where
  tie_same : (q x : X) → eq_by_cmp cmp q x ≡ eq_by_cmp base q x
  tie_same q x = both_ways (eq_by_cmp cmp q x) (eq_by_cmp base q x)
      (λ e. ap (λ y. is_eq (base q y)) (sym (exact q x ((Equal-is (cmp q x)).0 e))) ∙ ap is_eq (tied_itself ob q))
      (λ e. ap (λ y. is_eq (cmp q y)) (sym (exactb q x ((Equal-is (base q x)).0 e))) ∙ ap is_eq (tied_itself o q))

  any_same : (q : X) (xs : List X) → list_any (eq_by_cmp cmp q) xs ≡ list_any (eq_by_cmp base q) xs
  any_same q [] = refl
  any_same q (x ∷ xs) = (λ i. tie_same q x i || any_same q xs i)

  ascends_behind : (x : X) (xs : List X) → is_ascending base (x ∷ xs) ≡ true → is_ascending base xs ≡ true
  ascends_behind x [] up = refl
  ascends_behind x (y ∷ ys) up = second_of (is_lt (base x y)) (is_ascending base (y ∷ ys)) up

  -- the first of an ascending list doesn't stand behind it again
  apart : (x : X) (xs : List X) → is_ascending base (x ∷ xs) ≡ true → list_any (eq_by_cmp base x) xs ≡ false
  apart x xs up = none_left (eq_by_cmp base x) xs none
    where
      tied : eq_by_cmp base x x ≡ true
      tied = ap is_eq (tied_itself ob x)

      left : x ∷ filter (eq_by_cmp base x) xs ≡ x ∷ []
      left =
          ap (λ b. cond b (x ∷ filter (eq_by_cmp base x) xs) (filter (eq_by_cmp base x) xs)) (sym tied)
          ∙ ap (filter (eq_by_cmp base x)) (sym (ascending_set_itself ob (x ∷ xs) up))
          ∙ filter-ascending_set ob exactb x (x ∷ xs)
          ∙ ap (λ b. cond (b || list_any (eq_by_cmp base x) xs) (x ∷ []) []) tied

      none : filter (eq_by_cmp base x) xs ≡ []
      none = let e = left in cc

  sorted_alike : (xs : List X) → is_ascending base xs ≡ true → sorted cmp xs ≡ ascending_set cmp xs
  sorted_alike [] up = refl
  sorted_alike (x ∷ xs) up =
      ap (inserted cmp x) (sorted_alike xs (ascends_behind x xs up))
      ∙ put_alike o exact x (ascending_set cmp xs) (any-ascending_set o x xs ∙ any_same x xs ∙ apart x xs up)

  -- a set of one order, sorted by another, is the set of the other
  pub sorted_set : (xs : List X) → sorted cmp (ascending_set base xs) ≡ ascending_set cmp xs
  sorted_set xs =
      sorted_alike (ascending_set base xs) (is_ascending-ascending_set ob xs)
      ∙ same_ascending_set o exact (ascending_set base xs) xs (λ q. any_same q (ascending_set base xs) ∙ any-ascending_set ob q xs ∙ sym (any_same q xs))

-- ---- neighbours at positions

module _ {P X : Type 0} (f : P → X) (same : X → X → Bool) where
  map-dedup_from : (k : P) (ps : List P) → map f (dedup_from (λ p q. same (f p) (f q)) k ps) ≡ dedup_from same (f k) (map f ps)
  map-dedup_from k [] = refl
  map-dedup_from k (p ∷ ps) =
      elim (same (f p) (f k)) as
      (λ b. map f (cond b (dedup_from (λ p q. same (f p) (f q)) k ps) (k ∷ dedup_from (λ p q. same (f p) (f q)) p ps)) ≡ cond b (dedup_from same (f k) (map f ps)) (f k ∷ dedup_from same (f p) (map f ps))) [
        | true ↦ map-dedup_from k ps
        | false ↦ ap (λ xs. f k ∷ xs) (map-dedup_from p ps)
      ]

  pub map-dedup : (ps : List P) → map f (dedup (λ p q. same (f p) (f q)) ps) ≡ dedup same (map f ps)
  map-dedup [] = refl
  map-dedup (p ∷ ps) = map-dedup_from p ps
