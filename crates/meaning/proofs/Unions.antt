-- The union of two sets: what it contains, how long it is, and its laws.
use Rattle.std.specs.Prelude.{◌≡◌, ℕ, suc, ◌+◌, ◌≤◌, Bool, true, false, ◌||◌, List, [], ◌∷◌, ◌++◌, length}
use Rattle.std.specs.List.{list_all, list_any}
use Rattle.std.specs.FinMap.{IsAntisymmetric}
use Rattle.std.specs.Cmp.{IsTotalOrder}
use Rattle.std.specs.Ordering.{eq_by_cmp, match_ordering}
use Rattle.std.specs.declared.cmp.Ordering.{Ordering}
use Rattle.std.specs.declared.cmp.Ordering.TheVariants.{Less, Equal, Greater}
use Rattle.std.proofs.Common.{refl, sym, ap, ◌∙◌, arith, length-append}
use Rattle.std.proofs.lemmas.List.{append-nil}
use Rattle.meaning.specs.Order.{inserted_once, ascending_set, union}
use Rattle.meaning.proofs.Sets.{any-ascending_set, same_ascending_set, ascending_set_itself, is_ascending-ascending_set}
use Rattle.meaning.proofs.Tests.{all_append, all_set, or_turned, list_any-append}

or_together : (a b c : Bool) → ((a || b) || c) ≡ (a || (b || c))
or_together true b c = refl
or_together false b c = refl

module _ {X : Type 0} (cmp : X → X → Ordering) where
  few_inserted : (x : X) (ys : List X) → length (inserted_once cmp x ys) ≤ suc (length ys)
  few_inserted x [] = omega arith
  few_inserted x (y ∷ ys) =
      let rest = few_inserted x ys in
      elim (cmp x y) as (λ r. length (match_ordering r (x ∷ y ∷ ys) (y ∷ ys) (y ∷ inserted_once cmp x ys)) ≤ suc
      (suc (length ys))) [ Less ↦ omega arith | Equal ↦ omega arith | Greater ↦ omega arith ]

  -- a set has no more elements than its list
  pub few_in_set : (xs : List X) → length (ascending_set cmp xs) ≤ length xs
  few_in_set [] = omega arith
  few_in_set (x ∷ xs) =
      let rest = few_in_set xs in
      let here = few_inserted x (ascending_set cmp xs) in
      omega arith

  -- a union has no more elements than both
  pub few_in_union : (xs ys : List X) → length (union cmp xs ys) ≤ length xs + length ys
  few_in_union [] ys = omega arith
  few_in_union (x ∷ xs) [] = omega arith
  few_in_union (x ∷ xs) (y ∷ ys) =
      let few = few_in_set ((x ∷ xs) ++ (y ∷ ys)) in
      let both = length-append (x ∷ xs) (y ∷ ys) in
      omega arith

  -- what all elements of both are
  pub all_union : (p : X → Bool) (xs ys : List X) → list_all p xs ≡ true → list_all p ys
      ≡ true → list_all p (union cmp xs ys) ≡ true
  all_union p [] ys a b = b
  all_union p (x ∷ xs) [] a b = a
  all_union p (x ∷ xs) (y ∷ ys) a b = all_set cmp p ((x ∷ xs) ++ (y ∷ ys)) (all_append p (x ∷ xs) (y ∷ ys) a b)

module _ {X : Type 0} {cmp : X → X → Ordering} (o : IsTotalOrder cmp) (exact : IsAntisymmetric cmp) where
  has : X → List X → Bool
  has q xs = list_any (eq_by_cmp cmp q) xs

  abbrev set : List X → List X
  set xs = ascending_set cmp xs

  abbrev Some' : List X → Type 0
  Some' xs = (x : X) × (rest : List X) × (xs ≡ x ∷ rest)

  inserted_some : (x : X) (ys : List X) → Some' (inserted_once cmp x ys)
  inserted_some x [] = (x, [], refl)
  inserted_some x (y ∷ ys) =
      elim (cmp x y) as (λ r. Some' (match_ordering r (x ∷ y ∷ ys) (y ∷ ys) (y ∷ inserted_once cmp x ys))) [
        | Less ↦ (x, y ∷ ys, refl)
        | Equal ↦ (y, ys, refl)
        | Greater ↦ (y, inserted_once cmp x ys, refl)
      ]

  same_sets : (xs ys : List X) → ((q : X) → list_any (eq_by_cmp cmp q) xs ≡ list_any (eq_by_cmp cmp q) ys) → set xs
      ≡ set ys
  same_sets = same_ascending_set o exact

  -- the set of a set beside a list, on either side
  set_left : (xs ys : List X) → set (set xs ++ ys) ≡ set (xs ++ ys)
  set_left xs ys = same_sets (set xs ++ ys) (xs ++ ys) (λ q.
      list_any-append (eq_by_cmp cmp q) (set xs) ys
      ∙ ap (λ b. b || list_any (eq_by_cmp cmp q) ys) (any-ascending_set o q xs)
      ∙ sym (list_any-append (eq_by_cmp cmp q) xs ys))

  set_right : (xs ys : List X) → set (xs ++ set ys) ≡ set (xs ++ ys)
  set_right xs ys = same_sets (xs ++ set ys) (xs ++ ys) (λ q.
      list_any-append (eq_by_cmp cmp q) xs (set ys)
      ∙ ap (λ b. list_any (eq_by_cmp cmp q) xs || b) (any-ascending_set o q ys)
      ∙ sym (list_any-append (eq_by_cmp cmp q) xs ys))

  set_turned : (xs ys : List X) → set (xs ++ ys) ≡ set (ys ++ xs)
  set_turned xs ys = same_sets (xs ++ ys) (ys ++ xs) (λ q.
      list_any-append (eq_by_cmp cmp q) xs ys
      ∙ or_turned (list_any (eq_by_cmp cmp q) xs) (list_any (eq_by_cmp cmp q) ys)
      ∙ sym (list_any-append (eq_by_cmp cmp q) ys xs))

  set_together : (xs ys zs : List X) → set ((xs ++ ys) ++ zs) ≡ set (xs ++ (ys ++ zs))
  set_together xs ys zs = same_sets ((xs ++ ys) ++ zs) (xs ++ (ys ++ zs)) (λ q.
      let has_q = eq_by_cmp cmp q in
      list_any-append has_q (xs ++ ys) zs ∙ ap (λ b. b || list_any has_q zs) (list_any-append has_q xs ys)
      ∙ or_together (list_any has_q xs) (list_any has_q ys) (list_any has_q zs)
      ∙ ap (λ b. list_any has_q xs || b) (sym (list_any-append has_q ys zs))
      ∙ sym (list_any-append has_q xs (ys ++ zs)))

  set_again : (xs : List X) → set (set xs) ≡ set xs
  set_again xs = ascending_set_itself o (set xs) (is_ascending-ascending_set o xs)

  -- a union of two that have elements is the set of both
  union_some : (xs ys : List X) → Some' xs → Some' ys → union cmp xs ys ≡ set (xs ++ ys)
  union_some [] ys (x, rest, e) other = cc
  union_some (x ∷ xs) [] some (y, rest, e) = cc
  union_some (x ∷ xs) (y ∷ ys) some other = refl

  pub union-comm : (xs ys : List X) → union cmp xs ys ≡ union cmp ys xs
  union-comm [] [] = refl
  union-comm [] (y ∷ ys) = refl
  union-comm (x ∷ xs) [] = refl
  union-comm (x ∷ xs) (y ∷ ys) = set_turned (x ∷ xs) (y ∷ ys)

  pub union-assoc : (xs ys zs : List X) → union cmp (union cmp xs ys) zs ≡ union cmp xs (union cmp ys zs)
  union-assoc [] ys zs = refl
  union-assoc (x ∷ xs) [] zs = refl
  union-assoc (x ∷ xs) (y ∷ ys) [] = union_none (set ((x ∷ xs) ++ (y ∷ ys)))
    where
      union_none : (xs : List X) → union cmp xs [] ≡ xs
      union_none [] = refl
      union_none (x ∷ xs) = refl
  union-assoc (x ∷ xs) (y ∷ ys) (z ∷ zs) =
      union_some (set ((x ∷ xs) ++ (y ∷ ys))) (z ∷ zs) (inserted_some x (set (xs ++ (y ∷ ys)))) (z, zs, refl)
      ∙ set_left ((x ∷ xs) ++ (y ∷ ys)) (z ∷ zs) ∙ set_together (x ∷ xs) (y ∷ ys) (z ∷ zs)
      ∙ sym (set_right (x ∷ xs) ((y ∷ ys) ++ (z ∷ zs)))
      ∙ sym (union_some (x ∷ xs) (set ((y ∷ ys) ++ (z ∷ zs))) (x, xs, refl) (inserted_some y (set (ys ++ (z ∷ zs)))))

  pub union_none : (xs : List X) → union cmp xs [] ≡ xs
  union_none [] = refl
  union_none (x ∷ xs) = refl

  -- the set of two lists together
  pub set-append : (xs ys : List X) → set (xs ++ ys) ≡ union cmp (set xs) (set ys)
  set-append [] ys = refl
  set-append (x ∷ xs) [] = ap set (append-nil (x ∷ xs)) ∙ sym (union_none (set (x ∷ xs)))
  set-append (x ∷ xs) (y ∷ ys) =
      sym (union_some (set (x ∷ xs)) (set (y ∷ ys)) (inserted_some x (set xs)) (inserted_some y (set ys))
      ∙ set_left (x ∷ xs) (set (y ∷ ys)) ∙ set_right (x ∷ xs) (y ∷ ys))
