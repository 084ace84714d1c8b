-- Tests, and tests of all elements of a list, taken apart and put together.
use Rattle.std.specs.Prelude.{◌≡◌, Bool, true, false, cond, not, ◌&&◌, ◌||◌, List, [], ◌∷◌, ◌++◌, map, filter, flat_map}
use Rattle.std.specs.List.{list_all, list_any}
use Rattle.std.specs.Ordering.{match_ordering}
use Rattle.std.specs.declared.cmp.Ordering.{Ordering}
use Rattle.std.specs.declared.cmp.Ordering.TheVariants.{Less, Equal, Greater}
use Rattle.std.proofs.Common.{refl, ◌∙◌}
use Rattle.std.proofs.lemmas.List.Folds.{list_all-append}
use Rattle.meaning.specs.Order.{inserted_once, ascending_set}

pub first_of : (a b : Bool) → (a && b) ≡ true → a ≡ true
first_of true b e = refl
first_of false b e = e

pub second_of : (a b : Bool) → (a && b) ≡ true → b ≡ true
second_of true b e = e
second_of false b e = cc

pub both : (a b : Bool) → a ≡ true → b ≡ true → (a && b) ≡ true
both true b p q = q
both false b p q = p

pub or_first : (a b : Bool) → a ≡ true → (a || b) ≡ true
or_first true b e = refl
or_first false b e = cc

pub or_second : (a b : Bool) → b ≡ true → (a || b) ≡ true
or_second true b e = refl
or_second false b e = e

pub or_other : (a b : Bool) → (a || b) ≡ true → a ≡ false → b ≡ true
or_other true b e f = cc
or_other false b e f = e

pub or_true : (b : Bool) → (b || true) ≡ true
or_true true = refl
or_true false = refl

pub or_false : (b : Bool) → (b || false) ≡ b
or_false true = refl
or_false false = refl

pub or_turned : (a b : Bool) → (a || b) ≡ (b || a)
or_turned true true = refl
or_turned true false = refl
or_turned false true = refl
or_turned false false = refl

pub and_true : (b : Bool) → (b && true) ≡ b
and_true true = refl
and_true false = refl

pub and_false : (b : Bool) → (b && false) ≡ false
and_false true = refl
and_false false = refl

pub not_true : (b : Bool) → not b ≡ true → b ≡ false
not_true true e = cc
not_true false e = refl

module _ {X : Type 0} where
  pub all_first : (p : X → Bool) (x : X) (xs : List X) → list_all p (x ∷ xs) ≡ true → p x ≡ true
  all_first p x xs e = first_of (p x) (list_all p xs) e

  pub all_rest : (p : X → Bool) (x : X) (xs : List X) → list_all p (x ∷ xs) ≡ true → list_all p xs ≡ true
  all_rest p x xs e = second_of (p x) (list_all p xs) e

  pub all_append : (p : X → Bool) (xs ys : List X) → list_all p xs ≡ true → list_all p ys
      ≡ true → list_all p (xs ++ ys) ≡ true
  all_append p xs ys a b = list_all-append p xs ys ∙ both _ _ a b

  -- what follows from a test
  pub all_imply : (p q : X → Bool) → ((x : X) → p x ≡ true → q x ≡ true) → (xs : List X) → list_all p xs
      ≡ true → list_all q xs ≡ true
  all_imply p q f [] e = refl
  all_imply p q f (x ∷ xs) e = both _ _ (f x (all_first p x xs e)) (all_imply p q f xs (all_rest p x xs e))

  pub all_always : (p : X → Bool) → ((x : X) → p x ≡ true) → (xs : List X) → list_all p xs ≡ true
  all_always p f [] = refl
  all_always p f (x ∷ xs) = both _ _ (f x) (all_always p f xs)

  -- a part that passes a further test
  pub all_filter : (p q : X → Bool) (xs : List X) → list_all p xs ≡ true → list_all p (filter q xs) ≡ true
  all_filter p q [] e = refl
  all_filter p q (x ∷ xs) e =
      elim (q x) as (λ b. list_all p (cond b (x ∷ filter q xs) (filter q xs)) ≡ true) [
        | true ↦ both _ _ (all_first p x xs e) (all_filter p q xs (all_rest p x xs e))
        | false ↦ all_filter p q xs (all_rest p x xs e)
      ]

  -- a set has its list's elements alone
  all_inserted : (cmp : X → X → Ordering) (p : X → Bool) (x : X) (ys : List X) → p x ≡ true → list_all p ys
      ≡ true → list_all p (inserted_once cmp x ys) ≡ true
  all_inserted cmp p x [] a e = both _ _ a refl
  all_inserted cmp p x (y ∷ ys) a e =
      elim (cmp x y) as (λ r. list_all p (match_ordering r (x ∷ y ∷ ys) (y ∷ ys) (y ∷ inserted_once cmp x ys)) ≡ true) [
        | Less ↦ both _ _ a e
        | Equal ↦ e
        | Greater ↦ both _ _ (all_first p y ys e) (all_inserted cmp p x ys a (all_rest p y ys e))
      ]

  pub all_set : (cmp : X → X → Ordering) (p : X → Bool) (xs : List X) → list_all p xs
      ≡ true → list_all p (ascending_set cmp xs) ≡ true
  all_set cmp p [] e = refl
  all_set cmp p (x ∷ xs) e = all_inserted cmp p x (ascending_set cmp xs) (all_first p x xs e)
      (all_set cmp p xs (all_rest p x xs e))

module _ {X Y : Type 0} where
  pub all_map : (p : Y → Bool) (f : X → Y) (xs : List X) → list_all (λ x. p (f x)) xs ≡ true → list_all p (map f xs)
      ≡ true
  all_map p f [] e = refl
  all_map p f (x ∷ xs) e = both _ _ (all_first (λ x. p (f x)) x xs e) (all_map p f xs (all_rest (λ x. p (f x)) x xs e))

  pub all_flat_map : (p : Y → Bool) (f : X → List Y) (xs : List X) → list_all (λ x. list_all p (f x)) xs
      ≡ true → list_all p (flat_map f xs) ≡ true
  all_flat_map p f [] e = refl
  all_flat_map p f (x ∷ xs) e = all_append p (f x) (flat_map f xs) (all_first (λ x. list_all p (f x)) x xs e)
      (all_flat_map p f xs (all_rest (λ x. list_all p (f x)) x xs e))

  -- the tests of each pair, the other way round
  heads : (t : X → Y → Bool) (y : Y) (ys : List Y) (xs : List X) → list_all (λ x. list_all (t x) (y ∷ ys)) xs
      ≡ true → list_all (λ x. t x y) xs ≡ true
  heads t y ys xs e = all_imply (λ x. list_all (t x) (y ∷ ys)) (λ x. t x y) (λ x. all_first (t x) y ys) xs e

  tails : (t : X → Y → Bool) (y : Y) (ys : List Y) (xs : List X) → list_all (λ x. list_all (t x) (y ∷ ys)) xs
      ≡ true → list_all (λ x. list_all (t x) ys) xs ≡ true
  tails t y ys xs e = all_imply (λ x. list_all (t x) (y ∷ ys)) (λ x. list_all (t x) ys) (λ x. all_rest (t x) y ys) xs e

  pub all_turned : (t : X → Y → Bool) (xs : List X) (ys : List Y) → list_all (λ x. list_all (t x) ys) xs
      ≡ true → list_all (λ y. list_all (λ x. t x y) xs) ys ≡ true
  all_turned t xs [] e = refl
  all_turned t xs (y ∷ ys) e = both _ _ (heads t y ys xs e) (all_turned t xs ys (tails t y ys xs e))

pub list_any-append : {X : Type 0} (p : X → Bool) (xs ys : List X) → list_any p (xs ++ ys)
    ≡ (list_any p xs || list_any p ys)
list_any-append p [] ys = refl
list_any-append p (x ∷ xs) ys =
    elim (p x) as (λ b. (b || list_any p (xs ++ ys))
    ≡ ((b || list_any p xs) || list_any p ys)) [ true ↦ refl | false ↦ list_any-append p xs ys ]
