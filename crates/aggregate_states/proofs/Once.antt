-- A list that was put in order, each element once, is the set of its elements.
use Rattle.std.specs.Prelude.{◌≡◌, ℕ, zero, suc, ◌≤◌, Bool, true, false, cond, ◌||◌, List, [], ◌∷◌, ◌++◌, drop, length, IsPermutation, IsSorted}
use Rattle.std.specs.List.{list_any, list_all, dedup, dedup_from}
use Rattle.std.specs.List.Sorted.{IsStrictlySortedBy}
use Rattle.std.specs.Cmp.{IsTotalOrder, Equal-is}
use Rattle.std.specs.FinMap.{IsAntisymmetric}
use Rattle.std.specs.declared.cmp.Ordering.{Ordering}
use Rattle.std.specs.Ordering.{eq_by_cmp, is_lt}
use Rattle.std.proofs.Common.{refl, sym, ap, ◌∙◌, arith}
use Rattle.std.proofs.lemmas.List.Kept.{IsStrictlySortedBy-dedup}
use Rattle.std.proofs.lemmas.List.Sorted.{list_any-IsPermutation}
use Rattle.meaning.specs.declared.value.Value.{Value}
use Rattle.meaning.specs.Order.{value_cmp, ascending_set, is_ascending, union}
use Rattle.meaning.proofs.Sets.{ascending_set_itself, same_ascending_set}
use Rattle.meaning.proofs.Tests.{both, all_append, all_set}
use Rattle.aggregate_states.specs.Values.{is_spelled}

module _ {X : Type 0} {cmp : X → X → Ordering} (o : IsTotalOrder cmp) (exact : IsAntisymmetric cmp) where
  twice : (q x k : X) (b : Bool) → eq_by_cmp cmp x k ≡ true → (eq_by_cmp cmp q k || b) ≡ (eq_by_cmp cmp q k || (eq_by_cmp cmp q x || b))
  twice q x k b tie =
      let is : x ≡ k = exact x k ((Equal-is (cmp x k)).0 tie) in
      again (eq_by_cmp cmp q k) b ∙ ap (λ v. eq_by_cmp cmp q k || (eq_by_cmp cmp q v || b)) (sym is)
    where
      again : (a b : Bool) → (a || b) ≡ (a || (a || b))
      again true b = refl
      again false b = refl

  any-dedup_from : (q k : X) (xs : List X) → list_any (eq_by_cmp cmp q) (dedup_from (eq_by_cmp cmp) k xs) ≡ (eq_by_cmp cmp q k || list_any (eq_by_cmp cmp q) xs)
  any-dedup_from q k [] = refl
  any-dedup_from q k (x ∷ xs) =
      elim (eq_by_cmp cmp x k) as
      (λ b. eq_by_cmp cmp x k ≡ b → list_any (eq_by_cmp cmp q) (cond b (dedup_from (eq_by_cmp cmp) k xs) (k ∷ dedup_from (eq_by_cmp cmp) x xs))
      ≡ (eq_by_cmp cmp q k || (eq_by_cmp cmp q x || list_any (eq_by_cmp cmp q) xs))) [
        | true ↦ λ tie. any-dedup_from q k xs ∙ twice q x k (list_any (eq_by_cmp cmp q) xs) tie
        | false ↦ λ apart. ap (λ b. eq_by_cmp cmp q k || b) (any-dedup_from q x xs)
      ] refl

  any-dedup : (q : X) (xs : List X) → list_any (eq_by_cmp cmp q) (dedup (eq_by_cmp cmp) xs) ≡ list_any (eq_by_cmp cmp q) xs
  any-dedup q [] = refl
  any-dedup q (x ∷ xs) = any-dedup_from q x xs

  strictly : (xs : List X) → IsStrictlySortedBy cmp xs → is_ascending cmp xs ≡ true
  unfolding IsStrictlySortedBy
  strictly [] up = refl
  strictly (x ∷ []) up = refl
  strictly (x ∷ y ∷ ys) up = both _ _ (ap is_lt up.0.0) (strictly (y ∷ ys) up.1)

  -- what is left of a list in order where equal neighbours stand once
  pub set_once : (xs ys zs : List X) → IsPermutation xs ys → IsSorted cmp ys → zs ≡ dedup (eq_by_cmp cmp) ys → zs ≡ ascending_set cmp xs
  set_once xs ys zs moved up is =
      is
      ∙ sym (ascending_set_itself o (dedup (eq_by_cmp cmp) ys) (strictly (dedup (eq_by_cmp cmp) ys) (IsStrictlySortedBy-dedup o (λ x y. refl) ys up)))
      ∙ same_ascending_set o exact (dedup (eq_by_cmp cmp) ys) xs (λ q. any-dedup q ys ∙ sym (list_any-IsPermutation (eq_by_cmp cmp q) xs ys moved))

-- the last value, and what is behind it, ascends
pub ascends_end : (values : List Value) (i : ℕ) → length values ≤ suc i → is_ascending value_cmp (drop i values) ≡ true
ascends_end [] zero le = refl
ascends_end [] (suc i) le = refl
ascends_end (v ∷ []) zero le = refl
ascends_end (v ∷ w ∷ values) zero le = absurd (omega arith)
ascends_end (v ∷ values) (suc i) le = ascends_end values i (omega arith)

-- texts that are UTF-8 stay so
pub union_spelled : (xs ys : List Value) → list_all is_spelled xs ≡ true → list_all is_spelled ys ≡ true → list_all is_spelled (union value_cmp xs ys) ≡ true
union_spelled [] ys a b = b
union_spelled (x ∷ xs) [] a b = a
union_spelled (x ∷ xs) (y ∷ ys) a b = all_set value_cmp is_spelled ((x ∷ xs) ++ (y ∷ ys)) (all_append is_spelled (x ∷ xs) (y ∷ ys) a b)
