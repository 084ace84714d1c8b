-- Runs that are put in order: their rows are those of before in order.
use Rattle.std.specs.Prelude.{◌≡◌, ℕ, zero, suc, ◌+◌, ◌<◌, Bool, false, List, [], ◌∷◌, ◌++◌, length, get_or, set, replicate, IsPermutation, IsSorted}
use Rattle.std.specs.List.{AllByRecursion, swap}
use Rattle.std.specs.List.Sorted.{IsSortedBy}
use Rattle.std.specs.Cmp.{IsTotalOrder}
use Rattle.std.specs.Ordering.{is_lt}
use Rattle.std.specs.declared.cmp.Ordering.{Ordering}
use Rattle.std.proofs.Common.{sym, ap, subst, ◌∙◌, arith, append_assoc}
use Rattle.std.proofs.lemmas.Cmp.{tied_itself}
use Rattle.std.proofs.lemmas.List.Sorted.{IsPermutation-refl, IsPermutation-trans, IsPermutation-append_left, IsPermutation-append_right, IsPermutation-append_comm, IsPermutation-keeps, sorted_far, ranks_by}
use Rattle.meaning.specs.declared.plan.OrderKey.{OrderKey}
use Rattle.meaning.specs.Order.{Row, sorted}
use Rattle.meaning.specs.Finish.{order_cmp}
use Rattle.meaning.proofs.Orders.{order_total, order_exact}
use Rattle.meaning.proofs.Sorting.{sorted_is}
use Rattle.last_step.specs.declared.run.Run.{Run}
use Rattle.last_step.specs.Runs.{expanded, repeats}

-- ---- the same rows

exchanged : {X : Type 0} (xs ys zs : List X) → IsPermutation (xs ++ (ys ++ zs)) (ys ++ (xs ++ zs))
exchanged {X = X} xs ys zs =
    subst (λ (l : List X). IsPermutation l (ys ++ (xs ++ zs))) (append_assoc xs ys zs)
    (subst (λ (l : List X). IsPermutation ((xs ++ ys) ++ zs) l) (append_assoc ys xs zs)
    (IsPermutation-append_left zs (xs ++ ys) (ys ++ xs) (IsPermutation-append_comm xs ys)))

replaced : (l : List Run) (j : ℕ) (x d : Run) → j < length l → IsPermutation (repeats x ++ expanded l) (repeats (get_or l j d) ++ expanded (set l j x))
replaced [] j x d below = absurd (omega (arith, below))
replaced (y ∷ l) zero x d below = exchanged (repeats x) (repeats y) (expanded l)
replaced (z ∷ l) (suc j) x d below =
    IsPermutation-trans _ _ _ (exchanged (repeats x) (repeats z) (expanded l))
    (IsPermutation-trans _ _ _ (IsPermutation-append_right (repeats z) _ _ (replaced l j x d (omega (arith, below))))
    (exchanged (repeats z) (repeats (get_or l j d)) (expanded (set l j x))))

swapped : (l : List Run) (d : Run) (i j : ℕ) → i < length l → j < length l → IsPermutation (expanded l) (expanded (set (set l i (get_or l j d)) j (get_or l i d)))
swapped [] d i j low high = absurd (omega (arith, low))
swapped (x ∷ l) d zero zero low high = IsPermutation-refl (expanded (x ∷ l))
swapped (x ∷ l) d zero (suc j) low high = replaced l j x d (omega (arith, high))
swapped (x ∷ l) d (suc i) zero low high = replaced l i x d (omega (arith, low))
swapped (x ∷ l) d (suc i) (suc j) low high = IsPermutation-append_right (repeats x) _ _ (swapped l d i j (omega (arith, low)) (omega (arith, high)))

one_swap : (l : List Run) (i j : ℕ) → i < length l → j < length l → IsPermutation (expanded l) (expanded (swap l i j))
one_swap [] i j low high = absurd (omega (arith, low))
one_swap (d ∷ l) i j low high = swapped (d ∷ l) d i j low high

same_rows : (old new : List Run) → IsPermutation old new → IsPermutation (expanded old) (expanded new)
same_rows old new moved =
    IsPermutation-keeps old (λ (l : List Run). IsPermutation (expanded old) (expanded l)) (IsPermutation-refl (expanded old))
    (λ l i j low high so_far. IsPermutation-trans _ _ _ so_far (one_swap l i j low high)) new moved

-- ---- in order

module _ {cmp : Row → Row → Ordering} (o : IsTotalOrder cmp) where
  -- none of them comes before the row
  abbrev AreBehind : Row → List Row → Type 0
  AreBehind x ys = AllByRecursion (λ y. is_lt (cmp y x) ≡ false) ys

  abbrev Rises : List Row → Type 0
  Rises [] = Unit {0}
  Rises (x ∷ xs) = AreBehind x xs × Rises xs

  abbrev AreRunsBehind : Row → List Run → Type 0
  AreRunsBehind x rs = AllByRecursion (λ r. is_lt (cmp r.row x) ≡ false) rs

  abbrev RunsRise : List Run → Type 0
  RunsRise [] = Unit {0}
  RunsRise (r ∷ rs) = AreRunsBehind r.row rs × RunsRise rs

  rises_sorted : (xs : List Row) → Rises xs → IsSorted cmp xs
  rises_sorted [] up k d low high = absurd (omega (arith, high))
  rises_sorted (x ∷ []) up k d low high = absurd (omega (arith, high))
  rises_sorted (x ∷ y ∷ ys) up zero d low high = up.0.0
  rises_sorted (x ∷ y ∷ ys) up (suc k) d low high =
      let later : suc k + 1 ≡ suc (k + 1) = omega arith in
      ap (λ n. is_lt (cmp (get_or (x ∷ y ∷ ys) n d) (get_or (y ∷ ys) k d))) later
      ∙ rises_sorted (y ∷ ys) up.1 k d (omega arith) (omega (arith, high))

  all_repeats : (x : Row) (n : ℕ) (y : Row) (ys : List Row) → is_lt (cmp y x) ≡ false → AreBehind x ys → AreBehind x (replicate n y ++ ys)
  all_repeats x zero y ys one all = all
  all_repeats x (suc n) y ys one all = (one, all_repeats x n y ys one all)

  all_expanded : (x : Row) (rs : List Run) → AreRunsBehind x rs → AreBehind x (expanded rs)
  all_expanded x [] all = tt
  all_expanded x (r ∷ rs) all = all_repeats x r.times r.row (expanded rs) all.0 (all_expanded x rs all.1)

  repeats_rise : (n : ℕ) (x : Row) (ys : List Row) → AreBehind x ys → Rises ys → Rises (replicate n x ++ ys)
  repeats_rise zero x ys all up = up
  repeats_rise (suc n) x ys all up = (all_repeats x n x ys (ap is_lt (tied_itself o x)) all, repeats_rise n x ys all up)

  expanded_rise : (rs : List Run) → RunsRise rs → Rises (expanded rs)
  expanded_rise [] up = tt
  expanded_rise (r ∷ rs) up = repeats_rise r.times r.row (expanded rs) (all_expanded r.row rs up.0) (expanded_rise rs up.1)

  abbrev less : Run → Run → Bool
  less a b = is_lt (cmp a.row b.row)

  from_each : (x d : Run) (rs : List Run) → ((k : ℕ) → k < length rs → less (get_or rs k d) x ≡ false) → AreRunsBehind x.row rs
  from_each x d [] each = tt
  from_each x d (r ∷ rs) each = (each 0 (omega arith), from_each x d rs (λ k below. each (suc k) (omega (arith, below))))

  runs_rise : (rs : List Run) → IsSortedBy less rs → RunsRise rs
  runs_rise [] up = tt
  runs_rise (r ∷ rs) up =
      let later : (k : ℕ) → suc k + 1 ≡ suc (k + 1) = λ k. omega arith in (
        from_each r r rs (λ k below. sorted_far less (ranks_by o (λ (a : Run). a.row)) (r ∷ rs) up 0 (suc k) r (omega arith) (omega (arith, below))),
        runs_rise rs (λ k d low high. ap (λ n. less (get_or (r ∷ rs) n d) (get_or rs k d)) (sym (later k)) ∙ up (suc k) d (omega arith) (omega (arith, high))),
      )

pub arranged : (order : List OrderKey) (old new : List Run) → IsPermutation old new → IsSortedBy (λ (a b : Run). is_lt (order_cmp order a.row b.row)) new
    → expanded new ≡ sorted (order_cmp order) (expanded old)
arranged order old new moved up =
    sorted_is (order_total order) (order_exact order) (expanded old) (expanded new) (same_rows old new moved)
    (rises_sorted (order_total order) (expanded new) (expanded_rise (order_total order) new (runs_rise (order_total order) new up)))
