-- What an answer shows of rows: some may be cut off before others come.
use Rattle.std.proofs.Common.{◌≡◌, ℕ, zero, suc, ◌+◌, ◌<◌, ◌≤◌, true, false, cond, List, [], ◌∷◌, ◌++◌, take, length, Ok, Err, None, Some, refl, sym, ap, ◌∙◌, arith}
use Rattle.std.specs.Prelude.{Bool, Option, Result, All, IsSorted, ◌||◌, min, replicate}
use Rattle.std.specs.List.{dedup, list_any}
use Rattle.std.specs.Cmp.{IsTotalOrder}
use Rattle.std.specs.FinMap.{IsAntisymmetric}
use Rattle.std.specs.Ordering.{eq_by_cmp, is_lt, match_ordering}
use Rattle.std.specs.declared.cmp.Ordering.{Ordering}
use Rattle.std.specs.declared.cmp.Ordering.TheVariants.{Less, Equal, Greater}
use Rattle.std.proofs.lemmas.List.{get_or-take}
use Rattle.std.proofs.lemmas.List.Elements.{All-take}
use Rattle.std.proofs.lemmas.List.Sorted.{All-permutation, IsPermutation-refl, IsPermutation-trans, IsPermutation-append_comm}
use Rattle.meaning.specs.declared.plan.Plan.{Plan}
use Rattle.meaning.specs.declared.answer.Group.{Group}
use Rattle.meaning.specs.Finish.{all_rows, finished, limited, order_cmp, shown_once}
use Rattle.meaning.specs.Order.{Row, ascending_set, inserted, inserted_once, sorted}
use Rattle.meaning.specs.Results.{and_then}
use Rattle.meaning.proofs.Orders.{order_exact, order_total, row_exact, row_total}
use Rattle.meaning.proofs.Sets.{ascending_set_itself, is_ascending-ascending_set, same_ascending_set}
use Rattle.meaning.proofs.Tests.{list_any-append}
use Rattle.meaning.proofs.Sorting.{sorted-in_order, sorted-moved, sorted_is}
use Rattle.last_step.specs.Best.{arranged, best, best_of}
use Rattle.last_step.specs.Runs.{plain_rows}
use Rattle.aggregate_states.proofs.Once.{set_once}
use Rattle.last_step.proofs.RowSets.{all_of_set, cut_ascends, set_turned, sorted_set}

-- ---- what is cut off

module _ {X : Type 0} where
  cut_once : (n : ℕ) (xs : List X) → take n (take (suc n) xs) ≡ take n xs
  cut_once zero xs = refl
  cut_once (suc n) [] = refl
  cut_once (suc n) (x ∷ xs) = ap (λ ys. x ∷ ys) (cut_once n xs)

  cut_behind : (n : ℕ) (x : X) (xs : List X) → take n (x ∷ take n xs) ≡ take n (x ∷ xs)
  cut_behind zero x xs = refl
  cut_behind (suc n) x xs = ap (λ ys. x ∷ ys) (cut_once n xs)

  cut_twice : (n : ℕ) (xs : List X) → take n (take n xs) ≡ take n xs
  cut_twice zero xs = refl
  cut_twice (suc n) [] = refl
  cut_twice (suc n) (x ∷ xs) = ap (λ ys. x ∷ ys) (cut_twice n xs)

  pub cut_short : (n : ℕ) (xs : List X) → (length (take n xs) ≤ n) × (length (take n xs) ≤ length xs)
  cut_short zero xs = (omega arith, omega arith)
  cut_short (suc n) [] = (omega arith, omega arith)
  cut_short (suc n) (x ∷ xs) = let rest = cut_short n xs in (omega (arith, rest), omega (arith, rest))

  module _ (cmp : X → X → Ordering) where
    -- what is cut off before an insertion would be cut off after it
    pub cut_inserted : (n : ℕ) (x : X) (ys : List X) → take n (inserted cmp x (take n ys)) ≡ take n (inserted cmp x ys)
    cut_inserted zero x ys = refl
    cut_inserted (suc n) x [] = refl
    cut_inserted (suc n) x (y ∷ ys) =
        elim (is_lt (cmp y x)) as (λ b. take (suc n) (cond b (y ∷ inserted cmp x (take n ys)) (x ∷ y ∷ take n ys)) ≡ take (suc n) (cond b (y ∷ inserted cmp x ys) (x ∷ y ∷ ys))) [
          | true ↦ ap (λ zs. y ∷ zs) (cut_inserted n x ys)
          | false ↦ ap (λ zs. x ∷ zs) (cut_behind n y ys)
        ]

    -- the same where it stands once
    cut_once_inserted : (n : ℕ) (x : X) (ys : List X) → take n (inserted_once cmp x (take n ys)) ≡ take n (inserted_once cmp x ys)
    cut_once_inserted zero x ys = refl
    cut_once_inserted (suc n) x [] = refl
    cut_once_inserted (suc n) x (y ∷ ys) =
        elim (cmp x y) as
        (λ r. take (suc n) (match_ordering r (x ∷ y ∷ take n ys) (y ∷ take n ys) (y ∷ inserted_once cmp x (take n ys)))
        ≡ take (suc n) (match_ordering r (x ∷ y ∷ ys) (y ∷ ys) (y ∷ inserted_once cmp x ys))) [
          | Less ↦ ap (λ zs. x ∷ zs) (cut_behind n y ys)
          | Equal ↦ ap (λ zs. y ∷ zs) (cut_twice n ys)
          | Greater ↦ ap (λ zs. y ∷ zs) (cut_once_inserted n x ys)
        ]

    -- a row where it belongs
    abbrev pub put : Bool → X → List X → List X
    put true x ys = inserted_once cmp x ys
    put false x ys = inserted cmp x ys

    cut_put : (distinct : Bool) (n : ℕ) (x : X) (ys : List X) → take n (put distinct x (take n ys)) ≡ take n (put distinct x ys)
    cut_put true n x ys = cut_once_inserted n x ys
    cut_put false n x ys = cut_inserted n x ys

    pub cut_sorted : (n : ℕ) (ys : List X) → IsSorted cmp ys → IsSorted cmp (take n ys)
    cut_sorted n ys up k d low high =
        let short = cut_short n ys in
        let here : k < n = omega (arith, short, high) in
        let next : k + 1 < n = omega (arith, short, high) in
        (λ i. is_lt (cmp (get_or-take n ys (k + 1) d next i) (get_or-take n ys k d here i))) ∙ up k d low (omega (arith, short, high))

-- one of repeats
any_repeated : {X : Type 0} (p : X → Bool) (x : X) (n : ℕ) → list_any p (replicate (suc n) x) ≡ p x
any_repeated p x zero = or_none (p x)
  where
    or_none : (b : Bool) → (b || false) ≡ b
    or_none true = refl
    or_none false = refl
any_repeated p x (suc n) = ap (λ b. p x || b) (any_repeated p x n) ∙ or_itself (p x)
  where
    or_itself : (b : Bool) → (b || b) ≡ b
    or_itself true = refl
    or_itself false = refl

-- ---- rows beside rows

module _ {cmp : Row → Row → Ordering} (o : IsTotalOrder cmp) (exact : IsAntisymmetric cmp) where
  one_more : (distinct : Bool) (limit : Option ℕ) (x : Row) (us vs : List Row) → limited limit us ≡ limited limit vs → limited limit (put cmp distinct x us) ≡ limited limit (put cmp distinct x vs)
  one_more distinct None x us vs same = ap (put cmp distinct x) same
  one_more distinct (Some n) x us vs same = sym (cut_put cmp distinct n x us) ∙ ap (λ zs. take n (put cmp distinct x zs)) same ∙ cut_put cmp distinct n x vs

  arranged_more : (distinct : Bool) (x : Row) (xs : List Row) → arranged distinct cmp (x ∷ xs) ≡ put cmp distinct x (arranged distinct cmp xs)
  arranged_more true x xs = refl
  arranged_more false x xs = refl

  same_behind : (distinct : Bool) (limit : Option ℕ) (before xs ys : List Row) → limited limit (arranged distinct cmp xs) ≡ limited limit (arranged distinct cmp ys)
      → limited limit (arranged distinct cmp (before ++ xs)) ≡ limited limit (arranged distinct cmp (before ++ ys))
  same_behind distinct limit [] xs ys same = same
  same_behind distinct limit (b ∷ bs) xs ys same =
      ap (limited limit) (arranged_more distinct b (bs ++ xs))
      ∙ one_more distinct limit b (arranged distinct cmp (bs ++ xs)) (arranged distinct cmp (bs ++ ys)) (same_behind distinct limit bs xs ys same)
      ∙ ap (limited limit) (sym (arranged_more distinct b (bs ++ ys)))

  turned : (xs ys : List Row) → sorted cmp (xs ++ ys) ≡ sorted cmp (ys ++ xs)
  turned xs ys =
      sorted_is o exact (ys ++ xs) (sorted cmp (xs ++ ys))
      (IsPermutation-trans _ _ _ (IsPermutation-append_comm ys xs) (sorted-moved cmp (xs ++ ys)))
      (sorted-in_order cmp o (xs ++ ys))

  arranged_turned : (distinct : Bool) (xs ys : List Row) → arranged distinct cmp (xs ++ ys) ≡ arranged distinct cmp (ys ++ xs)
  arranged_turned true xs ys = set_turned o exact xs ys
  arranged_turned false xs ys = turned xs ys

  in_order : (limit : Option ℕ) (xs : List Row) → IsSorted cmp (limited limit (sorted cmp xs))
  in_order None xs = sorted-in_order cmp o xs
  in_order (Some n) xs = cut_sorted cmp n (sorted cmp xs) (sorted-in_order cmp o xs)

  limited_twice : (limit : Option ℕ) (xs : List Row) → limited limit (limited limit xs) ≡ limited limit xs
  limited_twice None xs = refl
  limited_twice (Some n) xs = cut_twice n xs

  arranged_again : (distinct : Bool) (limit : Option ℕ) (xs : List Row) → arranged distinct cmp (limited limit (arranged distinct cmp xs)) ≡ limited limit (arranged distinct cmp xs)
  arranged_again true None xs = ascending_set_itself o (ascending_set cmp xs) (is_ascending-ascending_set o xs)
  arranged_again true (Some n) xs = ascending_set_itself o (take n (ascending_set cmp xs)) (cut_ascends cmp n (ascending_set cmp xs) (is_ascending-ascending_set o xs))
  arranged_again false limit xs =
      let kept = limited limit (sorted cmp xs) in
      sym (sorted_is o exact kept kept (IsPermutation-refl kept) (in_order limit xs))

  arranged_twice : (distinct : Bool) (limit : Option ℕ) (xs : List Row) → limited limit (arranged distinct cmp (limited limit (arranged distinct cmp xs))) ≡ limited limit (arranged distinct cmp xs)
  arranged_twice distinct limit xs = ap (limited limit) (arranged_again distinct limit xs) ∙ limited_twice limit (arranged distinct cmp xs)

  -- one row more, where so many stay
  pub one_offered : (n : ℕ) (rows : List Row) (x : Row) → take n (inserted cmp x (take n (sorted cmp rows))) ≡ take n (sorted cmp (rows ++ x ∷ []))
  one_offered n rows x = cut_inserted cmp n x (sorted cmp rows) ∙ ap (take n) (turned (x ∷ []) rows)

  -- rows in order, of which equal neighbours stand once
  pub once_in_order : (rows : List Row) → dedup (eq_by_cmp cmp) (sorted cmp rows) ≡ ascending_set cmp rows
  once_in_order rows = set_once o exact rows (sorted cmp rows) (dedup (eq_by_cmp cmp) (sorted cmp rows)) (sorted-moved cmp rows) (sorted-in_order cmp o rows) refl

  -- ---- a row as often as it is kept

  any_kept : (q x : Row) (n : ℕ) → list_any (eq_by_cmp cmp q) (replicate (min n 1) x) ≡ list_any (eq_by_cmp cmp q) (replicate n x)
  any_kept q x zero = refl
  any_kept q x (suc n) =
      let one : min (suc n) 1 ≡ 1 = omega arith in
      ap (λ k. list_any (eq_by_cmp cmp q) (replicate k x)) one
      ∙ any_repeated (eq_by_cmp cmp q) x 0 ∙ sym (any_repeated (eq_by_cmp cmp q) x n)

  any_plain : (q : Row) (gs : List Group) → list_any (eq_by_cmp cmp q) (plain_rows true gs) ≡ list_any (eq_by_cmp cmp q) (plain_rows false gs)
  any_plain q [] = refl
  any_plain q (g ∷ gs) =
      list_any-append (eq_by_cmp cmp q) (replicate (min g.rows 1) g.key) (plain_rows true gs)
      ∙ (λ i. any_kept q g.key g.rows i || any_plain q gs i)
      ∙ sym (list_any-append (eq_by_cmp cmp q) (replicate g.rows g.key) (plain_rows false gs))

  arranged_kept : (distinct : Bool) (before : List Row) (gs : List Group) → arranged distinct cmp (before ++ plain_rows distinct gs) ≡ arranged distinct cmp (before ++ plain_rows false gs)
  arranged_kept false before gs = refl
  arranged_kept true before gs = same_ascending_set o exact (before ++ plain_rows true gs) (before ++ plain_rows false gs) (λ q.
      list_any-append (eq_by_cmp cmp q) before (plain_rows true gs)
      ∙ ap (λ b. list_any (eq_by_cmp cmp q) before || b) (any_plain q gs)
      ∙ sym (list_any-append (eq_by_cmp cmp q) before (plain_rows false gs)))

module _ (plan : Plan) where
  pub best_behind : (before xs ys : List Row) → best plan xs ≡ best plan ys → best plan (before ++ xs) ≡ best plan (before ++ ys)
  best_behind before xs ys same = same_behind (order_total plan.order) (order_exact plan.order) plan.distinct plan.limit before xs ys same

  pub best_before : (xs ys behind : List Row) → best plan xs ≡ best plan ys → best plan (xs ++ behind) ≡ best plan (ys ++ behind)
  best_before xs ys behind same =
      ap (limited plan.limit) (arranged_turned (order_total plan.order) (order_exact plan.order) plan.distinct xs behind)
      ∙ best_behind behind xs ys same
      ∙ ap (limited plan.limit) (arranged_turned (order_total plan.order) (order_exact plan.order) plan.distinct behind ys)

  -- the best of some rows in place of these rows
  pub best_pushed : (before rows chosen now : List Row) → chosen ≡ best plan rows → now ≡ before ++ chosen → best plan now ≡ best plan (before ++ rows)
  best_pushed before rows chosen now is pushed =
      ap (best plan) (pushed ∙ ap (λ xs. before ++ xs) is)
      ∙ best_behind before (best plan rows) rows (arranged_twice (order_total plan.order) (order_exact plan.order) plan.distinct plan.limit rows)

  -- what holds of rows holds of the best of them
  pub all_best : (P : Row → Type 0) (rows : List Row) → All P rows → All P (best plan rows)
  all_best P rows all = by_limit plan.limit
    where
      in_place : (distinct : Bool) → All P (arranged distinct (order_cmp plan.order) rows)
      in_place true = all_of_set (order_cmp plan.order) P rows all
      in_place false = All-permutation P rows (sorted (order_cmp plan.order) rows) (sorted-moved (order_cmp plan.order) rows) all

      by_limit : (limit : Option ℕ) → All P (limited limit (arranged plan.distinct (order_cmp plan.order) rows))
      by_limit None = in_place plan.distinct
      by_limit (Some n) = All-take P n (arranged plan.distinct (order_cmp plan.order) rows) (in_place plan.distinct)

  -- the keys of a plain query, however often each is kept
  pub best_kept : (before : List Row) (gs : List Group) → best plan (before ++ plain_rows plan.distinct gs) ≡ best plan (before ++ plain_rows false gs)
  best_kept before gs = ap (limited plan.limit) (arranged_kept (order_total plan.order) (order_exact plan.order) plan.distinct before gs)

  -- ---- rows that may be a fault instead

  pub only_fault : (r : Result (List Row) ℕ) (code : ℕ) → best_of plan r ≡ Err code → r ≡ Err code
  only_fault (Ok rows) code e = absurd cc
  only_fault (Err c) code e = let same : c ≡ code = cc in ap Err same

  pub from_best : (r : Result (List Row) ℕ) (rows : List Row) → best_of plan r ≡ Ok rows → (all : List Row) × (r ≡ Ok all) × (best plan all ≡ rows)
  from_best (Ok all) rows e = (all, refl, cc)
  from_best (Err c) rows e = absurd cc

  pub same_parts : (xs ys : List Row) (parts : Result (List (List Row)) ℕ) → best plan xs ≡ best plan ys
      → best_of plan (and_then parts (λ ps. Ok (xs ++ all_rows ps))) ≡ best_of plan (and_then parts (λ ps. Ok (ys ++ all_rows ps)))
  same_parts xs ys (Err c) same = refl
  same_parts xs ys (Ok ps) same = ap Ok (best_before xs ys (all_rows ps) same)

  -- rows that are shown once and then put in order are put in order as a set
  in_place : (distinct : Bool) (rows : List Row) → arranged distinct (order_cmp plan.order) rows ≡ sorted (order_cmp plan.order) (shown_once distinct rows)
  in_place true rows = sym (sorted_set (order_total plan.order) (order_exact plan.order) row_total row_exact rows)
  in_place false rows = refl

  -- what the last step gives
  pub finished_best : (parts : Result (List (List Row)) ℕ)
      → finished (best_of plan (and_then parts (λ ps. Ok (all_rows ps))))
      ≡ finished (and_then parts (λ ps. Ok (limited plan.limit (sorted (order_cmp plan.order) (shown_once plan.distinct (all_rows ps))))))
  finished_best (Err c) = refl
  finished_best (Ok ps) = ap (λ rows. finished (Ok (limited plan.limit rows))) (in_place plan.distinct (all_rows ps))
