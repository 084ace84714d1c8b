-- A row that is put among rows in order.
use Rattle.std.proofs.Common.{◌≡◌, ℕ, zero, suc, ◌+◌, ◌-◌, ◌<◌, ◌≤◌, true, false, Bool, cond, List, [], ◌∷◌, ◌++◌, map, take, length, get_or, None, Some, refl, sym, ap, ◌∙◌, subst, arith}
use Rattle.std.specs.Prelude.{IsSorted}
use Rattle.std.specs.Cmp.{IsStrictWeakOrder}
use Rattle.std.specs.List.{dedup, insert}
use Rattle.std.specs.List.Sorted.{IsPartitionedBy, IsPartitionPoint}
use Rattle.std.specs.Ordering.{eq_by_cmp, is_lt}
use Rattle.std.proofs.lemmas.List.{get_or-map, map_more, length-map}
use Rattle.std.proofs.lemmas.List.Sorted.{ranks_by, sorted_far}
use Rattle.meaning.specs.Order.{Row, inserted, sorted}
use Rattle.meaning.specs.declared.plan.OrderKey.{OrderKey}
use Rattle.meaning.specs.declared.plan.Plan.{Plan}
use Rattle.meaning.specs.Finish.{limited, order_cmp}
use Rattle.meaning.proofs.Orders.{order_exact, order_total}
use Rattle.meaning.proofs.Sorting.{sorted-in_order}
use Rattle.last_step.specs.Best.{arranged, best}
use Rattle.last_step.proofs.BestRows.{cut_short, cut_sorted, once_in_order, one_offered}

-- ---- lists

-- what doesn't come among the first so many
pub left_out : {X : Type 0} (ys : List X) (x : X) (most place : ℕ) → length ys ≤ most → most ≤ place → place ≤ length ys → take most (insert ys place x) ≡ ys
left_out [] x zero place few past within = refl
left_out [] x (suc most) place few past within = absurd (omega (arith, past, within))
left_out (y ∷ ys) x zero place few past within = absurd (omega (arith, few))
left_out (y ∷ ys) x (suc most) zero few past within = absurd (omega (arith, past))
left_out (y ∷ ys) x (suc most) (suc place) few past within = ap (λ zs. y ∷ zs) (left_out ys x most place (omega (arith, few)) (omega (arith, past)) (omega (arith, within)))

module _ {P X : Type 0} (f : P → X) where
  map_insert : (ps : List P) (n : ℕ) (p : P) → map f (insert ps n p) ≡ insert (map f ps) n (f p)
  map_insert [] zero p = refl
  map_insert [] (suc n) p = refl
  map_insert (q ∷ ps) zero p = refl
  map_insert (q ∷ ps) (suc n) p = ap (λ zs. f q ∷ zs) (map_insert ps n p)

  map_take : (n : ℕ) (ps : List P) → map f (take n ps) ≡ take n (map f ps)
  map_take zero ps = refl
  map_take (suc n) [] = refl
  map_take (suc n) (p ∷ ps) = ap (λ zs. f p ∷ zs) (map_take n ps)

  pub put_in : (most place : ℕ) (p : P) (old longer new : List P) → longer ≡ insert old place p → new ≡ take most longer → map f new ≡ take most (insert (map f old) place (f p))
  put_in most place p old longer new is cut = ap (map f) (cut ∙ ap (take most) is) ∙ map_take most (insert old place p) ∙ ap (take most) (map_insert old place p)

-- what LIMIT leaves of positions in order
pub cut_best : (plan : Plan) (f : ℕ → Row) (most : ℕ) (ps qs : List ℕ) (rows : List Row) → plan.limit ≡ Some most → map f ps ≡ arranged plan.distinct (order_cmp plan.order) rows → qs ≡ take most ps
    → map f qs ≡ best plan rows
cut_best plan f most ps qs rows limit is cut =
    ap (map f) cut ∙ map_take f most ps ∙ ap (take most) is
    ∙ ap (λ l. limited l (arranged plan.distinct (order_cmp plan.order) rows)) (sym limit)

-- the same of rows that are picked one by one
pub led_best : (plan : Plan) (order : List OrderKey) (most : ℕ) (rows shown : List Row) → order ≡ plan.order → plan.limit ≡ Some most → plan.distinct ≡ false → shown ≡ take most (sorted (order_cmp order) rows)
    → shown ≡ best plan rows
led_best plan order most rows shown ordered limit all is =
    is ∙ ap (λ keys. take most (sorted (order_cmp keys) rows)) ordered
    ∙ (λ i. limited (sym limit i) (arranged (sym all i) (order_cmp plan.order) rows))

-- where there is no LIMIT
pub whole_best : (plan : Plan) (rows shown : List Row) → plan.limit ≡ None → shown ≡ arranged plan.distinct (order_cmp plan.order) rows → shown ≡ best plan rows
whole_best plan rows shown limit is = is ∙ ap (λ l. limited l (arranged plan.distinct (order_cmp plan.order) rows)) (sym limit)

-- rows in order, where equal ones stand once
pub once_arranged : (distinct : Bool) (order keys : List OrderKey) (rows before shown : List Row) → distinct ≡ true → order ≡ keys → before ≡ sorted (order_cmp order) rows
    → shown ≡ dedup (eq_by_cmp (order_cmp order)) before → shown ≡ arranged distinct (order_cmp keys) rows
once_arranged distinct order keys rows before shown once ordered is left =
    left ∙ ap (dedup (eq_by_cmp (order_cmp order))) is
    ∙ once_in_order (order_total order) (order_exact order) rows
    ∙ (λ i. arranged (sym once i) (order_cmp (ordered i)) rows)

-- cut by LIMIT
pub once_best : (plan : Plan) (order : List OrderKey) (rows before shown : List Row) → plan.distinct ≡ true → order ≡ plan.order → before ≡ sorted (order_cmp order) rows
    → shown ≡ limited plan.limit (dedup (eq_by_cmp (order_cmp order)) before) → shown ≡ best plan rows
once_best plan order rows before shown once ordered is cut = cut ∙ ap (limited plan.limit) (once_arranged plan.distinct order plan.order rows before _ once ordered is refl)

-- and where they stand as often as there are
pub all_arranged : (distinct : Bool) (order keys : List OrderKey) (rows shown : List Row) → distinct ≡ false → order ≡ keys → shown ≡ sorted (order_cmp order) rows
    → shown ≡ arranged distinct (order_cmp keys) rows
all_arranged distinct order keys rows shown all ordered is = is ∙ (λ i. arranged (sym all i) (order_cmp (ordered i)) rows)

-- ---- rows at positions

module _ (order : List OrderKey) (f : ℕ → Row) where
  abbrev pub comes_before : ℕ → ℕ → Bool
  comes_before p q = is_lt (order_cmp order (f q) (f p))

  placed : (ys : List Row) (x : Row) (n : ℕ) → n ≤ length ys → ((k : ℕ) → k < n → is_lt (order_cmp order (get_or ys k x) x) ≡ true)
      → ((k : ℕ) → n ≤ k → k < length ys → is_lt (order_cmp order (get_or ys k x) x) ≡ false) → insert ys n x ≡ inserted (order_cmp order) x ys
  placed [] x zero low before behind = refl
  placed [] x (suc n) low before behind = absurd (omega (arith, low))
  placed (y ∷ ys) x zero low before behind = sym (ap (λ b. cond b (y ∷ inserted (order_cmp order) x ys) (x ∷ y ∷ ys)) (behind 0 (omega arith) (omega arith)))
  placed (y ∷ ys) x (suc n) low before behind =
      ap (λ zs. y ∷ zs) (placed ys x n (omega (arith, low)) (λ k below. before (suc k) (omega (arith, below))) (λ k above below. behind (suc k) (omega (arith, above)) (omega (arith, below))))
      ∙ sym (ap (λ b. cond b (y ∷ inserted (order_cmp order) x ys) (x ∷ y ∷ ys)) (before 0 (omega arith)))

  pub parted : (ps : List ℕ) (p : ℕ) → IsSorted (order_cmp order) (map f ps) → IsPartitionedBy (comes_before p) ps
  parted ps p up i j d low high is = by_case (comes_before p (get_or ps i d)) refl
    where
      weak : IsStrictWeakOrder (λ (x y : Row). is_lt (order_cmp order x y))
      weak = ranks_by (order_total order) (λ (x : Row). x)

      far : is_lt (order_cmp order (f (get_or ps j d)) (f (get_or ps i d))) ≡ false
      far =
          let long = length-map ps f in
          sym (λ t. is_lt (order_cmp order (get_or-map f ps j d (f d) high t) (get_or-map f ps i d (f d) (omega (arith, low, high)) t)))
          ∙ sorted_far (λ x y. is_lt (order_cmp order x y)) weak (map f ps) up i j (f d) low (omega (arith, high, long))

      by_case : (b : Bool) → comes_before p (get_or ps i d) ≡ b → b ≡ true
      by_case true e = refl
      by_case false e = absurd (let later = weak.chain (f (get_or ps j d)) (f (get_or ps i d)) (f p) far e in cc)

  pub found : (ps : List ℕ) (p n : ℕ) → n ≤ length ps → IsPartitionPoint (λ q. comes_before p q ≡ true) (λ q. comes_before p q ≡ false) ps n
      → insert (map f ps) n (f p) ≡ inserted (order_cmp order) (f p) (map f ps)
  found ps p n within point =
      let long = length-map ps f in
      placed (map f ps) (f p) n (omega (arith, within, long))
      (λ k below. ap (λ y. is_lt (order_cmp order y (f p))) (get_or-map f ps k p (f p) (omega (arith, below, within))) ∙ point.0 k p (omega arith) below)
      (λ k above below. let high : k < length ps = omega (arith, below, long) in ap (λ y. is_lt (order_cmp order y (f p))) (get_or-map f ps k p (f p) high) ∙ point.1 k p above high)

  -- where the last comes before it, all do
  pub found_last : (ps : List ℕ) (p q : ℕ) → IsSorted (order_cmp order) (map f ps) → 0 < length ps → q ≡ get_or ps (length ps - 1) p → comes_before p q ≡ true
      → insert (map f ps) (length ps) (f p) ≡ inserted (order_cmp order) (f p) (map f ps)
  found_last ps p q up some is before =
      found ps p (length ps) (omega arith) (
        (λ k d low below.
            let same : get_or ps (length ps - 1) p ≡ get_or ps (length ps - 1) d = in_range ps (length ps - 1) p d (omega (arith, some)) in
            parted ps p up k (length ps - 1) d (omega (arith, below)) (omega (arith, some)) (ap (comes_before p) (sym (is ∙ same)) ∙ before)),
        (λ k d low below. absurd (omega (arith, low, below))),
      )
    where
      in_range : (xs : List ℕ) (k a b : ℕ) → k < length xs → get_or xs k a ≡ get_or xs k b
      in_range [] k a b below = absurd (omega (arith, below))
      in_range (x ∷ xs) zero a b below = refl
      in_range (x ∷ xs) (suc k) a b below = in_range xs k a b (omega (arith, below))

  -- ---- the first so many of the positions that were seen

  pub still_sorted : (most : ℕ) (rows : List Row) (ps : List ℕ) → map f ps ≡ take most (sorted (order_cmp order) rows) → IsSorted (order_cmp order) (map f ps)
  still_sorted most rows ps is = subst (IsSorted (order_cmp order)) (sym is) (cut_sorted (order_cmp order) most (sorted (order_cmp order) rows) (sorted-in_order (order_cmp order) (order_total order) rows))

  pub still_few : (most : ℕ) (rows : List Row) (ps : List ℕ) → map f ps ≡ take most (sorted (order_cmp order) rows) → length ps ≤ most
  still_few most rows ps is =
      let long = length-map ps f in
      let same = ap length is in
      let short = cut_short most (sorted (order_cmp order) rows) in
      omega (arith, long, same, short.0)

  pub next_offered : (most : ℕ) (list : List ℕ) (k p : ℕ) (old new : List ℕ) → k < length list → p ≡ get_or list k 0 → map f old ≡ take most (sorted (order_cmp order) (map f (take k list)))
      → map f new ≡ take most (inserted (order_cmp order) (f p) (map f old)) → map f new ≡ take most (sorted (order_cmp order) (map f (take (k + 1) list)))
  next_offered most list k p old new below is so_far offered =
      offered
      ∙ ap (λ rows. take most (inserted (order_cmp order) (f p) rows)) so_far
      ∙ one_offered (order_total order) (order_exact order) most (map f (take k list)) (f p)
      ∙ ap (λ x. take most (sorted (order_cmp order) (map f (take k list) ++ x ∷ []))) (ap f is)
      ∙ sym (ap (λ rows. take most (sorted (order_cmp order) rows)) (map_more f list k 0 below))
