-- What may be done to a list of groups without changing what it comes to.
use Rattle.std.specs.Prelude.{◌≡◌, ℕ, zero, suc, ◌+◌, ◌<◌, Bool, true, false, cond, ◌||◌, List, [], ◌∷◌, ◌++◌, length, map, filter, get_or, slice_set, reverse}
use Rattle.std.specs.List.{list_any, enumerate_from}
use Rattle.std.specs.Ordering.{eq_by_cmp}
use Rattle.std.proofs.Common.{refl, sym, ap, ◌∙◌, arith, length-append}
use Rattle.std.proofs.Math.Nat.{add_assoc}
use Rattle.std.proofs.lemmas.List.{map-append, reverse-append}
use Rattle.meaning.specs.declared.plan.AggregateKind.{AggregateKind}
use Rattle.meaning.specs.declared.answer.Statistics.{Statistics}
use Rattle.meaning.specs.declared.answer.Group.{Group}
use Rattle.meaning.specs.Order.{Row, column, row_cmp, ascending_set}
use Rattle.meaning.specs.Group.{beside, merge_groups}
use Rattle.meaning.proofs.Orders.{row_total, row_exact}
use Rattle.meaning.proofs.Sets.{same_ascending_set}
use Rattle.meaning.proofs.LiveTable.{zipped-assoc, zipped-comm}
use Rattle.aggregate_states.specs.Entries.{state_of}
use Rattle.aggregate_states.specs.StateLaws.{state_of-append}
use Rattle.aggregate_states.proofs.Growing.{merge-no_entry}
use Rattle.group_by.specs.Combined.{zipped}
use Rattle.group_by.specs.Shape.{Shape}
use Rattle.group_by.specs.Groups.{states_of, group_of_rows, groups_of_rows, as_one, together}
use Rattle.group_by.proofs.Growing.{Grows}
use Rattle.meaning.proofs.Tests.{list_any-append}

-- ---- two groups as one

pub zipped-length : (ss ts : List Statistics) (n : ℕ) → length ss ≡ n → length ts ≡ n → length (zipped ss ts) ≡ n
zipped-length [] ts n e f = e
zipped-length (s ∷ ss) [] n e f = absurd (omega (arith, e, f))
zipped-length (s ∷ ss) (t ∷ ts) zero e f = absurd (omega (arith, e))
zipped-length (s ∷ ss) (t ∷ ts) (suc n) e f = ap suc (zipped-length ss ts n (omega (arith, e)) (omega (arith, f)))

pub merge_groups-assoc : (a b c : Group) → merge_groups (merge_groups a b) c ≡ merge_groups a (merge_groups b c)
merge_groups-assoc a b c = λ i. record {
  key = c.key;
  rows = add_assoc a.rows b.rows c.rows i;
  states = zipped-assoc a.states b.states c.states i;
}

-- what each aggregate keeps, from the n-th on
abbrev pub states_from : ℕ → List AggregateKind → List Row → List Statistics
states_from n kinds rows = map (λ (a : ℕ × AggregateKind). state_of a.1 (map (λ (row : Row). column row a.0) rows)) (enumerate_from n kinds)

states_none : (n : ℕ) (kinds : List AggregateKind) (ss : List Statistics) → length ss ≡ length kinds → zipped ss (states_from n kinds []) ≡ ss
states_none n [] [] e = refl
states_none n [] (s ∷ ss) e = absurd (omega (arith, e))
states_none n (k ∷ kinds) [] e = absurd (omega (arith, e))
states_none n (k ∷ kinds) (s ∷ ss) e = λ i. merge-no_entry k s i ∷ states_none (n + 1) kinds ss (omega (arith, e)) i

states-append : (n : ℕ) (kinds : List AggregateKind) (xs ys : List Row) → states_from n kinds (xs ++ ys) ≡ zipped (states_from n kinds xs) (states_from n kinds ys)
states-append n [] xs ys = refl
states-append n (k ∷ kinds) xs ys =
    let col : Row → _ = λ (row : Row). column row n in
    λ i. (ap (state_of k) (map-append col xs ys) ∙ state_of-append k (map col xs) (map col ys)) i ∷ states-append (n + 1) kinds xs ys i

pub states-length : (n : ℕ) (kinds : List AggregateKind) (rows : List Row) → length (states_from n kinds rows) ≡ length kinds
states-length n [] rows = refl
states-length n (k ∷ kinds) rows = ap suc (states-length (n + 1) kinds rows)

module _ (shape : Shape) where
  -- a state of each aggregate
  abbrev pub IsWide : Group → Type 0
  IsWide g = length g.states ≡ length shape.kinds

  pub of_rows-append : (k : Row) (xs ys : List Row) → group_of_rows shape k (xs ++ ys) ≡ merge_groups (group_of_rows shape k xs) (group_of_rows shape k ys)
  of_rows-append k xs ys = λ i. record { key = k; rows = length-append xs ys i; states = states-append 0 shape.kinds xs ys i }

  pub merge_none : (g : Group) → IsWide g → merge_groups g (group_of_rows shape g.key []) ≡ g
  merge_none g wide =
      let rows : g.rows + 0 ≡ g.rows = omega arith in
      λ i. record { key = g.key; rows = rows i; states = states_none 0 shape.kinds g.states wide i }

  pub none_merge : (k : Row) (g : Group) → IsWide g → merge_groups (group_of_rows shape k []) g ≡ g
  none_merge k g wide =
      let rows : 0 + g.rows ≡ g.rows = omega arith in
      λ i. record { key = g.key; rows = rows i; states = (zipped-comm (states_of shape.kinds []) g.states ∙ states_none 0 shape.kinds g.states wide) i }

  -- ---- what stands at a key

  abbrev tagged : List Group → List (Row × Group)
  tagged gs = map (λ (g : Group). (g.key, g)) gs

  abbrev firsts : {X : Type 0} → List (Row × X) → List Row
  firsts ps = map (λ p. p.0) ps

  abbrev pub at : Row → List Group → Group
  at k gs = as_one shape k (beside k (tagged gs))

  abbrev pub has : Row → List Group → Bool
  has k gs = list_any (eq_by_cmp row_cmp k) (firsts (tagged gs))

  abbrev keys_of : List Group → List Row
  keys_of gs = ascending_set row_cmp (shape.certain ++ firsts (tagged gs))

  fused : (b : Row → List Group) (ks : List Row) → map (λ (g : Row × List Group). as_one shape g.0 g.1) (map (λ k. (k, b k)) ks) ≡ map (λ k. as_one shape k (b k)) ks
  fused b [] = refl
  fused b (k ∷ ks) = ap (λ (gs : List Group). as_one shape k (b k) ∷ gs) (fused b ks)

  pub together-at : (gs : List Group) → together shape gs ≡ map (λ k. at k gs) (keys_of gs)
  together-at gs = fused (λ k. beside k (tagged gs)) (keys_of gs)

  same_at : (f g : Row → Group) → ((k : Row) → f k ≡ g k) → (ks : List Row) → map f ks ≡ map g ks
  same_at f g same [] = refl
  same_at f g same (k ∷ ks) = λ i. same k i ∷ same_at f g same ks i

  pub same_keys : (xs ys : List Row) → ((k : Row) → list_any (eq_by_cmp row_cmp k) xs ≡ list_any (eq_by_cmp row_cmp k) ys)
      → ascending_set row_cmp (shape.certain ++ xs) ≡ ascending_set row_cmp (shape.certain ++ ys)
  same_keys xs ys same = same_ascending_set row_total row_exact (shape.certain ++ xs) (shape.certain ++ ys)
      (λ q. list_any-append (eq_by_cmp row_cmp q) shape.certain xs ∙ ap (λ b. list_any (eq_by_cmp row_cmp q) shape.certain || b) (same q)
      ∙ sym (list_any-append (eq_by_cmp row_cmp q) shape.certain ys))

  -- two lists of groups with the same keys, and the same at each key, come to the same
  pub same_together : (gs hs : List Group) → ((k : Row) → has k gs ≡ has k hs) → ((k : Row) → at k gs ≡ at k hs) → together shape gs ≡ together shape hs
  same_together gs hs keys same =
      together-at gs ∙ same_at (λ k. at k gs) (λ k. at k hs) same (keys_of gs)
      ∙ ap (map (λ k. at k hs)) (same_keys (firsts (tagged gs)) (firsts (tagged hs)) keys)
      ∙ sym (together-at hs)

  -- where they stand beside the same keys in the same order, too
  pub any_beside : (k : Row) (gs : List Group) → has k gs ≡ list_any (λ g. true) (beside k (tagged gs))
  any_beside k [] = refl
  any_beside k (g ∷ gs) =
      elim (eq_by_cmp row_cmp k g.key) as (λ b. (b || has k gs) ≡ list_any (λ g. true) (map (λ (p : Row × Group). p.1)
      (cond b ((g.key, g) ∷ filter (λ (p : Row × Group). eq_by_cmp row_cmp k p.0) (tagged gs)) (filter (λ (p : Row × Group). eq_by_cmp row_cmp k p.0) (tagged gs))))) [
        | true ↦ refl
        | false ↦ any_beside k gs
      ]

  pub same_beside : (gs hs : List Group) → ((k : Row) → beside k (tagged gs) ≡ beside k (tagged hs)) → together shape gs ≡ together shape hs
  same_beside gs hs same = same_together gs hs
      (λ k. any_beside k gs ∙ ap (list_any (λ g. true)) (same k) ∙ sym (any_beside k hs))
      (λ k. ap (as_one shape k) (same k))

  -- ---- two groups of one key

  one_of_two : (k : Row) (g h : Group) (b c : Bool) → b ≡ c
      → as_one shape k (map (λ (p : Row × Group). p.1) (cond b ((g.key, g) ∷ cond c ((h.key, h) ∷ []) []) (cond c ((h.key, h) ∷ []) [])))
      ≡ as_one shape k (map (λ (p : Row × Group). p.1) (cond c ((h.key, merge_groups g h) ∷ []) []))
  one_of_two k g h true true e = sym (merge_groups-assoc g h (as_one shape k []))
  one_of_two k g h true false e = cc
  one_of_two k g h false true e = cc
  one_of_two k g h false false e = refl

  has_two : (b c : Bool) → b ≡ c → (b || (c || false)) ≡ (c || false)
  has_two true true e = refl
  has_two true false e = cc
  has_two false true e = cc
  has_two false false e = refl

  pub merge_two : (g h : Group) → g.key ≡ h.key → together shape (g ∷ h ∷ []) ≡ together shape (merge_groups g h ∷ [])
  merge_two g h same = same_together (g ∷ h ∷ []) (merge_groups g h ∷ [])
      (λ k. has_two (eq_by_cmp row_cmp k g.key) (eq_by_cmp row_cmp k h.key) (ap (eq_by_cmp row_cmp k) same))
      (λ k. one_of_two k g h (eq_by_cmp row_cmp k g.key) (eq_by_cmp row_cmp k h.key) (ap (eq_by_cmp row_cmp k) same))

  -- ---- rows one by one

  abbrev pub single : Row × Row → Group
  single p = group_of_rows shape p.0 (p.1 ∷ [])

  firsts-single : (kept : List (Row × Row)) → firsts (tagged (map single kept)) ≡ firsts kept
  firsts-single [] = refl
  firsts-single (p ∷ kept) = ap (λ (ks : List Row). p.0 ∷ ks) (firsts-single kept)

  at-single : (k : Row) (kept : List (Row × Row)) → at k (map single kept) ≡ group_of_rows shape k (beside k kept)
  at-single k [] = refl
  at-single k (p ∷ kept) =
      elim (eq_by_cmp row_cmp k p.0) as (λ b.
      as_one shape k (map (λ (q : Row × Group). q.1) (cond b ((p.0, single p) ∷ filter (λ (q : Row × Group). eq_by_cmp row_cmp k q.0) (tagged (map single kept))) (filter (λ (q : Row × Group). eq_by_cmp row_cmp k q.0) (tagged (map single kept)))))
      ≡ group_of_rows shape k (map (λ (q : Row × Row). q.1) (cond b (p ∷ filter (λ (q : Row × Row). eq_by_cmp row_cmp k q.0) kept) (filter (λ (q : Row × Row). eq_by_cmp row_cmp k q.0) kept)))) [
        | true ↦ ap (merge_groups (single p)) (at-single k kept) ∙ sym (of_rows-append k (p.1 ∷ []) (beside k kept))
        | false ↦ at-single k kept
      ]

  fused_rows : (b : Row → List Row) (ks : List Row) → map (λ (g : Row × List Row). group_of_rows shape g.0 g.1) (map (λ k. (k, b k)) ks) ≡ map (λ k. group_of_rows shape k (b k)) ks
  fused_rows b [] = refl
  fused_rows b (k ∷ ks) = ap (λ (gs : List Group). group_of_rows shape k (b k) ∷ gs) (fused_rows b ks)

  -- rows come to their groups
  pub singles : (kept : List (Row × Row)) → together shape (map single kept) ≡ groups_of_rows shape kept
  singles kept =
      together-at (map single kept)
      ∙ same_at (λ k. at k (map single kept)) (λ k. group_of_rows shape k (beside k kept)) (λ k. at-single k kept) (keys_of (map single kept))
      ∙ ap (λ (ks : List Row). map (λ k. group_of_rows shape k (beside k kept)) (ascending_set row_cmp (shape.certain ++ ks))) (firsts-single kept)
      ∙ sym (fused_rows (λ k. beside k kept) (ascending_set row_cmp (shape.certain ++ firsts kept)))

  -- ---- parts

  module _ (grows : Grows shape) where
    pub before : (xs : List Group) (gs hs : List Group) → together shape gs ≡ together shape hs → together shape (gs ++ xs) ≡ together shape (hs ++ xs)
    before xs gs hs e = sym (grows.again gs xs) ∙ ap (λ (t : List Group). together shape (t ++ xs)) e ∙ grows.again hs xs

    pub behind : (xs : List Group) (gs hs : List Group) → together shape gs ≡ together shape hs → together shape (xs ++ gs) ≡ together shape (xs ++ hs)
    behind xs gs hs e = grows.turned xs gs ∙ before xs gs hs e ∙ grows.turned hs xs

    -- a group goes to the end
    pub to_end : (g : Group) (gs : List Group) → together shape (g ∷ gs) ≡ together shape (gs ++ g ∷ [])
    to_end g gs = grows.turned (g ∷ []) gs

    -- a group of no row adds nothing where its key has a group
    pub none_more : (k : Row) (gs : List Group) (i : ℕ) (d : Group) → i < length gs → (get_or gs i d).key ≡ k → IsWide (get_or gs i d) → together shape (group_of_rows shape k [] ∷ gs) ≡ together shape gs
    none_more k [] i d here is wide = absurd (omega (arith, here))
    none_more k (g ∷ gs) zero d here is wide =
        before gs (group_of_rows shape k [] ∷ g ∷ []) (g ∷ []) (merge_two (group_of_rows shape k []) g (sym is) ∙ ap (λ (h : Group). together shape (h ∷ [])) (none_merge k g wide))
    none_more k (g ∷ gs) (suc i) d here is wide =
        before gs (group_of_rows shape k [] ∷ g ∷ []) (g ∷ group_of_rows shape k [] ∷ []) (grows.turned (group_of_rows shape k [] ∷ []) (g ∷ []))
        ∙ behind (g ∷ []) (group_of_rows shape k [] ∷ gs) gs (none_more k gs i d (omega (arith, here)) is wide)

    -- a group more of a key that has a group index goes there
    pub merged_at_index : (gs : List Group) (p : ℕ) (h d : Group) → p < length gs → (get_or gs p d).key ≡ h.key
        → together shape (slice_set gs p (merge_groups (get_or gs p d) h)) ≡ together shape (gs ++ h ∷ [])
    merged_at_index [] p h d here same = absurd (omega (arith, here))
    merged_at_index (g ∷ gs) zero h d here same =
        sym (before gs (g ∷ h ∷ []) (merge_groups g h ∷ []) (merge_two g h same)) ∙ behind (g ∷ []) (h ∷ gs) (gs ++ h ∷ []) (to_end h gs)
    merged_at_index (g ∷ gs) (suc p) h d here same = behind (g ∷ []) (slice_set gs p (merge_groups (get_or gs p d) h)) (gs ++ h ∷ []) (merged_at_index gs p h d (omega (arith, here)) same)

    -- the order doesn't matter
    pub reversed : (gs : List Group) → together shape (reverse gs) ≡ together shape gs
    reversed [] = refl
    reversed (g ∷ gs) =
        ap (together shape) (reverse-append (g ∷ []) gs)
        ∙ grows.turned (reverse gs) (g ∷ [])
        ∙ behind (g ∷ []) (reverse gs) gs (reversed gs)
