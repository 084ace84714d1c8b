-- The groups that a table hands out are its own.
use Rattle.std.specs.Prelude.{◌≡◌, ℕ, zero, suc, ◌+◌, ◌<◌, ◌≤◌, Bool, true, false, cond, ◌||◌, List, [], ◌∷◌, ◌++◌, length, map, filter, reverse, drop, get_or, sum, All, IsPermutation}
use Rattle.std.specs.List.{list_any}
use Rattle.std.specs.Ordering.{eq_by_cmp, is_eq}
use Rattle.std.proofs.Common.{refl, sym, ap, subst, ◌∙◌, arith, append_assoc, inl, inr}
use Rattle.std.proofs.lemmas.Bool.{cases_lt}
use Rattle.std.proofs.lemmas.Cmp.{tied_itself}
use Rattle.std.proofs.lemmas.List.{length-map, get_or-map, ext_get_or, get_or_past, drop_all, drop_more, get_or_at, get_or_default, length_push, length-append}
use Rattle.std.proofs.lemmas.List.Sums.{sum-map}
use Rattle.std.proofs.lemmas.List.Sorted.{sum_by-IsPermutation, All-permutation, IsPermutation-map, IsPermutation-reverse, IsPermutation-trans, list_any-IsPermutation}
use Rattle.meaning.specs.declared.answer.Statistics.{Statistics}
use Rattle.meaning.specs.declared.answer.Group.{Group}
use Rattle.meaning.specs.Order.{Row, row_cmp, ascending_set, is_ascending}
use Rattle.meaning.specs.Aggregate.{no_statistics}
use Rattle.meaning.specs.Group.{beside}
use Rattle.meaning.proofs.Orders.{row_total, row_exact}
use Rattle.meaning.proofs.Sets.{filter-ascending_set, same_ascending_set, ascending_set_itself, no_length}
use Rattle.meaning.proofs.Groups.{beside_none}
use Rattle.meaning.proofs.Tests.{or_second}
use Rattle.accumulators.specs.Columns.{ColumnSpec, no_column}
use Rattle.aggregate_states.specs.State.{most_entries}
use Rattle.group_by.specs.Combined.{combined, IsFit, AreFit, IsInOrder}
use Rattle.group_by.specs.Groups.{all_rows, group_of_rows, as_one, together}
use Rattle.group_by.specs.GroupIndexes.{state_in, state_at, by_group_index, group_at, IsWellFormed}
use Rattle.group_index.specs.Keys.{empty_key}
use Rattle.group_by.specs.Shape.{Shape, shape_with}
use Rattle.group_keys.proofs.KeyRows.{one_row}
use Rattle.group_by.proofs.Growing.{grows_with}
use Rattle.group_by.proofs.Together.{merge_none, same_beside, together-at, any_beside, at, has, IsWide, reversed}
use Rattle.group_by.proofs.Batches.{kinds_of, by_group_index-length, by_group_index-at}
use Rattle.group_by.proofs.Combining.{reverse_cons, combined_together, combined_has, combined_ascends, combined_wide}

-- ---- a loop over the group indexes, the last first

pub group_more : (all now new : List Row) (key : Row) (rows : List ℕ) (columns : List ColumnSpec) (groups pushed : List Group) (g : Group) (n : ℕ)
    → now ++ drop (length now) all ≡ all → now ≡ new ++ key ∷ [] → n ≡ length new → g ≡ group_at rows columns key n
    → groups ≡ reverse (drop (length now) (by_group_index all rows columns)) → pushed ≡ groups ++ g ∷ [] → pushed ≡ reverse (drop (length new) (by_group_index all rows columns))
group_more all now new key rows columns groups pushed g n whole is at is_g so_far push =
    let b = by_group_index all rows columns in
    let m = length new in
    let rest = drop (length now) all in
    let all_is : all ≡ new ++ (key ∷ rest) = sym whole ∙ ap (λ (ys : List Row). ys ++ rest) is ∙ append_assoc new (key ∷ []) rest in
    let long : length now ≡ m + 1 = ap (λ (ys : List Row). length ys) is ∙ length_push new key in
    let long_all : length all ≡ m + suc (length rest) = ap (λ (ys : List Row). length ys) all_is ∙ length-append new (key ∷ rest) in
    let here : m < length all = omega (arith, long_all) in
    let read : get_or all m [] ≡ key = ap (λ (ys : List Row). get_or ys m []) all_is ∙ get_or_at new key rest [] m refl in
    let in_b : m < length b = subst (λ (i : ℕ). m < i) (sym (by_group_index-length all rows columns)) here in
    let at_m : g ≡ get_or b m g = is_g ∙ (λ i. group_at rows columns (sym read i) (at i)) ∙ sym (by_group_index-at all rows columns m g here) in
    push
    ∙ (λ i. so_far i ++ at_m i ∷ [])
    ∙ ap (λ (i : ℕ). reverse (drop i b) ++ get_or b m g ∷ []) long
    ∙ sym (ap reverse (drop_more b m g in_b) ∙ reverse_cons (get_or b m g) (drop (m + 1) b))

pub no_group_left : (all : List Row) (rows : List ℕ) (columns : List ColumnSpec) → drop (length all) (by_group_index all rows columns) ≡ []
no_group_left all rows columns = drop_all (length all) (by_group_index all rows columns) (let e = by_group_index-length all rows columns in omega (arith, e))

-- ---- what the groups are

module _ (keys : List Row) (rows : List ℕ) (columns : List ColumnSpec) (counted : length rows ≡ length keys)
    (within : (c group_index : ℕ) → (state_at columns c group_index).count ≤ get_or rows group_index 0) where
  pub rows_of : all_rows (by_group_index keys rows columns) ≡ sum rows
  rows_of =
      let b = by_group_index keys rows columns in
      let f : Group → ℕ = λ (g : Group). g.rows in
      let long : length (map f b) ≡ length keys = length-map b f ∙ by_group_index-length keys rows columns in
      sym (sum-map f b)
      ∙ ap sum (ext_get_or 0 (map f b) rows (long ∙ sym counted) (λ j l.
      let here : j < length keys = subst (λ (n : ℕ). j < n) long l in
      get_or-map f b j (group_at rows columns [] 0) 0 (subst (λ (n : ℕ). j < n) (sym (by_group_index-length keys rows columns)) here)
      ∙ ap f (by_group_index-at keys rows columns j (group_at rows columns [] 0) here)))

  pub group_fit : (j : ℕ) (key : Row) → IsFit (length columns) (group_at rows columns key j)
  group_fit j key = record {
    wide = length-map columns (λ (c : ColumnSpec). state_in c j);
    within = λ c. elim (cases_lt c (length columns)) [
      | inl l ↦ (
          let read : (get_or (map (λ (col : ColumnSpec). state_in col j) columns) c no_statistics).count ≡ (state_at columns c j).count =
          ap (λ (s : Statistics). s.count) (get_or-map (λ (col : ColumnSpec). state_in col j) columns c no_column no_statistics l) in
          let few = within c j in
          omega (arith, read, few))
      | inr past ↦ (
          let read : (get_or (map (λ (col : ColumnSpec). state_in col j) columns) c no_statistics).count ≡ 0 =
          ap (λ (s : Statistics). s.count) (get_or_past (map (λ (col : ColumnSpec). state_in col j) columns) c no_statistics (subst (λ (n : ℕ). n ≤ c) (sym (length-map columns (λ (col : ColumnSpec). state_in col j))) past)) in
          omega (arith, read))
    ];
  }

  pub groups_fit : (groups sorted : List Group) → groups ≡ reverse (by_group_index keys rows columns) → IsPermutation groups sorted → sum rows ≤ most_entries → AreFit (length columns) sorted
  groups_fit groups sorted is moved few =
      let b = by_group_index keys rows columns in
      let whole : IsPermutation b sorted = IsPermutation-trans b groups sorted (subst (λ (gs : List Group). IsPermutation b gs) (sym is) (IsPermutation-reverse b)) moved in
      let total : all_rows sorted ≡ sum rows = sum_by-IsPermutation (λ (g : Group). g.rows) b sorted whole ∙ rows_of in
      record {
        fit = All-permutation (IsFit (length columns)) b sorted whole
            (λ j d l. let here : j < length keys = subst (λ (n : ℕ). j < n) (by_group_index-length keys rows columns) l in subst (λ (g : Group). IsFit (length columns) g) (sym (by_group_index-at keys rows columns j d here)) (group_fit j (get_or keys j [])));
        few = omega (arith, total, few);
      }

-- ---- groups in strict order

any_none : (k : Row) (ks : List Row) → filter (eq_by_cmp row_cmp k) ks ≡ [] → list_any (eq_by_cmp row_cmp k) ks ≡ false
any_none k [] e = refl
any_none k (j ∷ ks) e =
    elim (eq_by_cmp row_cmp k j) as (λ b. cond b (j ∷ filter (eq_by_cmp row_cmp k) ks) (filter (eq_by_cmp row_cmp k) ks) ≡ [] → (b || list_any (eq_by_cmp row_cmp k) ks) ≡ false) [
      | true ↦ λ e. cc
      | false ↦ any_none k ks
    ] e

any_some : (k : Row) (ks : List Row) (i : ℕ) → i < length ks → get_or ks i [] ≡ k → (filter (eq_by_cmp row_cmp k) ks ≡ []) → ⊥
any_some k [] i l is e = omega (arith, l)
any_some k (j ∷ ks) zero l is e =
    let same : eq_by_cmp row_cmp k j ≡ true = ap (eq_by_cmp row_cmp k) is ∙ ap is_eq (tied_itself row_total k) in
    let f : cond true (j ∷ filter (eq_by_cmp row_cmp k) ks) (filter (eq_by_cmp row_cmp k) ks) ≡ [] = ap (λ b. cond b (j ∷ filter (eq_by_cmp row_cmp k) ks) (filter (eq_by_cmp row_cmp k) ks)) (sym same) ∙ e in
    cc
any_some k (j ∷ ks) (suc i) l is e =
    elim (eq_by_cmp row_cmp k j) as (λ b. cond b (j ∷ filter (eq_by_cmp row_cmp k) ks) (filter (eq_by_cmp row_cmp k) ks) ≡ [] → ⊥) [
      | true ↦ λ e. cc
      | false ↦ any_some k ks i (omega (arith, l)) is
    ] e

abbrev tags : List Group → List (Row × Group)
tags gs = map (λ (g : Group). (g.key, g)) gs

abbrev keys_in : List Group → List Row
keys_in gs = map (λ (g : Group). g.key) gs

firsts_are : (gs : List Group) → map (λ (p : Row × Group). p.0) (tags gs) ≡ keys_in gs
firsts_are [] = refl
firsts_are (g ∷ gs) = ap (λ (ks : List Row). g.key ∷ ks) (firsts_are gs)

-- where a key stands once, its group alone stands beside it
once : (k : Row) (gs : List Group) (i : ℕ) (d : Group) → i < length gs → (get_or gs i d).key ≡ k → length (filter (eq_by_cmp row_cmp k) (keys_in gs)) ≡ 1 → beside k (tags gs) ≡ get_or gs i d ∷ []
once k [] i d l is one = absurd (omega (arith, l))
once k (g ∷ gs) zero d l is one =
    let same : eq_by_cmp row_cmp k g.key ≡ true = ap (eq_by_cmp row_cmp k) is ∙ ap is_eq (tied_itself row_total k) in
    let others = filter (λ (p : Row × Group). eq_by_cmp row_cmp k p.0) (tags gs) in
    let rest : length (filter (eq_by_cmp row_cmp k) (keys_in gs)) ≡ 0 =
    (let e : suc (length (filter (eq_by_cmp row_cmp k) (keys_in gs))) ≡ 1 = ap (λ b. length (cond b (g.key ∷ filter (eq_by_cmp row_cmp k) (keys_in gs)) (filter (eq_by_cmp row_cmp k) (keys_in gs)))) (sym same) ∙ one in omega (arith, e)) in
    let none : beside k (tags gs) ≡ [] = beside_none k (tags gs) (ap (list_any (eq_by_cmp row_cmp k)) (firsts_are gs) ∙ any_none k (keys_in gs) (no_length (filter (eq_by_cmp row_cmp k) (keys_in gs)) rest)) in
    ap (λ b. map (λ (p : Row × Group). p.1) (cond b ((g.key, g) ∷ others) others)) same ∙ ap (λ (hs : List Group). g ∷ hs) none
once k (g ∷ gs) (suc i) d l is one =
    let others = filter (λ (p : Row × Group). eq_by_cmp row_cmp k p.0) (tags gs) in
    let more = filter (eq_by_cmp row_cmp k) (keys_in gs) in
    elim (eq_by_cmp row_cmp k g.key) as (λ b. length (cond b (g.key ∷ more) more) ≡ 1 → map (λ (p : Row × Group). p.1) (cond b ((g.key, g) ∷ others) others) ≡ get_or gs i d ∷ []) [
      | true ↦ λ one. absurd (any_some k (keys_in gs) i (subst (λ (n : ℕ). i < n) (sym (length-map gs (λ (h : Group). h.key))) (let e : i < length gs = omega (arith, l) in e))
          (get_or-map (λ (h : Group). h.key) gs i d [] (omega (arith, l)) ∙ is) (no_length more (let e : suc (length more) ≡ 1 = one in omega (arith, e))))
      | false ↦ once k gs i d (omega (arith, l)) is
    ] one

module _ (is_certain : Bool) (columns : List ColumnSpec) where
  abbrev shape : Shape
  shape = shape_with is_certain (kinds_of columns)

  certain_within : (b : Bool) (ks : List Row) → (b ≡ true → list_any (eq_by_cmp row_cmp []) ks ≡ true) → (k : Row) → list_any (eq_by_cmp row_cmp k) (empty_key b ++ ks) ≡ list_any (eq_by_cmp row_cmp k) ks
  certain_within false ks there k = refl
  certain_within true ks there k =
      elim (eq_by_cmp row_cmp k []) as (λ b. eq_by_cmp row_cmp k [] ≡ b → (b || list_any (eq_by_cmp row_cmp k) ks) ≡ list_any (eq_by_cmp row_cmp k) ks) [
        | true ↦ λ e. sym (ap (λ (q : Row). list_any (eq_by_cmp row_cmp q) ks) (one_row k [] e) ∙ there refl)
        | false ↦ λ e. refl
      ] refl

  -- groups in strict order, with the certain key among them, are their own table
  pub itself : (gs : List Group) → is_ascending row_cmp (keys_in gs) ≡ true → ((j : ℕ) (d : Group) → j < length gs → IsWide shape (get_or gs j d))
      → (is_certain ≡ true → list_any (eq_by_cmp row_cmp []) (keys_in gs) ≡ true) → together shape gs ≡ gs
  itself gs up wide there =
      let ks = keys_in gs in
      let d : Group = group_of_rows shape [] [] in
      let f : Row → Group = λ (k : Row). at shape k gs in
      let set : ascending_set row_cmp ks ≡ ks = ascending_set_itself row_total ks up in
      let keys_are : ascending_set row_cmp (empty_key is_certain ++ map (λ (p : Row × Group). p.0) (tags gs)) ≡ ks =
      ap (λ (xs : List Row). ascending_set row_cmp (empty_key is_certain ++ xs)) (firsts_are gs)
      ∙ same_ascending_set row_total row_exact (empty_key is_certain ++ ks) ks (certain_within is_certain ks there) ∙ set in
      let long : length ks ≡ length gs = length-map gs (λ (g : Group). g.key) in
      let long_map : length (map f ks) ≡ length gs = length-map ks f ∙ long in
      together-at shape gs ∙ ap (map f) keys_are
      ∙ ext_get_or d (map f ks) gs long_map
      (λ j l.
      let here : j < length gs = subst (λ (n : ℕ). j < n) long_map l in
      let in_ks : j < length ks = subst (λ (n : ℕ). j < n) (sym long) here in
      let g = get_or gs j d in
      let key : get_or ks j [] ≡ g.key = get_or-map (λ (h : Group). h.key) gs j d [] here in
      let one : length (filter (eq_by_cmp row_cmp g.key) ks) ≡ 1 =
      ap (λ (xs : List Row). length (filter (eq_by_cmp row_cmp g.key) xs)) (sym set)
      ∙ ap (λ (xs : List Row). length xs) (filter-ascending_set row_total row_exact g.key ks)
      ∙ ap (λ b. length (cond b (g.key ∷ []) [])) (any_at g.key ks j in_ks key) in
      get_or-map f ks j [] d in_ks ∙ ap f key ∙ ap (as_one shape g.key) (once g.key gs j d here refl one) ∙ merge_none shape g (wide j d here))
    where
      any_at : (k : Row) (ks : List Row) (j : ℕ) → j < length ks → get_or ks j [] ≡ k → list_any (eq_by_cmp row_cmp k) ks ≡ true
      any_at k [] j l is = absurd (omega (arith, l))
      any_at k (x ∷ ks) zero l is = ap (λ b. b || list_any (eq_by_cmp row_cmp k) ks) (ap (eq_by_cmp row_cmp k) is ∙ ap is_eq (tied_itself row_total k))
      any_at k (x ∷ ks) (suc j) l is = or_second (eq_by_cmp row_cmp k x) (list_any (eq_by_cmp row_cmp k) ks) (any_at k ks j (omega (arith, l)) is)

-- ---- all of it

module _ (is_certain : Bool) (keys : List Row) (rows : List ℕ) (columns : List ColumnSpec) (taken : ℕ) (groups : List Group)
    (are : IsWellFormed is_certain keys rows columns taken) (order : IsInOrder keys rows columns groups) where
  abbrev the_shape : Shape
  the_shape = shape_with is_certain (kinds_of columns)

  few_rows : sum rows ≤ most_entries
  few_rows = let t = are.total in let f = are.few in omega (arith, t, f)

  wide : (j : ℕ) (d : Group) → j < length (combined order.sorted) → IsWide the_shape (get_or (combined order.sorted) j d)
  wide j d l =
      let fit = groups_fit keys rows columns are.counted are.within (reverse (by_group_index keys rows columns)) order.sorted refl order.moved few_rows in
      combined_wide (length columns) order.sorted fit j d l ∙ sym (length-map columns (λ (c : ColumnSpec). c.kind))

  -- the no_length key is there where it has a group in any case
  certain_there : is_certain ≡ true → list_any (eq_by_cmp row_cmp []) (keys_in (combined order.sorted)) ≡ true
  certain_there e =
      let b = by_group_index keys rows columns in
      let first = are.certain e in
      let d = group_at rows columns [] 0 in
      let in_b : 0 < length b = subst (λ (n : ℕ). 0 < n) (sym (by_group_index-length keys rows columns)) first.0 in
      let here : has the_shape [] b ≡ true = has_at b in_b (ap (λ (g : Group). g.key) (by_group_index-at keys rows columns 0 d first.0) ∙ first.1) in
      ap (list_any (eq_by_cmp row_cmp [])) (sym (firsts_are (combined order.sorted)))
      ∙ combined_has the_shape (grows_with is_certain (kinds_of columns)) [] order.sorted
      ∙ any_beside the_shape [] order.sorted ∙ ap (list_any (λ g. true)) (order.beside []) ∙ sym (any_beside the_shape [] (reverse b))
      ∙ has_reversed b here
    where
      has_at : (gs : List Group) → 0 < length gs → (get_or gs 0 (group_at rows columns [] 0)).key ≡ [] → has the_shape [] gs ≡ true
      has_at [] l is = absurd (omega (arith, l))
      has_at (g ∷ gs) l is = ap (λ (k : Row). eq_by_cmp row_cmp [] k || has the_shape [] gs) is

      has_reversed : (gs : List Group) → has the_shape [] gs ≡ true → has the_shape [] (reverse gs) ≡ true
      has_reversed gs e =
          ap (list_any (eq_by_cmp row_cmp [])) (firsts_are (reverse gs))
          ∙ sym (list_any-IsPermutation (eq_by_cmp row_cmp []) (keys_in gs) (keys_in (reverse gs)) (IsPermutation-map (λ (g : Group). g.key) gs (reverse gs) (IsPermutation-reverse gs)))
          ∙ ap (list_any (eq_by_cmp row_cmp [])) (sym (firsts_are gs)) ∙ e

  pub handed_out : groups ≡ together the_shape (by_group_index keys rows columns)
  handed_out =
      let grows = grows_with is_certain (kinds_of columns) in
      let b = by_group_index keys rows columns in
      order.are
      ∙ sym (itself is_certain columns (combined order.sorted) (combined_ascends order.sorted order.rises) wide certain_there)
      ∙ combined_together the_shape grows order.sorted
      ∙ same_beside the_shape order.sorted (reverse b) order.beside
      ∙ reversed the_shape grows b

pub all_heights : (columns : List ColumnSpec) (n : ℕ) → ((c : ℕ) → c < length columns → length (get_or columns c no_column).states ≡ n) → All (λ (c : ColumnSpec). length c.states ≡ n) columns
all_heights columns n heights k d l = ap (λ (c : ColumnSpec). length c.states) (get_or_default columns k d no_column l) ∙ heights k l

-- of keys, counts and columns that are the same
pub in_its_order : {keys other_keys : List Row} {rows other_rows : List ℕ} {columns other_columns : List ColumnSpec} {groups : List Group}
    → IsInOrder keys rows columns groups → keys ≡ other_keys → rows ≡ other_rows → columns ≡ other_columns → IsInOrder other_keys other_rows other_columns groups
in_its_order {groups = groups} order same_keys same_rows same_columns = subst (λ (p : List Row × List ℕ × List ColumnSpec). IsInOrder p.0 p.1 p.2 groups) (λ i. (same_keys i, same_rows i, same_columns i)) order
