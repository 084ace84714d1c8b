-- A fragment's own answer fits its plan and its cut.
use Rattle.std.specs.Prelude.{◌≡◌, ℕ, zero, suc, ◌+◌, ◌<◌, ◌≤◌, nat_lt, nat_le, Bool, true, false, cond, ◌&&◌, ◌||◌, List, [], ◌∷◌, ◌++◌, map, filter, length, sum, take, drop, slice_index, Option, Some, None, option_map}
use Rattle.std.specs.List.{list_all, list_any, enumerate_from, cons_option}
use Rattle.std.specs.Cmp.Lexicographic.{pointwise}
use Rattle.std.specs.Ordering.{eq_by_cmp, is_eq, is_lt, ordering_reverse}
use Rattle.std.specs.declared.cmp.Ordering.{Ordering}
use Rattle.std.specs.declared.cmp.Ordering.TheVariants.{Less, Equal, Greater}
use Rattle.std.proofs.Common.{refl, sym, ap, ◌∙◌, arith, append_assoc}
use Rattle.std.proofs.lemmas.Bool.{eq-eqb}
use Rattle.std.proofs.lemmas.Bool.Decides.{nat_tests}
use Rattle.std.proofs.lemmas.Cmp.{tied_itself}
use Rattle.std.proofs.lemmas.List.Sums.{sum_by-cons}
use Rattle.meaning.specs.declared.value.Value.{Value}
use Rattle.meaning.specs.declared.plan.Aggregate.{Aggregate}
use Rattle.meaning.specs.declared.plan.GroupingKey.{GroupingKey}
use Rattle.meaning.specs.declared.plan.Plan.{Plan}
use Rattle.meaning.specs.declared.answer.RowFault.{RowFault}
use Rattle.meaning.specs.declared.answer.Group.{Group}
use Rattle.meaning.specs.Said.{Body}
use Rattle.meaning.specs.declared.answer.Body.TheVariants.{Groups}
use Rattle.meaning.specs.Order.{Row, column, value_cmp, row_cmp, least, lesser, is_ascending, inserted_once, ascending_set}
use Rattle.meaning.specs.Cut.{Cut, Numbered, numbered, first_row, fragment}
use Rattle.meaning.specs.Joined.{combos}
use Rattle.meaning.specs.Judge.{fault_cmp, first_fault, judged, row_faults, row_fault, kept_rows}
use Rattle.meaning.specs.Group.{beside, certain_keys, groups, group_of}
use Rattle.meaning.specs.Answer.{body_of, own}
use Rattle.meaning.specs.Typing.{is_of_type, is_argument_of, is_typed_at, is_typed_on}
use Rattle.meaning.specs.Fitting.{is_key_of, is_state_of, is_group_of, is_shaped, is_possible, is_group_possible, are_rows_possible, is_fault_possible, are_sets_ascending, is_in_order, are_numbers_possible, fits}
use Rattle.meaning.specs.Dimensions.{AreDimensionsOf}
use Rattle.meaning.proofs.Orders.{row_total, row_exact}
use Rattle.meaning.proofs.Sets.{any-ascending_set, filter-ascending_set, is_ascending-ascending_set}
use Rattle.meaning.proofs.Groups.{entries_of, state_of, states_of}
use Rattle.meaning.proofs.Tests.{first_of, second_of, both, or_second, all_first, all_rest, all_append, all_imply, all_always, all_map, all_set, all_turned, list_any-append}
use Rattle.meaning_laws.proofs.StatisticsFit.{set_ascends, state_of_type, state_possible, nat_le_yes}
use Rattle.meaning_laws.proofs.KeptRows.{is_kept, rows_kept, few_kept, scopes_known, IsCode}

-- ---- the arguments of a group, column by column

column_behind : (pre : Row) (v : Value) (rest : Row) (n : ℕ) → n ≡ length pre → column (pre ++ v ∷ rest) n ≡ v
column_behind [] v rest n e = ap (column (v ∷ rest)) e
column_behind (p ∷ pre) v rest n e = ap (column ((p ∷ pre) ++ v ∷ rest)) e ∙ column_behind pre v rest (length pre) refl

-- each aggregate's column of a row is of its type
columns_fit : (aggs : List Aggregate) (pre rest : Row) (n : ℕ) → n ≡ length pre → pointwise is_argument_of aggs rest
    ≡ true → list_all (λ p. is_argument_of p.1 (column (pre ++ rest) p.0)) (enumerate_from n aggs) ≡ true
columns_fit [] pre rest n e typed = refl
columns_fit (a ∷ aggs) pre [] n e typed = cc
columns_fit (a ∷ aggs) pre (v ∷ rest) n e typed =
    both _ _ (ap (is_argument_of a) (column_behind pre v rest n e) ∙ first_of _ _ typed)
    (ap (λ row. list_all (λ p. is_argument_of p.1 (column row p.0)) (enumerate_from (n + 1) aggs))
    (sym (append_assoc pre (v ∷ []) rest))
    ∙ columns_fit aggs (pre ++ v ∷ []) rest (n + 1) (longer pre v n e) (second_of _ _ typed))
  where
    longer : (pre : Row) (v : Value) (n : ℕ) → n ≡ length pre → n + 1 ≡ length (pre ++ v ∷ [])
    longer [] v n e = omega arith
    longer (p ∷ pre) v n e = let rest : length pre + 1 ≡ length (pre ++ v ∷ []) = longer pre v (length pre) refl in
        omega arith

module _ (rows : List Row) where
  abbrev is_typed_column : ℕ × Aggregate → Bool
  is_typed_column p = list_all (λ row. is_argument_of p.1 (column row p.0)) rows

  states_shaped : (aggs : List Aggregate) (n : ℕ) → list_all is_typed_column (enumerate_from n aggs)
      ≡ true → pointwise is_state_of aggs (states_of (enumerate_from n aggs) rows) ≡ true
  states_shaped [] n e = refl
  states_shaped (a ∷ aggs) n e =
      both _ _ (state_of_type a (entries_of (n, a) rows)
      (all_map (is_argument_of a) (λ (row : Row). column row n) rows
      (all_first is_typed_column (n, a) (enumerate_from (n + 1) aggs) e)))
      (states_shaped aggs (n + 1) (all_rest is_typed_column (n, a) (enumerate_from (n + 1) aggs) e))

  length-entries : (n : ℕ) (rs : List Row) → length (map (λ (row : Row). column row n) rs) ≡ length rs
  length-entries n [] = refl
  length-entries n (r ∷ rs) = ap (λ m. suc m) (length-entries n rs)

  states_possible : (aggs : List Aggregate) (n : ℕ) → list_all is_typed_column (enumerate_from n aggs)
      ≡ true → pointwise (λ a s. is_possible a.kind (length rows) s) aggs (states_of (enumerate_from n aggs) rows)
      ≡ true
  states_possible [] n e = refl
  states_possible (a ∷ aggs) n e =
      both _ _
      (ap (λ m. is_possible a.kind m (state_of (a, entries_of (n, a) rows))) (sym (length-entries n rows))
      ∙ state_possible a (entries_of (n, a) rows)
      (all_map (is_argument_of a) (λ (row : Row). column row n) rows
      (all_first is_typed_column (n, a) (enumerate_from (n + 1) aggs) e)))
      (states_possible aggs (n + 1) (all_rest is_typed_column (n, a) (enumerate_from (n + 1) aggs) e))

  -- their sets ascend
  states_ascend : (aggs : List (ℕ × Aggregate)) → list_all (λ s. is_ascending value_cmp s.entries) (states_of aggs rows)
      ≡ true
  states_ascend [] = refl
  states_ascend (a ∷ aggs) = both _ _ (set_ascends a.1.kind (entries_of a rows)) (states_ascend aggs)

-- ---- the groups of typed kept rows

module _ (plan : Plan) (kept : List (Row × Row)) (typed : list_all (is_kept plan) kept ≡ true) where
  abbrev firsts : List (Row × Row) → List Row
  firsts ps = map (λ p. p.0) ps

  abbrev certain : List Row
  certain = certain_keys plan.plain plan.keys

  abbrev keys : List Row
  keys = ascending_set row_cmp (certain ++ firsts kept)

  certain_typed : (plain : Bool) (ks : List GroupingKey)
      → list_all (λ key. pointwise (λ k v. is_of_type k.col_type v) ks key) (certain_keys plain ks) ≡ true
  certain_typed true ks = refl
  certain_typed false [] = refl
  certain_typed false (k ∷ ks) = refl

  firsts_typed : (ps : List (Row × Row)) → list_all (is_kept plan) ps ≡ true → list_all (is_key_of plan) (firsts ps)
      ≡ true
  firsts_typed ps e = all_map (is_key_of plan) (λ (p : Row × Row). p.0) ps
      (all_imply (is_kept plan) (λ p. is_key_of plan p.0) (λ p. first_of _ _) ps e)

  keys_typed : list_all (is_key_of plan) keys ≡ true
  keys_typed = all_set row_cmp (is_key_of plan) (certain ++ firsts kept)
      (all_append (is_key_of plan) certain (firsts kept) (certain_typed plan.plain plan.keys) (firsts_typed kept typed))

  -- what stands beside a key is typed
  beside_typed : (k : Row) (ps : List (Row × Row)) → list_all (is_kept plan) ps
      ≡ true → list_all (λ row. pointwise is_argument_of plan.aggs row) (beside k ps) ≡ true
  beside_typed k [] e = refl
  beside_typed k (p ∷ ps) e =
      let rest = beside_typed k ps (all_rest (is_kept plan) p ps e) in
      let here = second_of (is_key_of plan p.0) (pointwise is_argument_of plan.aggs p.1)
      (all_first (is_kept plan) p ps e) in
      elim (eq_by_cmp row_cmp k p.0) as
      (λ b. list_all (λ row. pointwise is_argument_of plan.aggs row)
      (map (λ (p : Row × Row). p.1) (cond b (p ∷ filter (λ p. eq_by_cmp row_cmp k p.0) ps)
      (filter (λ p. eq_by_cmp row_cmp k p.0) ps))) ≡ true) [
        | true ↦ both _ _ here rest
        | false ↦ rest
      ]

  columns_typed : (k : Row) → list_all (is_typed_column (beside k kept)) (enumerate_from 0 plan.aggs) ≡ true
  columns_typed k =
      all_turned (λ (row : Row) (p : ℕ × Aggregate). is_argument_of p.1 (column row p.0)) (beside k kept)
      (enumerate_from 0 plan.aggs)
      (all_imply (λ row. pointwise is_argument_of plan.aggs row)
      (λ row. list_all (λ p. is_argument_of p.1 (column row p.0)) (enumerate_from 0 plan.aggs))
      (λ row e. columns_fit plan.aggs [] row 0 refl e) (beside k kept) (beside_typed k kept typed))

  abbrev group_at : Row → Group
  group_at k = group_of plan k (beside k kept)

  abbrev known : List Group
  known = map (λ g. group_of plan g.0 g.1) (groups plan kept)

  -- the groups, by their keys
  known_is : (ks : List Row) → map (λ (g : Row × List Row). group_of plan g.0 g.1) (map (λ k. (k, beside k kept)) ks)
      ≡ map group_at ks
  known_is [] = refl
  known_is (k ∷ ks) = ap (λ gs. group_at k ∷ gs) (known_is ks)

  groups_shaped : list_all (is_group_of plan) known ≡ true
  groups_shaped =
      ap (list_all (is_group_of plan)) (known_is keys)
      ∙ all_map (is_group_of plan) group_at keys
      (all_imply (is_key_of plan) (λ k. is_group_of plan (group_at k))
      (λ k e. both _ _ e (states_shaped (beside k kept) plan.aggs 0 (columns_typed k))) keys keys_typed)

  groups_possible : list_all (is_group_possible plan) known ≡ true
  groups_possible =
      ap (list_all (is_group_possible plan)) (known_is keys)
      ∙ all_map (is_group_possible plan) group_at keys
      (all_always (λ k. is_group_possible plan (group_at k))
      (λ k. states_possible (beside k kept) plan.aggs 0 (columns_typed k)) keys)

  keys_of : (ks : List Row) → map (λ (g : Group). g.key) (map group_at ks) ≡ ks
  keys_of [] = refl
  keys_of (k ∷ ks) = ap (λ js. k ∷ js) (keys_of ks)

  keys_ascend : is_ascending row_cmp (map (λ (g : Group). g.key) known) ≡ true
  keys_ascend = ap (λ gs. is_ascending row_cmp (map (λ (g : Group). g.key) gs)) (known_is keys)
      ∙ ap (is_ascending row_cmp) (keys_of keys) ∙ is_ascending-ascending_set row_total (certain ++ firsts kept)

  sets_ascend : list_all are_sets_ascending known ≡ true
  sets_ascend =
      ap (list_all are_sets_ascending) (known_is keys)
      ∙ all_map are_sets_ascending group_at keys
      (all_always (λ k. are_sets_ascending (group_at k))
      (λ k. states_ascend (beside k kept) (enumerate_from 0 plan.aggs)) keys)

  -- ---- how many rows

  abbrev count_at : List (Row × Row) → Row → ℕ
  count_at ps k = length (beside k ps)

  rows_of : (ks : List Row) → map (λ (g : Group). g.rows) (map group_at ks) ≡ map (count_at kept) ks
  rows_of [] = refl
  rows_of (k ∷ ks) = ap (λ ns. count_at kept k ∷ ns) (rows_of ks)

  turned : (r : Ordering) → is_eq (ordering_reverse r) ≡ is_eq r
  turned Less = refl
  turned Equal = refl
  turned Greater = refl

  tie_turned : (a b : Row) → eq_by_cmp row_cmp a b ≡ eq_by_cmp row_cmp b a
  tie_turned a b = ap is_eq (row_total.antisymm a b) ∙ turned (row_cmp b a)

  none_beside : (ks : List Row) → sum (map (count_at []) ks) ≡ 0
  none_beside [] = refl
  none_beside (k ∷ ks) = let rest = none_beside ks in let all = sum_by-cons (λ (n : ℕ). n) 0 (map (count_at []) ks) in
      omega arith

  -- one more row is counted at each key that it has
  one_beside : (p : Row × Row) (ps : List (Row × Row)) (ks : List Row) → sum (map (count_at (p ∷ ps)) ks)
      ≡ length (filter (eq_by_cmp row_cmp p.0) ks) + sum (map (count_at ps) ks)
  one_beside p ps [] = omega arith
  one_beside p ps (k ∷ ks) =
      let rest = one_beside p ps ks in
      let whole = sum_by-cons (λ (n : ℕ). n) (count_at (p ∷ ps) k) (map (count_at (p ∷ ps)) ks) in
      let part = sum_by-cons (λ (n : ℕ). n) (count_at ps k) (map (count_at ps) ks) in
      let here : count_at (p ∷ ps) k + length (filter (eq_by_cmp row_cmp p.0) ks)
      ≡ length (filter (eq_by_cmp row_cmp p.0) (k ∷ ks)) + count_at ps k =
      counted (eq_by_cmp row_cmp k p.0) (eq_by_cmp row_cmp p.0 k) (tie_turned k p.0) p
      (filter (λ p. eq_by_cmp row_cmp k p.0) ps) k (filter (eq_by_cmp row_cmp p.0) ks) in
      omega arith
    where
      counted : (b c : Bool) → b ≡ c → (p : Row × Row) (ps : List (Row × Row)) (k : Row) (ks : List Row) →
          length (map (λ (p : Row × Row). p.1) (cond b (p ∷ ps) ps)) + length ks
          ≡ length (cond c (k ∷ ks) ks) + length (map (λ (p : Row × Row). p.1) ps)
      counted true true e p ps k ks = omega arith
      counted true false e p ps k ks = cc
      counted false true e p ps k ks = cc
      counted false false e p ps k ks = omega arith

  -- where each row has a key of the set, the groups have as many rows
  all_counted : (ps : List (Row × Row)) → list_all (λ p. list_any (eq_by_cmp row_cmp p.0) (certain ++ firsts kept)) ps
      ≡ true → sum (map (count_at ps) keys) ≡ length ps
  all_counted [] e = none_beside keys
  all_counted (p ∷ ps) e =
      let rest = all_counted ps (all_rest
      (λ (p : Row × Row). list_any (eq_by_cmp row_cmp p.0) (certain ++ firsts kept)) p ps e) in
      let once : length (filter (eq_by_cmp row_cmp p.0) keys)
      ≡ 1 = ap length (filter-ascending_set row_total row_exact p.0 (certain ++ firsts kept))
      ∙ ap (λ b. length (cond b (p.0 ∷ []) []))
      (all_first (λ (p : Row × Row). list_any (eq_by_cmp row_cmp p.0) (certain ++ firsts kept)) p ps e) in
      let more = one_beside p ps keys in
      omega arith

  itself : (k : Row) → eq_by_cmp row_cmp k k ≡ true
  itself k = ap is_eq (tied_itself row_total k)

  among : (pre : List Row) (k : Row) (ks : List Row) → list_any (eq_by_cmp row_cmp k) (pre ++ k ∷ ks) ≡ true
  among pre k ks = list_any-append (eq_by_cmp row_cmp k) pre (k ∷ ks)
      ∙ or_second _ _ (ap (λ b. b || list_any (eq_by_cmp row_cmp k) ks) (itself k))

  all_among : (pre : List Row) (ps : List (Row × Row))
      → list_all (λ p. list_any (eq_by_cmp row_cmp p.0) (pre ++ firsts ps)) ps ≡ true
  all_among pre [] = refl
  all_among pre (p ∷ ps) =
      both _ _ (among pre p.0 (firsts ps))
      (ap (λ ks. list_all (λ (p : Row × Row). list_any (eq_by_cmp row_cmp p.0) ks) ps)
      (sym (append_assoc pre (p.0 ∷ []) (firsts ps))) ∙ all_among (pre ++ p.0 ∷ []) ps)

  pub rows_counted : sum (map (λ (g : Group). g.rows) known) ≡ length kept
  rows_counted = ap (λ gs. sum (map (λ (g : Group). g.rows) gs)) (known_is keys) ∙ ap sum (rows_of keys)
      ∙ all_counted kept (all_among certain kept)

  -- ---- no group without a row, but for the one that is always there

  some_beside : (k : Row) (ps : List (Row × Row)) → list_any (eq_by_cmp row_cmp k) (firsts ps)
      ≡ true → 1 ≤ count_at ps k
  some_beside k [] e = cc
  some_beside k (p ∷ ps) e =
      elim (eq_by_cmp row_cmp k p.0) as
      (λ b. (b || list_any (eq_by_cmp row_cmp k) (firsts ps))
      ≡ true → 1 ≤ length (map (λ (p : Row × Row). p.1)
      (cond b (p ∷ filter (λ p. eq_by_cmp row_cmp k p.0) ps) (filter (λ p. eq_by_cmp row_cmp k p.0) ps)))) [
        | true ↦ λ _. omega arith
        | false ↦ λ e. some_beside k ps e
      ] e

  own_members : (pre ks : List Row) → list_all (λ k. list_any (eq_by_cmp row_cmp k) (pre ++ ks)) ks ≡ true
  own_members pre [] = refl
  own_members pre (k ∷ ks) =
      both _ _ (among pre k ks)
      (ap (λ js. list_all (λ k. list_any (eq_by_cmp row_cmp k) js) ks) (sym (append_assoc pre (k ∷ []) ks))
      ∙ own_members (pre ++ k ∷ []) ks)

  -- a row without columns, and no other
  empty_row : (row : Row) → pointwise (λ (k : GroupingKey) v. is_of_type k.col_type v) [] row ≡ true → row ≡ []
  empty_row [] e = refl
  empty_row (v ∷ row) e = cc

  one_empty : (xs : List Row) → list_all (λ row. pointwise (λ (k : GroupingKey) v. is_of_type k.col_type v) [] row) xs
      ≡ true → ascending_set row_cmp ([] ∷ xs) ≡ [] ∷ []
  one_empty [] e = refl
  one_empty (x ∷ xs) e =
      ap (λ row. ascending_set row_cmp ([] ∷ row ∷ xs))
      (empty_row x (all_first (λ row. pointwise (λ (k : GroupingKey) v. is_of_type k.col_type v) [] row) x xs e))
      ∙ ap (inserted_once row_cmp []) (one_empty xs
      (all_rest (λ row. pointwise (λ (k : GroupingKey) v. is_of_type k.col_type v) [] row) x xs e))

  no_empty_group : certain ≡ [] → list_all (λ (g : Group). nat_le 1 g.rows) known ≡ true
  no_empty_group none =
      ap (list_all (λ (g : Group). nat_le 1 g.rows)) (known_is keys)
      ∙ all_map (λ (g : Group). nat_le 1 g.rows) group_at keys
      (all_imply (λ k. list_any (eq_by_cmp row_cmp k) keys) (λ k. nat_le 1 (count_at kept k))
      (λ k e. nat_le_yes 1 (count_at kept k)
      (some_beside k kept (ap (λ c. list_any (eq_by_cmp row_cmp k) (c ++ firsts kept)) (sym none)
      ∙ sym (any-ascending_set row_total k (certain ++ firsts kept)) ∙ e)))
      keys (own_members [] keys))

  length-groups : (ks : List Row) → length (map group_at ks) ≡ length ks
  length-groups [] = refl
  length-groups (k ∷ ks) = ap (λ n. suc n) (length-groups ks)

  just_one : certain ≡ [] ∷ [] → plan.keys ≡ [] → length known ≡ 1
  just_one one none =
      let bare : list_all (λ row. pointwise (λ (k : GroupingKey) v. is_of_type k.col_type v) [] row) (firsts kept)
      ≡ true = ap (λ ks. list_all (λ row. pointwise (λ (k : GroupingKey) v. is_of_type k.col_type v) ks row)
      (firsts kept)) (sym none) ∙ firsts_typed kept typed in
      ap length (known_is keys) ∙ length-groups keys ∙ ap (λ c. length (ascending_set row_cmp (c ++ firsts kept))) one
      ∙ ap length (one_empty (firsts kept) bare)

  rows_possible : (plain : Bool) (ks : List GroupingKey) → plan.plain ≡ plain → plan.keys
      ≡ ks → are_rows_possible (certain_keys plain ks) known ≡ true
  rows_possible true ks p e = no_empty_group (λ i. certain_keys (p i) (e i))
  rows_possible false [] p e = eq-eqb (length known) 1 (just_one (λ i. certain_keys (p i) (e i)) e)
  rows_possible false (k ∷ ks) p e = no_empty_group (λ i. certain_keys (p i) (e i))

-- ---- the numbers of a fragment's rows

drop-enumerate_from : (m a : ℕ) (xs : List Row) → drop m (enumerate_from a xs) ≡ enumerate_from (a + m) (drop m xs)
drop-enumerate_from zero a xs = ap (λ b. enumerate_from b xs) (omega arith)
drop-enumerate_from (suc m) a [] = refl
drop-enumerate_from (suc m) a (x ∷ xs) = drop-enumerate_from m (a + 1) xs
    ∙ ap (λ b. enumerate_from b (drop m xs)) (omega arith)

take-enumerate_from : (n a : ℕ) (xs : List Row) → take n (enumerate_from a xs) ≡ enumerate_from a (take n xs)
take-enumerate_from zero a xs = refl
take-enumerate_from (suc n) a [] = refl
take-enumerate_from (suc n) a (x ∷ xs) = ap (λ ys. (a, x) ∷ ys) (take-enumerate_from n (a + 1) xs)

few_taken : {X : Type 0} (n : ℕ) (xs : List X) → length (take n xs) ≤ n
few_taken zero xs = omega arith
few_taken (suc n) [] = omega arith
few_taken (suc n) (x ∷ xs) = let rest = few_taken n xs in omega arith

nat_lt_yes : (m n : ℕ) → m < n → nat_lt m n ≡ true
nat_lt_yes m n h = grind (arith, nat_tests)

module _ (first n : ℕ) where
  abbrev is_within : ℕ × Row → Bool
  is_within r = nat_le first r.0 && nat_lt r.0 (first + n)

  numbers_within : (a : ℕ) (xs : List Row) → first ≤ a → a + length xs ≤ first + n
      → list_all is_within (enumerate_from a xs) ≡ true
  numbers_within a [] low high = refl
  numbers_within a (x ∷ xs) low high =
      both _ _ (both _ _ (nat_le_yes first a low) (nat_lt_yes a (first + n) (omega arith)))
      (numbers_within (a + 1) xs (omega arith) (omega arith))

pub fragment_within : (cut : Cut) (k : ℕ) (rows : List Row)
    → list_all (is_within (first_row cut k) (slice_index cut k)) (fragment cut k rows) ≡ true
fragment_within cut k rows =
    let few = few_taken (slice_index cut k) (drop (first_row cut k) rows) in
    ap (λ rs. list_all (is_within (first_row cut k) (slice_index cut k)) (take (slice_index cut k) rs))
    (drop-enumerate_from (first_row cut k) 0 rows)
    ∙ ap (list_all (is_within (first_row cut k) (slice_index cut k)))
    (take-enumerate_from (slice_index cut k) (0 + first_row cut k) (drop (first_row cut k) rows))
    ∙ numbers_within (first_row cut k) (slice_index cut k) (0 + first_row cut k)
    (take (slice_index cut k) (drop (first_row cut k) rows)) (omega arith) (omega arith)

module _ (plan : Plan) (dims : List (List Row)) (first n : ℕ) where
  abbrev fault_in : ℕ × Row → Option RowFault
  fault_in r = option_map (λ c. record { row = r.0; code = c }) (first_fault (judged plan dims r.1))

  -- a fault or none
  abbrev is_none_or_possible : Option RowFault → Bool
  is_none_or_possible None = true
  is_none_or_possible (Some f) = is_fault_possible first n f

  fault_found : (number : ℕ) (c : Option ℕ) → is_within first n (number, [])
      ≡ true → IsCode plan c → is_none_or_possible (option_map (λ c. record { row = number; code = c }) c) ≡ true
  fault_found number None within code = refl
  fault_found number (Some c) within code = both _ _ code within

  lesser_possible : (a b : Option RowFault) → is_none_or_possible a ≡ true → is_none_or_possible b
      ≡ true → is_none_or_possible (lesser fault_cmp a b) ≡ true
  lesser_possible None b p q = q
  lesser_possible (Some f) None p q = p
  lesser_possible (Some f) (Some g) p q =
      elim (is_lt (fault_cmp g f)) as (λ b. is_none_or_possible (Some (cond b g f)) ≡ true) [ true ↦ q | false ↦ p ]

  least_behind : (f : Option RowFault) (fs : List RowFault) → is_none_or_possible f
      ≡ true → is_none_or_possible (least fault_cmp fs)
      ≡ true → is_none_or_possible (least fault_cmp (cons_option f fs)) ≡ true
  least_behind None fs p q = q
  least_behind (Some f) fs p q = lesser_possible (Some f) (least fault_cmp fs) p q

  pub fault_possible : (rows : Numbered) → list_all (is_within first n) rows ≡ true → is_typed_on plan dims rows
      ≡ true → is_none_or_possible (row_fault plan dims rows) ≡ true
  fault_possible [] within typed = refl
  fault_possible (r ∷ rows) within typed =
      least_behind (fault_in r) (row_faults plan dims rows)
      (fault_found r.0 (first_fault (judged plan dims r.1)) (all_first (is_within first n) r rows within)
      (scopes_known plan (combos plan dims r.1)
      (all_first (λ (r : ℕ × Row). list_all (is_typed_at plan) (combos plan dims r.1)) r rows typed)))
      (fault_possible rows (all_rest (is_within first n) r rows within)
      (all_rest (λ (r : ℕ × Row). list_all (is_typed_at plan) (combos plan dims r.1)) r rows typed))

-- ---- the answer

-- a body's shape, keys and numbers
abbrev body_fits : Plan → Cut → ℕ → Body → Bool
body_fits plan cut k body = is_shaped plan body &&
    (is_in_order body && are_numbers_possible plan (first_row cut k) (slice_index cut k) body)

groups_fit : (plan : Plan) (cut : Cut) (k : ℕ) (kept : List (Row × Row)) (typed : list_all (is_kept plan) kept ≡ true)
    → length kept ≤ slice_index cut k → body_fits plan cut k (Groups (known plan kept typed)) ≡ true
groups_fit plan cut k kept typed few =
    both _ _ (groups_shaped plan kept typed)
    (both _ _ (both _ _ (keys_ascend plan kept typed) (sets_ascend plan kept typed))
    (both _ _ (ap (λ n. nat_le n (slice_index cut k)) (rows_counted plan kept typed)
    ∙ nat_le_yes (length kept) (slice_index cut k) few)
    (both _ _ (rows_possible plan kept typed plan.plain plan.keys refl refl) (groups_possible plan kept typed))))

-- a fragment's own answer fits
pub own_fits : (plan : Plan) (dims : List (List Row)) (cut : Cut) (rows : List Row) (k : ℕ) → k < length cut
    → AreDimensionsOf plan dims → is_typed_on plan dims (fragment cut k rows)
    ≡ true → fits plan cut (own plan dims cut rows k) ≡ true
own_fits plan dims cut rows k below are typed =
    let mine = fragment cut k rows in
    let kept = kept_rows plan dims mine in
    let kept_typed : list_all (is_kept plan) kept ≡ true = rows_kept plan dims mine typed in
    both _ _ (nat_lt_yes k (length cut) below)
    (elim (row_fault plan dims mine) as
    (λ f. is_none_or_possible plan dims (first_row cut k) (slice_index cut k) f
    ≡ true → body_fits plan cut k (body_of f (known plan kept kept_typed)) ≡ true) [
      | None ↦ λ _. groups_fit plan cut k kept kept_typed
          (omega (
            arith,
            few_kept plan dims mine are,
            few_taken (slice_index cut k)
                (drop (first_row cut k) (numbered rows)),
          ))
      | Some f ↦ λ possible. both _ _ refl (both _ _ refl possible)
    ] (fault_possible plan dims (first_row cut k) (slice_index cut k) mine (fragment_within cut k rows) typed))
