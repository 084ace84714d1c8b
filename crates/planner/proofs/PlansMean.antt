-- The plan that is defined is the query's.
use Rattle.std.proofs.Common.{◌≡◌, ℕ, ◌+◌, Bool, true, List, [], ◌∷◌, ◌++◌, map, filter, cond, Option, Some, None, option_to_list, Result, Ok, Err, IfOk, refl, ap, subst, sym, ◌∙◌, append_assoc}
use Rattle.std.specs.List.{enumerate_from}
use Rattle.std.proofs.lemmas.List.{append-nil}
use Rattle.meaning.specs.Results.{all_ok, and_then, with_result}
use Rattle.meaning.specs.declared.catalog.Catalog.{Catalog}
use Rattle.meaning.specs.declared.expr.Expr as plan
use Rattle.meaning.specs.declared.plan.Item as plan_item
use Rattle.meaning.specs.declared.plan.Join.{Join}
use Rattle.meaning.specs.declared.plan.OrderKey as plan_key
use Rattle.meaning.specs.declared.plan.Plan.{Plan}
use Rattle.sql_syntax.specs.declared.tree.Expr.{Expr}
use Rattle.sql_syntax.specs.declared.tree.Item.{Item}
use Rattle.sql_syntax.specs.declared.tree.Query.{Query}
use Rattle.planner_expressions.specs.declared.basis.Basis.{Basis}
use Rattle.planner_expressions.specs.declared.basis.Basis.TheVariants.{Groups}
use Rattle.planner_expressions.specs.declared.fault.PlanFault.{PlanFault}
use Rattle.planner_expressions.specs.declared.fault.PlanFault.TheVariants as fault
use Rattle.planner_expressions.specs.declared.scope.Scope.{Scope}
use Rattle.planner_expressions.specs.declared.sort.Sort.{Sort}
use Rattle.planner_expressions.specs.declared.sort.Sort.TheVariants.{Truth}
use Rattle.planner_expressions.specs.From.{scope_of}
use Rattle.planner_expressions.specs.Given.{given_in}
use Rattle.planner_expressions.specs.Judged.{judged}
use Rattle.planner_expressions.specs.Meant.{SameOnRows, SameOnGroups}
use Rattle.planner_expressions.specs.Results.{each_ok, Reports}
use Rattle.planner_expressions.specs.Sorts.{same_sort}
use Rattle.planner_expressions.specs.Spelled.{Spelling, spelled}
use Rattle.planner_expressions.specs.Translated.{translated}
use Rattle.planner_expressions.proofs.Accepted.{goes_there}
use Rattle.planner_expressions.proofs.Meaning.{groups_mean}
use Rattle.planner_clauses.specs.declared.conjuncts.Conjuncts.{Conjuncts}
use Rattle.planner_clauses.specs.declared.keys.Keys.{Keys}
use Rattle.planner.specs.declared.parts.Grouped.{Grouped}
use Rattle.planner.specs.declared.parts.Shown.{Shown}
use Rattle.planner.specs.declared.parts.Tables.{Tables}
use Rattle.planner_clauses.specs.Checked.{checked, conditions, row_conditions, conditions_checked, groups_checked, condition_check, item_check, on_trees}
use Rattle.planner_clauses.specs.Conjuncts.{row_expr}
use Rattle.planner_clauses.specs.Groups.{is_grouped, key_of, key_trees, keys_of, no_keys, with_key, with_keys, limits_check}
use Rattle.planner.specs.Planned.{conjuncts, no_conjuncts, joins_of, tables_of, tables_with, groups_of, groups_with, shown_of, shown_with, basis_of, plan_with, planned, planned_in}
use Rattle.planner.specs.PlanOf.{Pairwise, IsPlanOf, IsAPlanOf, IsItemOf, IsHavingOf, IsHeaderOf, IsHeadedAs, PlansMean, row_conjuncts, is_condition, key_spellings, aggregate_spellings}
use Rattle.planner_clauses.specs.Shown.{header, if_built, item_of, items_of, having_of, order_of, over_group, with_header}
use Rattle.planner.proofs.Headers.{headed}
use Rattle.planner.proofs.Counted.{are_aggregates, keys_mean}
use Rattle.planner.proofs.Conditions.{found_of_query, of_rows, IsFine, AreFine, both_fine, filtered_fine, all_parted, rows_mean_all}

-- ---- keys

pub keys_are : (s : Scope) (k : Keys) (es : List Expr) → with_keys s k es ≡ record { written = k.written ++ map (spelled s) es; list = k.list ++ map (key_of s) es }
keys_are s k [] = λ i. record { written = sym (append-nil k.written) i; list = sym (append-nil k.list) i }
keys_are s k (e ∷ es) =
    keys_are s (with_key s k e) es
    ∙ (λ i. record { written = append_assoc k.written (spelled s e ∷ []) (map (spelled s) es) i; list = append_assoc k.list (key_of s e ∷ []) (map (key_of s) es) i })

-- ---- conditions

as_true : (s : Scope) (b : Bool) (e : Expr) (z : Unit {0}) → condition_check s b e ≡ Ok z → (sort : Sort) × (judged s e b ≡ Ok sort)
as_true s b e z is = let there = goes_there (judged s e b) (λ sort. cond (same_sort Truth sort) (Ok tt) (Err fault.TypeMismatch)) z is in (there.0, there.1)

all_true : (s : Scope) (es : List Expr) (z : Unit {0}) → each_ok (map (condition_check s true) es) ≡ Ok z → AreFine s es
all_true s [] z is = tt
all_true s (e ∷ es) z is =
    let there = goes_there (condition_check s true e) (λ x. each_ok (map (condition_check s true) es)) z is in
    (as_true s true e there.0 there.1, all_true s es z there.2)

pub conditions_fine : (s : Scope) (q : Query) (z : Unit {0}) → checked s q ≡ Ok z → AreFine s (conditions q)
conditions_fine s q z is =
    let items = goes_there (each_ok (map (item_check s) q.items)) (λ x. and_then (conditions_checked s q) (λ y. groups_checked s q)) z is in
    let both = goes_there (conditions_checked s q) (λ y. groups_checked s q) z items.2 in
    let ons = goes_there (each_ok (map (condition_check s true) (on_trees q.source.others))) (λ x. each_ok (map (condition_check s true) (option_to_list q.filter))) both.0 both.1 in
    both_fine s (on_trees q.source.others) (option_to_list q.filter) (all_true s (on_trees q.source.others) ons.0 ons.1) (all_true s (option_to_list q.filter) both.0 ons.2)

-- ---- items and HAVING

built_there : (s : Scope) (b : Basis) (e : Expr) (x : plan.Expr) (o : Option plan.Expr) → o ≡ translated (given_in s b) e → if_built o ≡ Ok x → translated (given_in s b) e ≡ Some x
built_there s b e x None same is = absurd cc
built_there s b e x (Some y) same is = let here : y ≡ x = cc in sym same ∙ ap (λ (w : plan.Expr). Some w) here

module _ (s : Scope) (ks aggs : List Spelling) where
  abbrev basis : Basis
  basis = Groups ks aggs

  group_means : (e : Expr) (x : plan.Expr) → over_group s basis e ≡ Ok x → SameOnGroups s ks aggs x e
  group_means e x is = groups_mean s ks aggs e x (built_there s basis e x (translated (given_in s basis) e) refl is)

  item_means : (i : ℕ) (item : Item) (x : plan_item.Item) → item_of s basis (i, item) ≡ Ok x → SameOnGroups s ks aggs x.expr item.expr
  item_means i item x is =
      let there = goes_there (over_group s basis item.expr) (λ y. Ok (with_header (header (i, item)) y)) x is in
      let same : with_header (header (i, item)) there.0 ≡ x = cc in
      subst (λ (y : plan_item.Item). SameOnGroups s ks aggs y.expr item.expr) same (group_means item.expr there.0 there.1)

  front_there : {X : Type 0} (r : Result X PlanFault) (rs : Result (List X) PlanFault) (zs : List X) → with_result r rs ≡ Ok zs
      → (x : X) × ((xs : List X) × (r ≡ Ok x) × (rs ≡ Ok xs) × (zs ≡ x ∷ xs))
  front_there (Err e) rs zs is = absurd cc
  front_there (Ok x) (Err e) zs is = absurd cc
  front_there (Ok x) (Ok xs) zs is = (x, (xs, refl, refl, cc))

  abbrev Item_means : plan_item.Item → Item → Type 0
  Item_means x item = SameOnGroups s ks aggs x.expr item.expr

  items_mean : (i : ℕ) (items : List Item) (xs : List plan_item.Item) → all_ok (map (item_of s basis) (enumerate_from i items)) ≡ Ok xs
      → Pairwise Item_means xs items
  items_mean i [] xs is = let none : [] ≡ xs = cc in subst (λ (ys : List plan_item.Item). Pairwise Item_means ys []) none tt
  items_mean i (item ∷ items) xs is =
      let parts = front_there (item_of s basis (i, item)) (all_ok (map (item_of s basis) (enumerate_from (i + 1) items))) xs (is) in
      subst (λ (ys : List plan_item.Item). Pairwise Item_means ys (item ∷ items)) (sym parts.1.3)
      (item_means i item parts.0 parts.1.1, items_mean (i + 1) items parts.1.0 parts.1.2)

  item_headed : (i : ℕ) (item : Item) (x : plan_item.Item) → item_of s basis (i, item) ≡ Ok x → IsHeadedAs x (i + 1, item)
  item_headed i item x is =
      let there = goes_there (over_group s basis item.expr) (λ y. Ok (with_header (header (i, item)) y)) x is in
      let same : with_header (header (i, item)) there.0 ≡ x = cc in
      subst (λ (y : plan_item.Item). IsHeaderOf (i + 1) y.header item) same (headed i item)

  items_headed : (i : ℕ) (items : List Item) (xs : List plan_item.Item) → all_ok (map (item_of s basis) (enumerate_from i items)) ≡ Ok xs
      → Pairwise IsHeadedAs xs (enumerate_from (i + 1) items)
  items_headed i [] xs is = let none : [] ≡ xs = cc in subst (λ (ys : List plan_item.Item). Pairwise IsHeadedAs ys []) none tt
  items_headed i (item ∷ items) xs is =
      let parts = front_there (item_of s basis (i, item)) (all_ok (map (item_of s basis) (enumerate_from (i + 1) items))) xs (is) in
      subst (λ (ys : List plan_item.Item). Pairwise IsHeadedAs ys ((i + 1, item) ∷ enumerate_from (i + 1 + 1) items)) (sym parts.1.3)
      (item_headed i item parts.0 parts.1.1, items_headed (i + 1) items parts.1.0 parts.1.2)

  having_means : (h : Option Expr) (x : Option plan.Expr) → having_of s basis h ≡ Ok x → Pairwise (SameOnGroups s ks aggs) (option_to_list x) (option_to_list h)
  having_means None x is = let none : None ≡ x = cc in subst (λ (y : Option plan.Expr). Pairwise (SameOnGroups s ks aggs) (option_to_list y) []) none tt
  having_means (Some e) x is =
      let there = goes_there (over_group s basis e) (λ y. Ok (Some y)) x is in
      let same : Some there.0 ≡ x = cc in
      subst (λ (y : Option plan.Expr). Pairwise (SameOnGroups s ks aggs) (option_to_list y) (e ∷ [])) same (group_means e there.0 there.1, tt)

-- ---- all

module _ (catalog : Catalog) (q : Query) (p : Plan) (s : Scope) where
  of_parts : (z : Unit {0}) (t : Tables) (g : Grouped) (js : List Join) (z' : Unit {0}) (shown : Shown) (items : List plan_item.Item) (having : Option plan.Expr) (order : List plan_key.OrderKey)
      → scope_of catalog q.source ≡ Ok s → checked s q ≡ Ok z → joins_of s q (conjuncts s q).equalities ≡ Ok js → tables_with s q catalog.fact.name js ≡ t
      → items_of s (basis_of s q) q.items ≡ Ok items → having_of s (basis_of s q) q.having ≡ Ok having → order_of q.items q.order_by ≡ Ok order
      → shown_with items having order ≡ shown → groups_with s q shown ≡ g → plan_with q t g ≡ p → IsPlanOf catalog q s p
  of_parts z t g js z' shown items having order scope_is checks joins_are t_is items_are having_is order_is shown_is g_is p_is =
      let tables : p.joins ≡ js = sym (ap (λ (x : Plan). x.joins) p_is) ∙ sym (ap (λ (x : Tables). x.joins) t_is) in
      let found = found_of_query s no_conjuncts q in
      let keyed = keys_are s no_keys (key_trees (is_grouped s q) q) in
      let conditions_are : p.conjuncts ≡ map (row_expr s) (filter (is_condition s) (row_conjuncts q)) =
      sym (ap (λ (x : Plan). x.conjuncts) p_is) ∙ sym (ap (λ (x : Tables). x.conjuncts) t_is) ∙ ap (λ (c : Conjuncts). c.plain) found in
      let grouped : p.items ≡ items = sym (ap (λ (x : Plan). x.items) p_is) ∙ sym (ap (λ (x : Grouped). x.shown.items) g_is) ∙ sym (ap (λ (x : Shown). x.items) shown_is) in
      let had : p.having ≡ having = sym (ap (λ (x : Plan). x.having) p_is) ∙ sym (ap (λ (x : Grouped). x.shown.having) g_is) ∙ sym (ap (λ (x : Shown). x.having) shown_is) in
      let ordered : p.order ≡ order = sym (ap (λ (x : Plan). x.order) p_is) ∙ sym (ap (λ (x : Grouped). x.shown.order) g_is) ∙ sym (ap (λ (x : Shown). x.order) shown_is) in
      let spellings : (keys_of s q).written ≡ key_spellings s q = ap (λ (k : Keys). k.written) keyed in
      let fine = filtered_fine s (is_condition s) (row_conjuncts q) (all_parted s (row_conditions q) (of_rows (IsFine s) q (conditions_fine s q z checks))) in
      record {
        scope = scope_is;
        text = sym (ap (λ (x : Plan). x.text) p_is);
        fact = sym (ap (λ (x : Plan). x.fact) p_is) ∙ sym (ap (λ (x : Tables). x.fact) t_is);
        joins = sym (ap (λ (c : Conjuncts). joins_of s q c.equalities) found) ∙ joins_are ∙ ap (λ (x : List Join). Ok x) (sym tables);
        conjuncts = subst (λ (xs : List plan.Expr). Pairwise (SameOnRows s) xs (filter (is_condition s) (row_conjuncts q))) (sym conditions_are) (rows_mean_all s (filter (is_condition s) (row_conjuncts q)) fine);
        keys = keys_mean s q z p.keys checks (sym (ap (λ (x : Plan). x.keys) p_is) ∙ sym (ap (λ (x : Grouped). x.keys) g_is) ∙ ap (λ (k : Keys). k.list) keyed);
        aggregates = are_aggregates s q z p.aggs checks (sym (ap (λ (x : Plan). x.aggs) p_is) ∙ sym (ap (λ (x : Grouped). x.aggs) g_is));
        items = subst (λ (xs : List plan_item.Item). Pairwise (IsItemOf s q) xs q.items) (sym grouped)
            (items_mean s (key_spellings s q) (aggregate_spellings s q) 0 q.items items (sym (ap (λ (k : List Spelling). items_of s (Groups k (aggregate_spellings s q)) q.items) spellings) ∙ items_are));
        headers = subst (λ (xs : List plan_item.Item). Pairwise IsHeadedAs xs (enumerate_from 1 q.items)) (sym grouped)
            (items_headed s (keys_of s q).written (aggregate_spellings s q) 0 q.items items items_are);
        having = subst (λ (x : Option plan.Expr). Pairwise (IsHavingOf s q) (option_to_list x) (option_to_list q.having)) (sym had)
            (having_means s (key_spellings s q) (aggregate_spellings s q) q.having having (sym (ap (λ (k : List Spelling). having_of s (Groups k (aggregate_spellings s q)) q.having) spellings) ∙ having_is));
        order = order_is ∙ ap (λ (x : List plan_key.OrderKey). Ok x) (sym ordered);
        limit = sym (ap (λ (x : Plan). x.limit) p_is);
        plain = sym (ap (λ (x : Plan). x.plain) p_is) ∙ sym (ap (λ (x : Grouped). x.plain) g_is);
        distinct = sym (ap (λ (x : Plan). x.distinct) p_is);
      }

ok_same : {X : Type 0} (x y : X) (E : Type 0) → ◌≡◌ {A = Result X E} (Ok x) (Ok y) → x ≡ y
ok_same x y E is = cc

pub plans_mean : PlansMean
plans_mean catalog q p is =
    let scoped = goes_there (scope_of catalog q.source) (λ s. planned_in catalog.fact.name s q) p is in
    let s = scoped.0 in
    let check = goes_there (checked s q) (λ _. and_then (tables_of catalog.fact.name s q) (λ tables. and_then (groups_of s q) (λ groups. Ok (plan_with q tables groups)))) p scoped.2 in
    let tables = goes_there (tables_of catalog.fact.name s q) (λ tables. and_then (groups_of s q) (λ groups. Ok (plan_with q tables groups))) p check.2 in
    let joins = goes_there (joins_of s q (conjuncts s q).equalities) (λ joins. Ok (tables_with s q catalog.fact.name joins)) tables.0 tables.1 in
    let groups = goes_there (groups_of s q) (λ groups. Ok (plan_with q tables.0 groups)) p tables.2 in
    let limits = goes_there (limits_check s q) (λ _. and_then (shown_of s q (basis_of s q)) (λ shown. Ok (groups_with s q shown))) groups.0 groups.1 in
    let shown = goes_there (shown_of s q (basis_of s q)) (λ shown. Ok (groups_with s q shown)) groups.0 limits.2 in
    let items = goes_there (items_of s (basis_of s q) q.items) (λ items. and_then (having_of s (basis_of s q) q.having) (λ having. and_then (order_of q.items q.order_by) (λ order. Ok (shown_with items having order)))) shown.0 shown.1 in
    let having = goes_there (having_of s (basis_of s q) q.having) (λ having. and_then (order_of q.items q.order_by) (λ order. Ok (shown_with items.0 having order))) shown.0 items.2 in
    let order = goes_there (order_of q.items q.order_by) (λ order. Ok (shown_with items.0 having.0 order)) shown.0 having.2 in (
      s,
      of_parts catalog q p s check.0 tables.0 groups.0 joins.0 limits.0 shown.0 items.0 having.0 order.0 scoped.1 check.1 joins.1 (ok_same _ _ PlanFault joins.2) items.1 having.1 order.1
          (ok_same _ _ PlanFault order.2) (ok_same _ _ PlanFault shown.2) (ok_same _ _ PlanFault groups.2),
    )

pub means_returned : (catalog : Catalog) (q : Query) (r : Result Plan PlanFault) → Reports r (planned catalog q) → IfOk r (λ p. IsAPlanOf catalog q p)
means_returned catalog q (Ok p) is = plans_mean catalog q p is
means_returned catalog q (Err f) returned = tt
