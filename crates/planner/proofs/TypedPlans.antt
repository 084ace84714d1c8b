-- The plan of a query whose literals fit is typed.
use Rattle.std.proofs.Common.{rules, ◌≡◌, ℕ, pos, Bool, true, false, ◌&&◌, not, List, [], ◌∷◌, ◌++◌, map, filter, flat_map, cond, Option, Some, None, option_to_list, unwrap_or, Result, Ok, Err, IfOk, refl, ap, subst, sym, ◌∙◌}
use Rattle.std.specs.List.{list_all, AllByRecursion}
use Rattle.std.specs.Option.{option_map_or}
use Rattle.std.proofs.lemmas.List.Elements.{All-from_recursion}
use Rattle.meaning.specs.Results.{and_then}
use Rattle.meaning.specs.TableLaws.{joined_types, IsTypedAggregate, IsTypedPlan}
use Rattle.meaning.specs.Typing.{Valued, Boolean, RowTypes, has_type}
use Rattle.meaning.specs.declared.catalog.Catalog.{Catalog}
use Rattle.meaning.specs.declared.expr.Expr as plan
use Rattle.meaning.specs.declared.expr.Expr.TheVariants as expr
use Rattle.meaning.specs.declared.plan.Aggregate.{Aggregate}
use Rattle.meaning.specs.declared.plan.GroupingKey.{GroupingKey}
use Rattle.meaning.specs.declared.plan.AggregateKind.TheVariants as kind
use Rattle.meaning.specs.declared.plan.Item as plan_item
use Rattle.meaning.specs.declared.plan.Join.{Join}
use Rattle.meaning.specs.declared.plan.Plan.{Plan}
use Rattle.meaning.specs.declared.value.ColType.TheVariants as of_type
use Rattle.meaning.specs.declared.value.Value.TheVariants as value
use Rattle.meaning_laws.proofs.LoadedQueries.{loaded_tables}
use Rattle.meaning.proofs.Tests.{first_of as left_of, second_of as right_of, all_first, all_rest, all_append}
use Rattle.sql_syntax.specs.Literals.{has_fitting_literals, has_only_fitting_literals}
use Rattle.sql_syntax.specs.Joins.{condition_of}
use Rattle.sql_syntax.specs.declared.tree.Aggregate as written
use Rattle.sql_syntax.specs.declared.tree.Aggregate.TheVariants as aggregate
use Rattle.sql_syntax.specs.declared.tree.Arm.{Arm}
use Rattle.sql_syntax.specs.declared.tree.Expr.{Expr}
use Rattle.sql_syntax.specs.declared.tree.Expr.TheOpen as node
use Rattle.sql_syntax.specs.declared.tree.Expr.TheOpen.{Expr-F}
use Rattle.sql_syntax.specs.declared.tree.Expr.TheFolds.{the_lemmas, map-Expr}
use Rattle.sql_syntax.specs.declared.tree.Expr.TheViews.{out-Expr}
use Rattle.sql_syntax.specs.declared.tree.Item.{Item}
use Rattle.sql_syntax.specs.declared.tree.Joined.{Joined}
use Rattle.sql_syntax.specs.declared.tree.Query.{Query}
use Rattle.planner_expressions.specs.declared.fault.PlanFault.{PlanFault}
use Rattle.planner_expressions.specs.declared.fault.PlanFault.TheVariants as fault
use Rattle.planner_expressions.specs.declared.scope.Scope.{Scope}
use Rattle.planner_expressions.specs.declared.sort.Sort.{Sort}
use Rattle.planner_expressions.specs.declared.sort.Sort.TheVariants.{Integer, Text, Truth}
use Rattle.planner_expressions.specs.From.{scope_of}
use Rattle.planner_expressions.specs.Judged.{Returned, Judgement, judge_node, judged, judged_arm, over_part, if_allowed}
use Rattle.planner_expressions.specs.Results.{each_ok, Reports}
use Rattle.planner_expressions.specs.Sorts.{is_value, same_sort, is_taken, aggregate_sort}
use Rattle.planner_expressions.specs.Spelled.{Spelling, spelled, index_among}
use Rattle.planner_expressions.specs.Typed.{type_of_sort, columns_have_types}
use Rattle.planner_expressions.proofs.Accepted.{goes_there, rows_translate}
use Rattle.planner_expressions.proofs.HasTypes.{has-Literal}
use Rattle.planner_expressions.proofs.Tables.{scopes_are_tables}
use Rattle.planner_expressions.proofs.TypedRows.{rows_are_typed, same_is}
use Rattle.planner_clauses.specs.declared.aggregates.Aggregates.{Aggregates}
use Rattle.planner_clauses.specs.declared.conjuncts.Conjuncts.{Conjuncts}
use Rattle.planner_clauses.specs.declared.keys.Keys.{Keys}
use Rattle.planner.specs.declared.parts.Grouped.{Grouped}
use Rattle.planner.specs.declared.parts.Shown.{Shown}
use Rattle.planner.specs.declared.parts.Tables.{Tables}
use Rattle.planner_clauses.specs.Aggregates.{aggregates_in, aggregate_node, aggregate_of, count_rows, row_type, type_in, with_new, with_aggregate, with_aggregates, with_parts}
use Rattle.planner_clauses.specs.Checked.{checked, row_conditions, conditions_checked, groups_checked, condition_check, item_check, key_check, on_trees}
use Rattle.planner_clauses.specs.Conjuncts.{conjuncts_of, row_expr}
use Rattle.planner_clauses.specs.Groups.{no_aggregates, item_aggregates, all_aggregates, is_empty, is_grouped, key_of, key_trees, no_keys, limits_check}
use Rattle.planner.specs.PlanOf.{all_conjuncts, equalities_among, is_condition, row_conjuncts}
use Rattle.planner.specs.Planned.{conjuncts, no_conjuncts, joins_of, tables_of, tables_with, groups_of, groups_with, shown_of, shown_with, basis_of, plan_with, planned, planned_in, table_use}
use Rattle.planner_clauses.specs.Shown.{items_of, having_of, order_of}
use Rattle.planner.specs.Typed.{IsTypedOver, PlansAreTyped, PlansServe}
use Rattle.planner.proofs.Conditions.{found_of_query, of_rows}
use Rattle.planner.proofs.Counted.{checks, AllEmpty, none_taken, parts_none, neither, empty_is}
use Rattle.planner.proofs.JoinedKeys.{joins_from}
use Rattle.planner.proofs.PlansMean.{keys_are}
use Rattle.planner.proofs.TypedTrees.{both_all, Good, AllGood, topmost_good, IsTrue, conjuncts_true}
use Rattle.planner.proofs.Unbarred.{unbarred}

passed : (b : Bool) (z : Unit {0}) → cond b (Ok tt) (Err fault.TypeMismatch) ≡ Ok z → b ≡ true
passed true z is = refl
passed false z is = absurd cc

option_all : (o : Option Expr) → option_map_or has_fitting_literals o true ≡ true → list_all has_fitting_literals (option_to_list o) ≡ true
option_all None is = refl
option_all (Some e) is = is_one (has_fitting_literals e) is
  where
    is_one : (b : Bool) → b ≡ true → (b && true) ≡ true
    is_one true h = refl
    is_one false h = h

ons_fit : (js : List Joined) → list_all (λ j. option_map_or has_fitting_literals (condition_of j.kind) true) js ≡ true → list_all has_fitting_literals (on_trees js) ≡ true
ons_fit [] is = refl
ons_fit (j ∷ js) is =
    all_append has_fitting_literals (option_to_list (condition_of j.kind)) (on_trees js)
    (option_all (condition_of j.kind) (all_first (λ (k : Joined). option_map_or has_fitting_literals (condition_of k.kind) true) j js is))
    (ons_fit js (all_rest (λ (k : Joined). option_map_or has_fitting_literals (condition_of k.kind) true) j js is))

module _ (s : Scope) (types : RowTypes) (columns : columns_have_types types s ≡ true) where
  row_typed : (e : Expr) (z : Sort) → has_fitting_literals e ≡ true → judged s e true ≡ Ok z → has_type types (row_expr s e) (type_of_sort z) ≡ true
  row_typed e z fits is =
      let there = rows_translate s e z is in
      let made : row_expr s e ≡ there.0 = ap (λ (o : Option plan.Expr). unwrap_or o (expr.Literal value.Null)) there.1 in
      subst (λ (x : plan.Expr). has_type types x (type_of_sort z) ≡ true) (sym made) (rows_are_typed types s e z there.0 columns fits is there.1)

  value_type : (z : Sort) → is_value z ≡ true → type_of_sort z ≡ Valued (type_in (Ok z))
  value_type Integer is = refl
  value_type Text is = refl
  value_type Truth is = absurd cc

  value_typed : (e : Expr) (z : Sort) → is_value z ≡ true → has_fitting_literals e ≡ true → judged s e true ≡ Ok z → has_type types (row_expr s e) (Valued (row_type s e)) ≡ true
  value_typed e z value fits is =
      ap (has_type types (row_expr s e)) (ap (λ (t : Returned). Valued (type_in t)) is ∙ sym (value_type z value)) ∙ row_typed e z fits is

  -- ---- aggregates

  abbrev Typed_aggregate : Aggregate → Type 0
  Typed_aggregate a = IsTypedAggregate types a

  counts : Typed_aggregate count_rows
  counts = record { typed = has-Literal types (value.Int (pos 1)) (Valued of_type.Int); counted = λ is. (value.Int (pos 1), refl, refl) }

  taken_value : (k : written.Aggregate) (x : Sort) → is_taken k x ≡ true → is_value x ≡ true
  taken_value aggregate.Sum Integer is = refl
  taken_value aggregate.Sum Text is = refl
  taken_value aggregate.Sum Truth is = absurd cc
  taken_value aggregate.Average Integer is = refl
  taken_value aggregate.Average Text is = refl
  taken_value aggregate.Average Truth is = absurd cc
  taken_value aggregate.SumDistinct Integer is = refl
  taken_value aggregate.SumDistinct Text is = refl
  taken_value aggregate.SumDistinct Truth is = absurd cc
  taken_value aggregate.Count x is = is
  taken_value aggregate.CountDistinct x is = is
  taken_value aggregate.Min x is = is
  taken_value aggregate.Max x is = is

  taken : (k : written.Aggregate) (b : Bool) (x z : Sort) (t : Bool) → cond t (if_allowed b (aggregate_sort k x)) (Err fault.TypeMismatch) ≡ Ok z → t ≡ true
  taken k b x z true is = refl
  taken k b x z false is = absurd cc

  never_rows : (k : written.Aggregate) → Rattle.planner_clauses.specs.Aggregates.kind_of k ≡ kind.CountRows → ⊥
  never_rows aggregate.Count is = cc
  never_rows aggregate.Sum is = cc
  never_rows aggregate.Min is = cc
  never_rows aggregate.Max is = cc
  never_rows aggregate.Average is = cc
  never_rows aggregate.CountDistinct is = cc
  never_rows aggregate.SumDistinct is = cc

  fits_out : (e : Expr) → has_fitting_literals e ≡ Rattle.sql_syntax.specs.Literals.fitting_node (map-Expr Expr Arm Bool Bool has_fitting_literals Rattle.sql_syntax.specs.Literals.arm_has_fitting_literals (out-Expr e))
  fits_out e = search (rules, the_lemmas)

  judged_out : (e : Expr) (b : Bool) → judged s e b ≡ judge_node s (map-Expr Expr Arm Judgement (Judgement × Judgement) (judged s) (judged_arm s) (out-Expr e)) b
  judged_out e b = search (rules, the_lemmas)

  node_counted : (x : Expr-F Expr Arm) (b : Bool) (z : Sort)
      → Rattle.sql_syntax.specs.Literals.fitting_node (map-Expr Expr Arm Bool Bool has_fitting_literals Rattle.sql_syntax.specs.Literals.arm_has_fitting_literals x) ≡ true
      → judge_node s (map-Expr Expr Arm Judgement (Judgement × Judgement) (judged s) (judged_arm s) x) b ≡ Ok z → Typed_aggregate (aggregate_node s x)
  node_counted (node.Aggregate k a) b z fits is =
      let j = goes_there (judged s a true) (over_part k b) z is in
      let value = taken_value k j.0 (taken k b j.0 z (is_taken k j.0) j.2) in
      record { typed = value_typed a j.0 value fits j.1; counted = λ wrong. absurd (never_rows k wrong) }
  node_counted _ b z fits is = counts

  aggregate_typed : (e : Expr) → Good s e → Typed_aggregate (aggregate_of s e)
  aggregate_typed e good = node_counted (out-Expr e) good.1.0 good.1.1.0 (sym (fits_out e) ∙ good.0) (sym (judged_out e good.1.0) ∙ good.1.1.1)

  abbrev AllTyped : Aggregates → Type 0
  AllTyped l = AllByRecursion Typed_aggregate l.list

  take_one : (l : Aggregates) (x : Spelling) (a : Aggregate) (o : Option ℕ) → AllTyped l → Typed_aggregate a → AllTyped (with_new l x a o)
  take_one l x a (Some i) all here = all
  take_one l x a None all here = both_all Typed_aggregate l.list (a ∷ []) all (here, tt)

  take_all : (l : Aggregates) (es : List Expr) → AllTyped l → AllGood s es → AllTyped (with_aggregates s l es)
  take_all l [] all good = all
  take_all l (e ∷ es) all good = take_all (with_aggregate s l e) es (take_one l (spelled s e) (aggregate_of s e) (index_among l.written (spelled s e)) all (aggregate_typed e good.0)) good.1

  take_parts : (l : Aggregates) (parts : List (List Expr)) → AllTyped l → AllByRecursion (AllGood s) parts → AllTyped (with_parts s l parts)
  take_parts l [] all good = all
  take_parts l (es ∷ rest) all good = take_parts (with_aggregates s l es) rest (take_all l es all good.0) good.1

  items_good : (items : List Item) (z : Unit {0}) → each_ok (map (item_check s) items) ≡ Ok z → list_all (λ i. has_fitting_literals i.expr) items ≡ true
      → AllByRecursion (AllGood s) (map (λ i. aggregates_in i.expr) items)
  items_good [] z is fits = tt
  items_good (i ∷ items) z is fits =
      let there = goes_there (item_check s i) (λ x. each_ok (map (item_check s) items)) z is in
      let sort = goes_there (judged s i.expr false) (λ x. cond (is_value x) (Ok tt) (Err fault.TypeMismatch)) there.0 there.1 in (
        topmost_good s Rattle.planner_clauses.specs.Aggregates.is_aggregate i.expr (all_first (λ (j : Item). has_fitting_literals j.expr) i items fits, (false, (sort.0, sort.1))),
        items_good items z there.2 (all_rest (λ (j : Item). has_fitting_literals j.expr) i items fits),
      )

  having_good : (es : List Expr) (z : Unit {0}) → each_ok (map (condition_check s false) es) ≡ Ok z → list_all has_fitting_literals es ≡ true → AllByRecursion (AllGood s) (map aggregates_in es)
  having_good [] z is fits = tt
  having_good (e ∷ es) z is fits =
      let there = goes_there (condition_check s false e) (λ x. each_ok (map (condition_check s false) es)) z is in
      let sort = goes_there (judged s e false) (λ x. cond (same_sort Truth x) (Ok tt) (Err fault.TypeMismatch)) there.0 there.1 in (
        topmost_good s Rattle.planner_clauses.specs.Aggregates.is_aggregate e (all_first has_fitting_literals e es fits, (false, (sort.0, sort.1))),
        having_good es z there.2 (all_rest has_fitting_literals e es fits),
      )

  -- ---- keys

  abbrev Typed_key : GroupingKey → Type 0
  Typed_key k = has_type types k.expr (Valued k.col_type) ≡ true

  grouped_typed : (es : List Expr) (z : Unit {0}) → each_ok (map (key_check s) es) ≡ Ok z → list_all has_fitting_literals es ≡ true → AllByRecursion Typed_key (map (key_of s) es)
  grouped_typed [] z is fits = tt
  grouped_typed (e ∷ es) z is fits =
      let there = goes_there (key_check s e) (λ x. each_ok (map (key_check s) es)) z is in
      let sort = goes_there (judged s e true) (λ x. cond (is_value x) (Ok tt) (Err fault.TypeMismatch)) there.0 there.1 in
      (value_typed e sort.0 (passed (is_value sort.0) there.0 sort.2) (all_first has_fitting_literals e es fits) sort.1, grouped_typed es z there.2 (all_rest has_fitting_literals e es fits))

  plain_typed : (items : List Item) (z : Unit {0}) → each_ok (map (item_check s) items) ≡ Ok z → AllEmpty s (map (λ i. aggregates_in i.expr) items)
      → list_all (λ i. has_fitting_literals i.expr) items ≡ true → AllByRecursion Typed_key (map (key_of s) (map (λ i. i.expr) items))
  plain_typed [] z is none fits = tt
  plain_typed (i ∷ items) z is none fits =
      let there = goes_there (item_check s i) (λ x. each_ok (map (item_check s) items)) z is in
      let sort = goes_there (judged s i.expr false) (λ x. cond (is_value x) (Ok tt) (Err fault.TypeMismatch)) there.0 there.1 in (
        value_typed i.expr sort.0 (passed (is_value sort.0) there.0 sort.2) (all_first (λ (j : Item). has_fitting_literals j.expr) i items fits) ((unbarred s i.expr sort.0 sort.1).1 none.0),
        plain_typed items z there.2 none.1 (all_rest (λ (j : Item). has_fitting_literals j.expr) i items fits),
      )

  keys_typed : (q : Query) (z : Unit {0}) (b : Bool) → checked s q ≡ Ok z → is_grouped s q ≡ b → list_all (λ i. has_fitting_literals i.expr) q.items ≡ true
      → list_all has_fitting_literals q.group_by ≡ true → AllByRecursion Typed_key (map (key_of s) (key_trees b q))
  keys_typed q z true is grouped items group = let all = checks s q z is in grouped_typed q.group_by all.1.0 all.1.1 group
  keys_typed q z false is grouped items group =
      let all = checks s q z is in
      let none = empty_is s (all_aggregates s q).list (neither s (is_empty q.group_by) (Rattle.std.specs.Option.is_some q.having) (is_empty (all_aggregates s q).list) grouped) in
      let items_none = parts_none s (item_aggregates s q) (map aggregates_in (option_to_list q.having)) none in
      plain_typed q.items all.0.0 all.0.1 (none_taken s (map (λ i. aggregates_in i.expr) q.items) items_none) items

  -- ---- conditions

  all_conditions : (es : List Expr) (z : Unit {0}) → each_ok (map (condition_check s true) es) ≡ Ok z → list_all has_fitting_literals es ≡ true → AllByRecursion (IsTrue s) es
  all_conditions [] z is fits = tt
  all_conditions (e ∷ es) z is fits =
      let there = goes_there (condition_check s true e) (λ x. each_ok (map (condition_check s true) es)) z is in
      let sort = goes_there (judged s e true) (λ x. cond (same_sort Truth x) (Ok tt) (Err fault.TypeMismatch)) there.0 there.1 in
      let truth = same_is Truth sort.0 (passed (same_sort Truth sort.0) there.0 sort.2) in
      ((all_first has_fitting_literals e es fits, sort.1 ∙ ap (λ (x : Sort). Ok x) (sym truth)), all_conditions es z there.2 (all_rest has_fitting_literals e es fits))

  parts_true : (es : List Expr) → AllByRecursion (IsTrue s) es → AllByRecursion (IsTrue s) (flat_map conjuncts_of es)
  parts_true [] all = tt
  parts_true (e ∷ es) all = both_all (IsTrue s) (conjuncts_of e) (flat_map conjuncts_of es) (conjuncts_true s e all.0) (parts_true es all.1)

  kept : (e : Expr) (es : List Expr) (b : Bool) → IsTrue s e → AllByRecursion (IsTrue s) es → AllByRecursion (IsTrue s) (cond b (e ∷ es) es)
  kept e es true here all = (here, all)
  kept e es false here all = all

  filtered : (test : Expr → Bool) (es : List Expr) → AllByRecursion (IsTrue s) es → AllByRecursion (IsTrue s) (filter test es)
  filtered test [] all = tt
  filtered test (e ∷ es) all = kept e (filter test es) (test e) all.0 (filtered test es all.1)

  abbrev Typed_condition : plan.Expr → Type 0
  Typed_condition c = has_type types c Boolean ≡ true

  conditions_typed : (es : List Expr) → AllByRecursion (IsTrue s) es → AllByRecursion Typed_condition (map (row_expr s) es)
  conditions_typed [] all = tt
  conditions_typed (e ∷ es) all = (row_typed e Truth all.0.0 all.0.1, conditions_typed es all.1)

  abbrev items_fit_in : Query → Bool
  items_fit_in q = list_all (λ i. has_fitting_literals i.expr) q.items

  abbrev ons_fit_in : Query → Bool
  ons_fit_in q = list_all (λ j. option_map_or has_fitting_literals (condition_of j.kind) true) q.source.others

  abbrev filter_fits : Query → Bool
  filter_fits q = option_map_or has_fitting_literals q.filter true

  abbrev keys_fit : Query → Bool
  keys_fit q = list_all has_fitting_literals q.group_by

  abbrev having_fits : Query → Bool
  having_fits q = option_map_or has_fitting_literals q.having true

  pub plan_typed : (q : Query) (p : Plan) (z : Unit {0}) → checked s q ≡ Ok z → has_only_fitting_literals q ≡ true
      → p.conjuncts ≡ map (row_expr s) (filter (is_condition s) (row_conjuncts q)) → p.keys ≡ map (key_of s) (key_trees (is_grouped s q) q) → p.aggs ≡ (all_aggregates s q).list
      → IsTypedPlan types p
  plan_typed q p z is fits conjuncts_are keys_as aggs_are =
      let items = left_of (items_fit_in q) (ons_fit_in q && (filter_fits q && (keys_fit q && having_fits q))) fits in
      let behind = right_of (items_fit_in q) (ons_fit_in q && (filter_fits q && (keys_fit q && having_fits q))) fits in
      let ons = left_of (ons_fit_in q) (filter_fits q && (keys_fit q && having_fits q)) behind in
      let behind_ons = right_of (ons_fit_in q) (filter_fits q && (keys_fit q && having_fits q)) behind in
      let where_fits = left_of (filter_fits q) (keys_fit q && having_fits q) behind_ons in
      let last = right_of (filter_fits q) (keys_fit q && having_fits q) behind_ons in
      let group = left_of (keys_fit q) (having_fits q) last in
      let had = right_of (keys_fit q) (having_fits q) last in
      let first = goes_there (each_ok (map (item_check s) q.items)) (λ x. and_then (conditions_checked s q) (λ y. groups_checked s q)) z is in
      let second = goes_there (conditions_checked s q) (λ y. groups_checked s q) z first.2 in
      let on_ok = goes_there (each_ok (map (condition_check s true) (on_trees q.source.others))) (λ x. each_ok (map (condition_check s true) (option_to_list q.filter))) second.0 second.1 in
      let all = checks s q z is in
      let truths = both_all (IsTrue s) (on_trees q.source.others) (option_to_list q.filter) (all_conditions (on_trees q.source.others) on_ok.0 on_ok.1 (ons_fit q.source.others ons))
      (all_conditions (option_to_list q.filter) second.0 on_ok.2 (option_all q.filter where_fits)) in
      let cs = conditions_typed (filter (is_condition s) (row_conjuncts q)) (filtered (is_condition s) (row_conjuncts q) (parts_true (row_conditions q) (of_rows (IsTrue s) q truths))) in
      let ks = keys_typed q z (is_grouped s q) is refl items group in
      let of_items = take_parts no_aggregates (map (λ i. aggregates_in i.expr) q.items) tt (items_good q.items first.0 first.1 items) in
      let of_all = take_parts (item_aggregates s q) (map aggregates_in (option_to_list q.having)) of_items (having_good (option_to_list q.having) all.2.0 all.2.1 (option_all q.having had)) in
      record {
        conditions = All-from_recursion _ _ (subst (AllByRecursion Typed_condition) (sym conjuncts_are) cs);
        keys = All-from_recursion _ _ (subst (AllByRecursion Typed_key) (sym keys_as) ks);
        aggregates = All-from_recursion _ _ (subst (AllByRecursion Typed_aggregate) (sym aggs_are) of_all);
      }

ok_same : {X : Type 0} (x y : X) (E : Type 0) → ◌≡◌ {A = Result X E} (Ok x) (Ok y) → x ≡ y
ok_same x y E is = cc

zero_plus : (n : ℕ) → n ≡ Rattle.std.proofs.Common.◌+◌ 0 n
zero_plus n = grind Rattle.std.proofs.Common.arith

-- what a plan is made of
pub record AreParts (catalog : Catalog) (q : Query) (p : Plan) : Type 0 where
  pub s : Scope
  pub z : Unit {0}
  pub scope : scope_of catalog q.source ≡ Ok s
  pub checks : checked s q ≡ Ok z
  pub fact : p.fact ≡ table_use s q None catalog.fact.name
  pub joins : joins_of s q (equalities_among s (all_conjuncts q)) ≡ Ok p.joins
  pub conjuncts_are : p.conjuncts ≡ map (row_expr s) (filter (is_condition s) (row_conjuncts q))
  pub keys_as : p.keys ≡ map (key_of s) (key_trees (is_grouped s q) q)
  pub aggs_are : p.aggs ≡ (all_aggregates s q).list
  pub plain : p.plain ≡ not (is_grouped s q)
  pub items : items_of s (basis_of s q) q.items ≡ Ok p.items
  pub having : having_of s (basis_of s q) q.having ≡ Ok p.having

pub parts_of_plan : (catalog : Catalog) (q : Query) (p : Plan) → planned catalog q ≡ Ok p → AreParts catalog q p
parts_of_plan catalog q p is =
    let scoped = goes_there (scope_of catalog q.source) (λ s. planned_in catalog.fact.name s q) p is in
    let s = scoped.0 in
    let check = goes_there (checked s q) (λ _. and_then (tables_of catalog.fact.name s q) (λ tables. and_then (groups_of s q) (λ groups. Ok (plan_with q tables groups)))) p scoped.2 in
    let tables = goes_there (tables_of catalog.fact.name s q) (λ tables. and_then (groups_of s q) (λ groups. Ok (plan_with q tables groups))) p check.2 in
    let joins = goes_there (joins_of s q (conjuncts s q).equalities) (λ joins. Ok (tables_with s q catalog.fact.name joins)) tables.0 tables.1 in
    let groups = goes_there (groups_of s q) (λ groups. Ok (plan_with q tables.0 groups)) p tables.2 in
    let limits = goes_there (limits_check s q) (λ _. and_then (shown_of s q (basis_of s q)) (λ shown. Ok (groups_with s q shown))) groups.0 groups.1 in
    let shown = goes_there (shown_of s q (basis_of s q)) (λ shown. Ok (groups_with s q shown)) groups.0 limits.2 in
    let t_is = ok_same (tables_with s q catalog.fact.name joins.0) tables.0 PlanFault joins.2 in
    let g_is = ok_same (groups_with s q shown.0) groups.0 PlanFault shown.2 in
    let p_is = ok_same (plan_with q tables.0 groups.0) p PlanFault groups.2 in
    let found = found_of_query s no_conjuncts q in
    let items = goes_there (items_of s (basis_of s q) q.items) (λ items. and_then (having_of s (basis_of s q) q.having) (λ having. and_then (order_of q.items q.order_by) (λ order. Ok (shown_with items having order)))) shown.0 shown.1 in
    let having = goes_there (having_of s (basis_of s q) q.having) (λ having. and_then (order_of q.items q.order_by) (λ order. Ok (shown_with items.0 having order))) shown.0 items.2 in
    let order = goes_there (order_of q.items q.order_by) (λ order. Ok (shown_with items.0 having.0 order)) shown.0 having.2 in
    let s_is = ok_same (shown_with items.0 having.0 order.0) shown.0 PlanFault order.2 in
    let items_as : p.items ≡ items.0 = sym (ap (λ (x : Plan). x.items) p_is) ∙ sym (ap (λ (x : Grouped). x.shown.items) g_is) ∙ sym (ap (λ (x : Shown). x.items) s_is) in
    let having_as : p.having ≡ having.0 = sym (ap (λ (x : Plan). x.having) p_is) ∙ sym (ap (λ (x : Grouped). x.shown.having) g_is) ∙ sym (ap (λ (x : Shown). x.having) s_is) in
    let joins_as : p.joins ≡ joins.0 = sym (ap (λ (x : Plan). x.joins) p_is) ∙ sym (ap (λ (x : Tables). x.joins) t_is) in
    record {
      s = s;
      z = check.0;
      scope = scoped.1;
      checks = check.1;
      fact = sym (ap (λ (x : Plan). x.fact) p_is) ∙ sym (ap (λ (x : Tables). x.fact) t_is);
      joins = sym (ap (λ (c : Conjuncts). joins_of s q c.equalities) found) ∙ joins.1 ∙ ap (λ (x : List Join). Ok x) (sym joins_as);
      conjuncts_are = sym (ap (λ (x : Plan). x.conjuncts) p_is) ∙ sym (ap (λ (x : Tables). x.conjuncts) t_is) ∙ ap (λ (c : Conjuncts). c.plain) found;
      keys_as = sym (ap (λ (x : Plan). x.keys) p_is) ∙ sym (ap (λ (x : Grouped). x.keys) g_is) ∙ ap (λ (k : Keys). k.list) (keys_are s no_keys (key_trees (is_grouped s q) q));
      aggs_are = sym (ap (λ (x : Plan). x.aggs) p_is) ∙ sym (ap (λ (x : Grouped). x.aggs) g_is);
      plain = sym (ap (λ (x : Plan). x.plain) p_is) ∙ sym (ap (λ (x : Grouped). x.plain) g_is);
      items = items.1 ∙ ap (λ (x : List plan_item.Item). Ok x) (sym items_as);
      having = having.1 ∙ ap (λ (x : Option plan.Expr). Ok x) (sym having_as);
    }

pub plans_are_typed : PlansAreTyped
plans_are_typed catalog q p is fits =
    let parts = parts_of_plan catalog q p is in
    let s = parts.s in
    let known = scopes_are_tables catalog q.source s parts.scope in
    let keyed = joins_from s (map (λ d. d.key) s.dims) known.1.keyed q (all_conjuncts q) 0 s.dims p.joins
    (λ i. ap (Rattle.std.proofs.Common.slice_get (map (λ d. d.key) s.dims)) (zero_plus i)) parts.joins in (
      known.0,
      record { declared = known.1.declared; keys = known.1.keys ∙ keyed },
      plan_typed s (joined_types catalog known.0) known.1.typed q p parts.z parts.checks fits parts.conjuncts_are parts.keys_as parts.aggs_are,
    )

pub typed_returned : (catalog : Catalog) (q : Query) (r : Result Plan PlanFault) → Reports r (planned catalog q) → IfOk r (λ p. has_only_fitting_literals q ≡ true → IsTypedOver catalog p)
typed_returned catalog q (Ok p) is = plans_are_typed catalog q p is
typed_returned catalog q (Err f) returned = tt

pub plans_serve : PlansServe
plans_serve catalog q p is fits formed =
    let known = plans_are_typed catalog q p is fits in
    (known.0, known.1, λ cut rows dims loaded. loaded_tables catalog p cut known.0 rows dims formed known.1 known.2 loaded)
