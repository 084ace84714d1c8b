-- Items and HAVING have types over groups.
use Rattle.std.proofs.Common.{rules, ◌≡◌, ◌⊎◌, inl, inr, ℕ, zero, suc, ◌+◌, ◌<◌, Bool, true, false, ◌&&◌, List, [], ◌∷◌, ◌++◌, map, length, cond, Option, Some, None, option_to_list, slice_get, Ok, Err, refl, ap, ap₂, subst, sym, ◌∙◌, arith}
use Rattle.std.specs.List.{list_all, enumerate_from, AllByRecursion}
use Rattle.std.specs.Option.{is_some, option_map_or}
use Rattle.std.proofs.lemmas.List.Elements.{All-from_recursion}
use Rattle.meaning.specs.Results.{all_ok}
use Rattle.meaning.specs.References.{Reference, GroupKey, GroupAggregate, columns_used, columns_used_in_all}
use Rattle.meaning.specs.Typing.{ExprType, Valued, Boolean, RowTypes, group_types, has_type, is_column_type, result_type}
use Rattle.meaning.specs.declared.expr.Expr as plan
use Rattle.meaning.specs.declared.expr.Expr.TheVariants as expr
use Rattle.meaning.specs.declared.expr.Expr.TheFolds as plan_folds
use Rattle.meaning.specs.declared.plan.Aggregate.{Aggregate}
use Rattle.meaning.specs.declared.plan.GroupingKey.{GroupingKey}
use Rattle.meaning.specs.declared.plan.Item as plan_item
use Rattle.meaning.specs.declared.value.ColType.{ColType}
use Rattle.meaning.proofs.Tests.{first_of as left_of, second_of as right_of, all_first, all_rest}
use Rattle.meaning.proofs.Typed.{type_itself}
use Rattle.sql_syntax.specs.Joins.{condition_of}
use Rattle.sql_syntax.specs.declared.tree.Aggregate as written
use Rattle.sql_syntax.specs.declared.tree.Aggregate.TheVariants as aggregate
use Rattle.sql_syntax.specs.declared.tree.Arm.{Arm}
use Rattle.sql_syntax.specs.declared.tree.Expr.{Expr}
use Rattle.sql_syntax.specs.declared.tree.Expr.TheOpen as node
use Rattle.sql_syntax.specs.declared.tree.Expr.TheOpen.{Expr-F}
use Rattle.sql_syntax.specs.declared.tree.Expr.TheFolds.{the_lemmas, map-Expr}
use Rattle.sql_syntax.specs.declared.tree.Expr.TheViews.{out-Expr}
use Rattle.sql_syntax.specs.declared.tree.Item.{Item}
use Rattle.sql_syntax.specs.declared.tree.Joined.{Joined}
use Rattle.sql_syntax.specs.declared.tree.Query.{Query}
use Rattle.sql_syntax.specs.Literals.{has_fitting_literals, has_only_fitting_literals}
use Rattle.planner_expressions.specs.declared.basis.Basis.{Basis}
use Rattle.planner_expressions.specs.declared.basis.Basis.TheVariants.{Groups}
use Rattle.planner_expressions.specs.declared.fault.PlanFault.TheVariants as fault
use Rattle.planner_expressions.specs.declared.scope.Scope.{Scope}
use Rattle.planner_expressions.specs.declared.sort.Sort.{Sort}
use Rattle.planner_expressions.specs.declared.sort.Sort.TheVariants.{Integer, Text, Truth}
use Rattle.planner_expressions.specs.Given.{given_in, key_first}
use Rattle.planner_expressions.specs.Judged.{Returned, Judgement, judge_node, judged, judged_arm, over_part, if_allowed}
use Rattle.planner_expressions.specs.Results.{each_ok}
use Rattle.planner_expressions.specs.Sorts.{is_value, same_sort, is_taken, aggregate_sort}
use Rattle.planner_expressions.specs.Spelled.{Spelling, spelled, index_among}
use Rattle.planner_expressions.specs.Translated.{translated}
use Rattle.planner_expressions.specs.Typed.{type_of_sort}
use Rattle.planner_expressions.proofs.Accepted.{goes_there}
use Rattle.planner_expressions.proofs.AlikeTrees.{spelled_sorts}
use Rattle.planner_expressions.proofs.TypedRows.{Has, all_typed, same_is, front}
use Rattle.planner_clauses.specs.declared.keys.Keys.{Keys}
use Rattle.planner_clauses.specs.Aggregates.{aggregates_in, aggregate_node, aggregate_of, kind_of, type_in, row_type}
use Rattle.planner_clauses.specs.Checked.{checked, condition_check, item_check, key_check}
use Rattle.planner_clauses.specs.Groups.{all_aggregates, is_empty, is_grouped, item_aggregates, key_of, key_trees, no_keys}
use Rattle.planner.specs.Planned.{basis_of}
use Rattle.planner.specs.PlanOf.{argument_of, is_counted}
use Rattle.planner_clauses.specs.Shown.{header, if_built, item_of, items_of, having_of, over_group, with_header}
use Rattle.meaning.specs.SoundPlan.{IsOfGroup}
use Rattle.planner.specs.Typed.{GroupsAreTyped}
use Rattle.planner.proofs.Counted.{AllEmpty, checks, empty_is, neither, none_taken, parts_none, taken}
use Rattle.planner.proofs.Lifted.{lifts}
use Rattle.planner.proofs.OwnAggregates.{get_map, tree_at}
use Rattle.planner.proofs.PlansMean.{keys_are}
use Rattle.planner.proofs.ReadColumns.{reads, used-Key, used-Aggregate}
use Rattle.planner.proofs.TypedPlans.{parts_of_plan}
use Rattle.planner.proofs.TypedTrees.{both_all}
use Rattle.planner.proofs.Unbarred.{AreCounted, unbarred}

-- ---- lists

passed : (b : Bool) (z : Unit {0}) → cond b (Ok tt) (Err fault.TypeMismatch) ≡ Ok z → b ≡ true
passed true z is = refl
passed false z is = absurd cc

all_get : {X : Type 0} (P : X → Type 0) (xs : List X) (i : ℕ) (x : X) → AllByRecursion P xs → slice_get xs i ≡ Some x → P x
all_get P [] i x all is = absurd cc
all_get P (y ∷ xs) zero x all is = let same : y ≡ x = cc in subst P same all.0
all_get P (y ∷ xs) (suc i) x all is = all_get P xs i x all.1 is

first_less : (n : ℕ) → 0 < suc n
first_less n = omega arith

next_less : (i n : ℕ) → i < n → suc i < suc n
next_less i n is = omega (arith, is)

get_less : {X : Type 0} (xs : List X) (i : ℕ) (x : X) → slice_get xs i ≡ Some x → i < length xs
get_less [] i x is = absurd cc
get_less (y ∷ xs) zero x is = first_less (length xs)
get_less (y ∷ xs) (suc i) x is = next_less i (length xs) (get_less xs i x is)

-- ---- types

value_type : (z : Sort) → is_value z ≡ true → type_of_sort z ≡ Valued (type_in (Ok z))
value_type Integer is = refl
value_type Text is = refl
value_type Truth is = absurd cc

has-Key : (types : RowTypes) (i : ℕ) (t : ExprType) → has_type types (expr.Key i) t ≡ is_column_type (slice_get types.key i) t
has-Key types i t = search (rules, plan_folds.the_lemmas)

has-Aggregate : (types : RowTypes) (i : ℕ) (t : ExprType) → has_type types (expr.Aggregate i) t ≡ is_column_type (slice_get types.aggregates i) t
has-Aggregate types i t = search (rules, plan_folds.the_lemmas)

of_its_type : (o : Option ColType) (kind : ColType) (t : ExprType) → o ≡ Some kind → t ≡ Valued kind → is_column_type o t ≡ true
of_its_type o kind t o_is t_is = ap₂ is_column_type o_is t_is ∙ type_itself kind

result_of : (k : written.Aggregate) (x : Sort) → is_taken k x ≡ true → type_of_sort (aggregate_sort k x) ≡ Valued (result_type (kind_of k) (type_in (Ok x)))
result_of aggregate.Count x is = refl
result_of aggregate.Sum x is = refl
result_of aggregate.Average x is = refl
result_of aggregate.CountDistinct x is = refl
result_of aggregate.SumDistinct x is = refl
result_of aggregate.Min Integer is = refl
result_of aggregate.Min Text is = refl
result_of aggregate.Min Truth is = absurd cc
result_of aggregate.Max Integer is = refl
result_of aggregate.Max Text is = refl
result_of aggregate.Max Truth is = absurd cc

taken_is : (k : written.Aggregate) (x z : Sort) (t : Bool) → cond t (if_allowed false (aggregate_sort k x)) (Err fault.TypeMismatch) ≡ Ok z → (t ≡ true) × (aggregate_sort k x ≡ z)
taken_is k x z true is = (refl, cc)
taken_is k x z false is = absurd cc

same_ok : (a b : Sort) → ◌≡◌ {A = Returned} (Ok a) (Ok b) → a ≡ b
same_ok a b is = cc

module _ (s : Scope) where
  -- a value without aggregates
  abbrev IsKey : Expr → Type 0
  IsKey e = (z : Sort) × (judged s e true ≡ Ok z) × (is_value z ≡ true)

  abbrev judge_at : Expr-F Expr Arm → Returned
  judge_at x = judge_node s (map-Expr Expr Arm Judgement (Judgement × Judgement) (judged s) (judged_arm s) x) false

  judged_out : (e : Expr) → judged s e false ≡ judge_at (out-Expr e)
  judged_out e = search (rules, the_lemmas)

  abbrev type_of : Aggregate → ColType
  type_of a = result_type a.kind a.col_type

  aggregate_type : (x : Expr-F Expr Arm) (z : Sort) → argument_of s x → judge_at x ≡ Ok z → type_of_sort z ≡ Valued (type_of (aggregate_node s x))
  aggregate_type (node.Aggregate k a) z fine is =
      let part = goes_there (judged s a true) (over_part k false) z is in
      let there = taken_is k part.0 z (is_taken k part.0) part.2 in
      ap type_of_sort (sym there.1) ∙ result_of k part.0 there.0 ∙ ap (λ (t : Returned). Valued (result_type (kind_of k) (type_in t))) (sym part.1)
  aggregate_type node.CountRows z fine is = ap type_of_sort (sym (same_ok Integer z is))
  aggregate_type _ z fine is = absurd fine

  module _ (types : RowTypes) (keys counted : List Expr)
      (keys_fine : AllByRecursion IsKey keys) (counted_fine : AreCounted s counted)
      (key_types : (i : ℕ) (k : Expr) → slice_get keys i ≡ Some k → slice_get types.key i ≡ Some (row_type s k))
      (aggregate_types : (i : ℕ) (t : Expr) → slice_get counted i ≡ Some t → slice_get types.aggregates i ≡ Some (type_of (aggregate_of s t))) where
    abbrev given : Expr → Option plan.Expr
    given = given_in s (Groups (map (spelled s) keys) (map (spelled s) counted))

    key_typed : (e : Expr) (i : ℕ) (z : Sort) → index_among (map (spelled s) keys) (spelled s e) ≡ Some i → judged s e false ≡ Ok z → Has types (expr.Key i) z
    key_typed e i z index_is is =
        let k = tree_at s keys (spelled s e) i index_is in
        let fine = all_get IsKey keys i k.0 keys_fine k.1 in
        let same : fine.0 ≡ z = same_ok fine.0 z (sym (lifts s k.0 fine.0 fine.1) ∙ spelled_sorts s e k.0 false z k.2 is) in
        has-Key types i (type_of_sort z)
        ∙ of_its_type (slice_get types.key i) (row_type s k.0) (type_of_sort z) (key_types i k.0 k.1)
        (ap type_of_sort (sym same) ∙ value_type fine.0 fine.2 ∙ ap (λ (t : Returned). Valued (type_in t)) (sym fine.1))

    all_counted : (es : List Expr) (i : ℕ) (t : Expr) → AreCounted s es → slice_get es i ≡ Some t → is_counted s t
    all_counted [] i t all is = absurd cc
    all_counted (e ∷ es) zero t all is = let same : e ≡ t = cc in subst (is_counted s) same all.0
    all_counted (e ∷ es) (suc i) t all is = all_counted es i t all.1 is

    aggregate_typed : (e : Expr) (i : ℕ) (z : Sort) → index_among (map (spelled s) counted) (spelled s e) ≡ Some i → judged s e false ≡ Ok z → Has types (expr.Aggregate i) z
    aggregate_typed e i z index_is is =
        let t = tree_at s counted (spelled s e) i index_is in
        let fine = all_counted counted i t.0 counted_fine t.1 in
        let returned = spelled_sorts s e t.0 false z t.2 is in
        has-Aggregate types i (type_of_sort z)
        ∙ of_its_type (slice_get types.aggregates i) (type_of (aggregate_of s t.0)) (type_of_sort z) (aggregate_types i t.0 t.1)
        (aggregate_type (out-Expr t.0) z fine (sym (judged_out t.0) ∙ returned))

    abbrev IsIndexed : Option ℕ → Option ℕ → plan.Expr → Type 0
    IsIndexed i j x = ((k : ℕ) × (i ≡ Some k) × (x ≡ expr.Key k)) ⊎ ((k : ℕ) × (j ≡ Some k) × (x ≡ expr.Aggregate k))

    indexed_as : (i j : Option ℕ) (x : plan.Expr) → key_first i j ≡ Some x → IsIndexed i j x
    indexed_as (Some k) j x is = inl (k, refl, cc)
    indexed_as None (Some k) x is = inr (k, refl, cc)
    indexed_as None None x is = absurd cc

    by_index : (e : Expr) (x : plan.Expr) (z : Sort) → IsIndexed (index_among (map (spelled s) keys) (spelled s e)) (index_among (map (spelled s) counted) (spelled s e)) x → judged s e false ≡ Ok z → Has types x z
    by_index e x z (inl at) is = subst (λ (y : plan.Expr). Has types y z) (sym at.2) (key_typed e at.0 z at.1 is)
    by_index e x z (inr at) is = subst (λ (y : plan.Expr). Has types y z) (sym at.2) (aggregate_typed e at.0 z at.1 is)

    given_typed : (e : Expr) (x : plan.Expr) (z : Sort) → given e ≡ Some x → judged s e false ≡ Ok z → Has types x z
    given_typed e x z is returned = by_index e x z (indexed_as (index_among (map (spelled s) keys) (spelled s e)) (index_among (map (spelled s) counted) (spelled s e)) x is) returned

    over_groups : (e : Expr) (z : Sort) (x : plan.Expr) → has_fitting_literals e ≡ true → judged s e false ≡ Ok z → translated given e ≡ Some x → Has types x z
    over_groups = all_typed s types given false given_typed

    -- ---- what is named

    module _ (IsRead : Reference → Type 0) (of_key : (i : ℕ) (k : Expr) → slice_get keys i ≡ Some k → IsRead (GroupKey i)) (of_aggregate : (i : ℕ) (t : Expr) → slice_get counted i ≡ Some t → IsRead (GroupAggregate i)) where
      by_name : (e : Expr) (x : plan.Expr) → IsIndexed (index_among (map (spelled s) keys) (spelled s e)) (index_among (map (spelled s) counted) (spelled s e)) x → AllByRecursion IsRead (columns_used x)
      by_name e x (inl at) =
          let k = tree_at s keys (spelled s e) at.0 at.1 in
          subst (λ (us : List Reference). AllByRecursion IsRead us) (sym (ap columns_used at.2 ∙ used-Key at.0)) (of_key at.0 k.0 k.1, tt)
      by_name e x (inr at) =
          let t = tree_at s counted (spelled s e) at.0 at.1 in
          subst (λ (us : List Reference). AllByRecursion IsRead us) (sym (ap columns_used at.2 ∙ used-Aggregate at.0)) (of_aggregate at.0 t.0 t.1, tt)

      names_groups : (e : Expr) (x : plan.Expr) → translated given e ≡ Some x → AllByRecursion IsRead (columns_used x)
      names_groups e x is =
          reads given IsRead (λ p. true) (λ f y covered returned. by_name f y (indexed_as (index_among (map (spelled s) keys) (spelled s f)) (index_among (map (spelled s) counted) (spelled s f)) y returned))
          e (λ p h. refl) x is

  -- ---- keys

  grouped_keys : (es : List Expr) (z : Unit {0}) → each_ok (map (key_check s) es) ≡ Ok z → AllByRecursion IsKey es
  grouped_keys [] z is = tt
  grouped_keys (e ∷ es) z is =
      let there = goes_there (key_check s e) (λ x. each_ok (map (key_check s) es)) z is in
      let sort = goes_there (judged s e true) (λ x. cond (is_value x) (Ok tt) (Err fault.TypeMismatch)) there.0 there.1 in
      ((sort.0, sort.1, passed (is_value sort.0) there.0 sort.2), grouped_keys es z there.2)

  plain_keys : (items : List Item) (z : Unit {0}) → each_ok (map (item_check s) items) ≡ Ok z → AllEmpty s (map (λ i. aggregates_in i.expr) items) → AllByRecursion IsKey (map (λ i. i.expr) items)
  plain_keys [] z is none = tt
  plain_keys (i ∷ items) z is none =
      let there = goes_there (item_check s i) (λ x. each_ok (map (item_check s) items)) z is in
      let sort = goes_there (judged s i.expr false) (λ x. cond (is_value x) (Ok tt) (Err fault.TypeMismatch)) there.0 there.1 in
      ((sort.0, (unbarred s i.expr sort.0 sort.1).1 none.0, passed (is_value sort.0) there.0 sort.2), plain_keys items z there.2 none.1)

  all_keys : (q : Query) (z : Unit {0}) (b : Bool) → checked s q ≡ Ok z → is_grouped s q ≡ b → AllByRecursion IsKey (key_trees b q)
  all_keys q z true is grouped = let all = checks s q z is in grouped_keys q.group_by all.1.0 all.1.1
  all_keys q z false is grouped =
      let all = checks s q z is in
      let none = empty_is s (all_aggregates s q).list (neither s (is_empty q.group_by) (is_some q.having) (is_empty (all_aggregates s q).list) grouped) in
      let items_none = parts_none s (item_aggregates s q) (map aggregates_in (option_to_list q.having)) none in
      plain_keys q.items all.0.0 all.0.1 (none_taken s (map (λ i. aggregates_in i.expr) q.items) items_none)

-- ---- items and HAVING

built_there : (o : Option plan.Expr) (x : plan.Expr) → if_built o ≡ Ok x → o ≡ Some x
built_there None x is = absurd cc
built_there (Some y) x is = cc

module _ (s : Scope) (b : Basis) (types : RowTypes) (IsRead : Reference → Type 0)
    (typed : (e : Expr) (z : Sort) (x : plan.Expr) → has_fitting_literals e ≡ true → judged s e false ≡ Ok z → translated (given_in s b) e ≡ Some x → Has types x z)
    (names : (e : Expr) (x : plan.Expr) → translated (given_in s b) e ≡ Some x → AllByRecursion IsRead (columns_used x)) where
  abbrev IsValue : plan_item.Item → Type 0
  IsValue x = (kind : ColType) × (has_type types x.expr (Valued kind) ≡ true)

  abbrev IsFineItem : plan_item.Item → Type 0
  IsFineItem x = IsValue x × AllByRecursion IsRead (columns_used x.expr)

  abbrev IsFineHaving : plan.Expr → Type 0
  IsFineHaving x = (has_type types x Boolean ≡ true) × AllByRecursion IsRead (columns_used x)

  item_fine : (n : ℕ) (i : Item) (x : plan_item.Item) (z : Unit {0}) → item_of s b (n, i) ≡ Ok x → item_check s i ≡ Ok z → has_fitting_literals i.expr ≡ true → IsFineItem x
  item_fine n i x z is check fits =
      let there = goes_there (over_group s b i.expr) (λ y. Ok (with_header (header (n, i)) y)) x is in
      let same : with_header (header (n, i)) there.0 ≡ x = cc in
      let made = built_there (translated (given_in s b) i.expr) there.0 there.1 in
      let sort = goes_there (judged s i.expr false) (λ y. cond (is_value y) (Ok tt) (Err fault.TypeMismatch)) z check in
      let value = value_type sort.0 (passed (is_value sort.0) z sort.2) in
      subst IsFineItem same (
        (type_in (Ok sort.0), subst (λ (t : ExprType). has_type types there.0 t ≡ true) value (typed i.expr sort.0 there.0 fits sort.1 made)),
        names i.expr there.0 made,
      )

  items_fine : (n : ℕ) (items : List Item) (xs : List plan_item.Item) (z : Unit {0}) → all_ok (map (item_of s b) (enumerate_from n items)) ≡ Ok xs → each_ok (map (item_check s) items) ≡ Ok z
      → list_all (λ i. has_fitting_literals i.expr) items ≡ true → AllByRecursion IsFineItem xs
  items_fine n [] xs z is check fits = let none : [] ≡ xs = cc in subst (AllByRecursion IsFineItem) none tt
  items_fine n (i ∷ items) xs z is check fits =
      let parts = front (item_of s b (n, i)) (all_ok (map (item_of s b) (enumerate_from (n + 1) items))) xs is in
      let there = goes_there (item_check s i) (λ x. each_ok (map (item_check s) items)) z check in
      subst (AllByRecursion IsFineItem) (sym parts.1.3) (
        item_fine n i parts.0 there.0 parts.1.1 there.1 (all_first (λ (j : Item). has_fitting_literals j.expr) i items fits),
        items_fine (n + 1) items parts.1.0 z parts.1.2 there.2 (all_rest (λ (j : Item). has_fitting_literals j.expr) i items fits),
      )

  having_fine : (h : Option Expr) (x : Option plan.Expr) (z : Unit {0}) → having_of s b h ≡ Ok x → each_ok (map (condition_check s false) (option_to_list h)) ≡ Ok z
      → option_map_or has_fitting_literals h true ≡ true → AllByRecursion IsFineHaving (option_to_list x)
  having_fine None x z is check fits = let none : None ≡ x = cc in subst (λ (y : Option plan.Expr). AllByRecursion IsFineHaving (option_to_list y)) none tt
  having_fine (Some e) x z is check fits =
      let there = goes_there (over_group s b e) (λ y. Ok (Some y)) x is in
      let same : Some there.0 ≡ x = cc in
      let made = built_there (translated (given_in s b) e) there.0 there.1 in
      let one = goes_there (condition_check s false e) (λ x. each_ok (map (condition_check s false) [])) z check in
      let sort = goes_there (judged s e false) (λ y. cond (same_sort Truth y) (Ok tt) (Err fault.TypeMismatch)) one.0 one.1 in
      let truth = same_is Truth sort.0 (passed (same_sort Truth sort.0) one.0 sort.2) in
      subst (λ (y : Option plan.Expr). AllByRecursion IsFineHaving (option_to_list y)) same
      ((typed e Truth there.0 fits (sort.1 ∙ ap (λ (k : Sort). Ok k) (sym truth)) made, names e there.0 made), tt)

-- ---- plans

firsts : {X : Type 0} (P Q : X → Type 0) (xs : List X) → AllByRecursion (λ x. P x × Q x) xs → AllByRecursion P xs
firsts P Q [] all = tt
firsts P Q (x ∷ xs) all = (all.0.0, firsts P Q xs all.1)

flat_named : (P : Reference → Type 0) {X : Type 0} (f : X → plan.Expr) (T : X → Type 0) (xs : List X) → AllByRecursion (λ x. T x × AllByRecursion P (columns_used (f x))) xs → AllByRecursion P (columns_used_in_all (map f xs))
flat_named P f T [] all = tt
flat_named P f T (x ∷ xs) all = both_all P (columns_used (f x)) (columns_used_in_all (map f xs)) all.0.1 (flat_named P f T xs all.1)

all_used : (P : Reference → Type 0) (xs ys : List plan.Expr) → AllByRecursion P (columns_used_in_all xs) → AllByRecursion P (columns_used_in_all ys) → AllByRecursion P (columns_used_in_all (xs ++ ys))
all_used P [] ys all more = more
all_used P (x ∷ xs) ys all more =
    let parts = split (columns_used x) (columns_used_in_all xs) all in both_all P (columns_used x) (columns_used_in_all (xs ++ ys)) parts.0 (all_used P xs ys parts.1 more)
  where
    split : (us vs : List Reference) → AllByRecursion P (us ++ vs) → AllByRecursion P us × AllByRecursion P vs
    split [] vs all = (tt, all)
    split (u ∷ us) vs all = let rest = split us vs all.1 in ((all.0, rest.0), rest.1)

map_itself : (xs : List plan.Expr) → map (λ x. x) xs ≡ xs
map_itself [] = refl
map_itself (x ∷ xs) = ap (λ (ys : List plan.Expr). x ∷ ys) (map_itself xs)

having_part : (q : Query) → has_only_fitting_literals q ≡ true → option_map_or has_fitting_literals q.having true ≡ true
having_part q fits =
    let items = list_all (λ (i : Item). has_fitting_literals i.expr) q.items in
    let ons = list_all (λ (j : Joined). option_map_or has_fitting_literals (condition_of j.kind) true) q.source.others in
    let filter = option_map_or has_fitting_literals q.filter true in
    let keys = list_all has_fitting_literals q.group_by in
    let having = option_map_or has_fitting_literals q.having true in
    right_of keys having (right_of filter (keys && having) (right_of ons (filter && (keys && having)) (right_of items (ons && (filter && (keys && having))) fits)))

pub groups_are_typed : GroupsAreTyped
groups_are_typed catalog q p is fits =
    let parts = parts_of_plan catalog q p is in
    let s = parts.s in
    let trees = key_trees (is_grouped s q) q in
    let counted = taken s q parts.z parts.checks in
    let all = checks s q parts.z parts.checks in
    let types = group_types p in
    let key_at : (i : ℕ) (k : Expr) → slice_get trees i ≡ Some k → slice_get p.keys i ≡ Some (key_of s k) =
    λ i k at. ap (λ (ks : List GroupingKey). slice_get ks i) parts.keys_as ∙ get_map (key_of s) trees i k at in
    let aggregate_at : (i : ℕ) (t : Expr) → slice_get counted.0 i ≡ Some t → slice_get p.aggs i ≡ Some (aggregate_of s t) =
    λ i t at. ap (λ (ks : List Aggregate). slice_get ks i) (parts.aggs_are ∙ counted.2) ∙ get_map (aggregate_of s) counted.0 i t at in
    let keys_fine = all_keys s q parts.z (is_grouped s q) parts.checks refl in
    let key_types : (i : ℕ) (k : Expr) → slice_get trees i ≡ Some k → slice_get types.key i ≡ Some (row_type s k) = λ i k at. get_map (λ (x : GroupingKey). x.col_type) p.keys i (key_of s k) (key_at i k at) in
    let aggregate_types : (i : ℕ) (t : Expr) → slice_get counted.0 i ≡ Some t → slice_get types.aggregates i ≡ Some (type_of s (aggregate_of s t)) =
    λ i t at. get_map (λ (a : Aggregate). result_type a.kind a.col_type) p.aggs i (aggregate_of s t) (aggregate_at i t at) in
    let basis_is : basis_of s q ≡ Groups (map (spelled s) trees) (map (spelled s) counted.0) = ap₂ (λ (ks ws : List Spelling). Groups ks ws) (ap (λ (k : Keys). k.written) (keys_are s no_keys trees)) counted.1 in
    let b = Groups (map (spelled s) trees) (map (spelled s) counted.0) in
    let of_key : (i : ℕ) (k : Expr) → slice_get trees i ≡ Some k → IsOfGroup p (GroupKey i) = λ i k at. get_less p.keys i (key_of s k) (key_at i k at) in
    let of_aggregate : (i : ℕ) (t : Expr) → slice_get counted.0 i ≡ Some t → IsOfGroup p (GroupAggregate i) = λ i t at. get_less p.aggs i (aggregate_of s t) (aggregate_at i t at) in
    let typed = over_groups s types trees counted.0 keys_fine counted.3 key_types aggregate_types in
    let named = names_groups s types trees counted.0 keys_fine counted.3 key_types aggregate_types (IsOfGroup p) of_key of_aggregate in
    let items_fit = left_of (list_all (λ (i : Item). has_fitting_literals i.expr) q.items) _ fits in
    let having_fits = having_part q fits in
    let items = items_fine s b types (IsOfGroup p) typed named 0 q.items p.items all.0.0 (sym (ap (λ (x : Basis). items_of s x q.items) basis_is) ∙ parts.items) all.0.1 items_fit in
    let having = having_fine s b types (IsOfGroup p) typed named q.having p.having all.2.0 (sym (ap (λ (x : Basis). having_of s x q.having) basis_is) ∙ parts.having) all.2.1 having_fits in
    let item_value : plan_item.Item → Type 0 = λ x. (kind : ColType) × (has_type types x.expr (Valued kind) ≡ true) in
    let truth : plan.Expr → Type 0 = λ x. has_type types x Boolean ≡ true in
    let behind = flat_named (IsOfGroup p) (λ (x : plan.Expr). x) truth (option_to_list p.having) having in
    record {
      items = All-from_recursion _ _ (firsts item_value (λ (x : plan_item.Item). AllByRecursion (IsOfGroup p) (columns_used x.expr)) p.items items);
      having = All-from_recursion _ _ (firsts truth (λ (x : plan.Expr). AllByRecursion (IsOfGroup p) (columns_used x)) (option_to_list p.having) having);
      named = All-from_recursion _ _ (all_used (IsOfGroup p) (map (λ (i : plan_item.Item). i.expr) p.items) (option_to_list p.having)
          (flat_named (IsOfGroup p) (λ (x : plan_item.Item). x.expr) item_value p.items items)
          (subst (λ (xs : List plan.Expr). AllByRecursion (IsOfGroup p) (columns_used_in_all xs)) (map_itself (option_to_list p.having)) behind));
    }
