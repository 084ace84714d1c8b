-- The plan of a query that shows something, whose literals fit and whose text is short is sound.
use Rattle.std.proofs.Common.{◌≡◌, ◌≢◌, ℕ, zero, suc, ◌+◌, ◌<◌, ◌≤◌, ◌==◌, Bool, true, false, ◌||◌, List, [], ◌∷◌, map, filter, flat_map, length, rules, pos, Option, Some, None, option_to_list, slice_get, slice_index_or, Result, Ok, Err, IfOk, refl, ap, subst, sym, ◌∙◌, arith}
use Rattle.std.specs.Prelude.{All}
use Rattle.std.specs.List.{list_any, AllByRecursion, AllZip}
use Rattle.std.proofs.lemmas.List.{length-map}
use Rattle.std.proofs.lemmas.List.Elements.{All-from_recursion, recursion_from_All}
use Rattle.meaning.specs.Limits.{max_query_bytes}
use Rattle.meaning.specs.References.{Reference, columns_used, columns_used_in_all, columns_of_plan}
use Rattle.meaning.specs.TableLaws.{column_types, joined_types, IsTypedAggregate}
use Rattle.meaning.specs.Typing.{Valued, Boolean, ExprType, RowTypes, is_column_type, has_type}
use Rattle.meaning.specs.SoundPlan.{listed_columns, used_columns, IsListed, IsListedJoin, HasListed, HasTypesOf, IsTypedOverGroups, IsWithinLimits, IsSoundPlan}
use Rattle.meaning.specs.declared.expr.Expr as plan
use Rattle.meaning.specs.declared.plan.Aggregate.{Aggregate}
use Rattle.meaning.specs.declared.plan.ColumnUse.{ColumnUse}
use Rattle.meaning.specs.declared.plan.GroupingKey.{GroupingKey}
use Rattle.meaning.specs.declared.plan.Join.{Join}
use Rattle.meaning.specs.declared.plan.Plan.{Plan}
use Rattle.meaning.specs.declared.plan.Item as plan_item
use Rattle.meaning.specs.declared.plan.TableUse.{TableUse}
use Rattle.meaning.specs.declared.catalog.Catalog.{Catalog}
use Rattle.meaning.specs.declared.catalog.Dimension.{Dimension}
use Rattle.meaning.specs.declared.value.Value.TheVariants as value
use Rattle.meaning.specs.declared.value.ColType.{ColType}
use Rattle.meaning.specs.declared.value.ColType.TheVariants as of_type
use Rattle.meaning.proofs.Tests.{both, not_true}
use Rattle.sql_syntax.specs.Literals.{has_only_fitting_literals}
use Rattle.sql_syntax.specs.declared.tree.Arm.{Arm}
use Rattle.sql_syntax.specs.declared.tree.Expr.{Expr}
use Rattle.sql_syntax.specs.declared.tree.Expr.TheOpen as node
use Rattle.sql_syntax.specs.declared.tree.Expr.TheOpen.{Expr-F}
use Rattle.sql_syntax.specs.declared.tree.Expr.TheFolds.{the_lemmas, map-Expr}
use Rattle.sql_syntax.specs.declared.tree.Expr.TheViews.{out-Expr}
use Rattle.sql_syntax.specs.declared.tree.Item.{Item}
use Rattle.sql_syntax.specs.declared.tree.Query.{Query}
use Rattle.planner_expressions.specs.declared.fault.PlanFault.{PlanFault}
use Rattle.planner_expressions.specs.declared.scope.Dim.{Dim}
use Rattle.planner_expressions.specs.declared.scope.ScopeColumn.{ScopeColumn}
use Rattle.planner_expressions.specs.declared.scope.Scope.{Scope}
use Rattle.planner_expressions.specs.Typed.{types_in, has_its_type, columns_have_types}
use Rattle.planner_expressions.specs.Results.{Reports}
use Rattle.planner_expressions.specs.Spelled.{Spelling, spelled, index_among}
use Rattle.planner_expressions.specs.Uses.{names, names_arm, names_node}
use Rattle.planner_expressions.proofs.Tables.{scopes_are_tables}
use Rattle.planner_clauses.specs.declared.conjuncts.Equality.{Equality}
use Rattle.planner_clauses.specs.declared.aggregates.Aggregates.{Aggregates}
use Rattle.planner_clauses.specs.Aggregates.{aggregates_in, aggregate_node, aggregate_of, count_rows, is_aggregate, with_new, with_aggregate, with_aggregates, with_parts}
use Rattle.planner_clauses.specs.Checked.{conditions, row_conditions}
use Rattle.planner_clauses.specs.Conjuncts.{is_no_and, row_expr}
use Rattle.planner_clauses.specs.Groups.{all_aggregates, is_grouped, item_aggregates, key_of, key_trees, no_aggregates}
use Rattle.planner.specs.PlanOf.{Pairwise, IsItemOf, all_conjuncts, equalities_among, is_condition, row_conjuncts}
use Rattle.planner.specs.Planned.{planned, is_named, is_read, same_join, use_of}
use Rattle.planner.specs.Limited.{IsLimited}
use Rattle.planner.specs.Sound.{IsSoundQuery, PlansAreSound}
use Rattle.planner_expressions.proofs.Among.{Among, among_contains, among_filter, among_map, all_at, test_at, all_by, all_kept}
use Rattle.planner.proofs.Conditions.{all_parted, of_rows}
use Rattle.planner.proofs.GroupTypes.{groups_are_typed}
use Rattle.planner.proofs.LimitedPlans.{plans_are_limited}
use Rattle.planner.proofs.ListedJoins.{IsJoinAt, AreJoinsFrom, all_between, all_joins, join_at, made_joins}
use Rattle.planner.proofs.NamedParts.{Named, Covers, AllCovered, left, right, all_covered, flat_covered, topmost_covered}
use Rattle.planner.proofs.PlansMean.{conditions_fine, plans_mean}
use Rattle.planner.proofs.ReadColumns.{IsOf, AreOf, reference_in, row_reads, used-Literal}
use Rattle.planner.proofs.TypedAlike.{type_at, typed_alike}
use Rattle.planner.proofs.TypedPlans.{AreParts, parts_of_plan, plan_typed}
use Rattle.planner.proofs.TypedTrees.{both_all}

-- ---- lists and types

zero_plus : (n : ℕ) → 0 + n ≡ n
zero_plus n = grind arith

same_itself : (n : ℕ) → (n == n) ≡ true
same_itself n = grind arith

kind_is : (o : Option ColType) (kind : ColType) → is_column_type o (Valued kind) ≡ true → o ≡ Some kind
kind_is None kind is = absurd cc
kind_is (Some of_type.Int) of_type.Int is = refl
kind_is (Some of_type.Int) of_type.Text is = absurd cc
kind_is (Some of_type.Text) of_type.Int is = absurd cc
kind_is (Some of_type.Text) of_type.Text is = refl

none_there : (at : ℕ) (kind : ColType) → slice_get [] at ≡ Some kind → ⊥
none_there at kind is = cc

zero_less : (n : ℕ) → 0 < suc n
zero_less n = omega arith

next_less : (i n : ℕ) → i < n → suc i < suc n
next_less i n is = omega (arith, is)

-- a table that has a column is one of these
table_there : (tables : List (List ColType)) (j at : ℕ) (kind : ColType) → slice_get (slice_index_or tables j []) at ≡ Some kind → j < length tables
table_there [] j at kind is = absurd (none_there at kind is)
table_there (t ∷ tables) zero at kind is = zero_less (length tables)
table_there (t ∷ tables) (suc j) at kind is = next_less j (length tables) (table_there tables j at kind is)

listed_at : (js : List Join) (types : List (List ColType)) (i : ℕ) (j : Join) → AllZip (λ (k : Join) (of_dimension : List ColType). HasListed k.dim of_dimension) js types
    → slice_get js i ≡ Some j → HasListed j.dim (slice_index_or types i [])
listed_at [] types i j all is = absurd cc
listed_at (k ∷ js) [] i j all is = absurd all
listed_at (k ∷ js) (t ∷ types) zero j all is = let same : k ≡ j = cc in subst (λ (x : Join). HasListed x.dim t) same all.0
listed_at (k ∷ js) (t ∷ types) (suc i) j all is = listed_at js types i j all.1 is

all_flat : {X Y : Type 0} (P : Y → Type 0) (f : X → List Y) (xs : List X) → AllByRecursion (λ x. AllByRecursion P (f x)) xs → AllByRecursion P (flat_map (λ part. part) (map f xs))
all_flat P f [] all = tt
all_flat P f (x ∷ xs) all = both_all P (f x) (flat_map (λ part. part) (map f xs)) all.0 (all_flat P f xs all.1)

-- ---- the columns that the plan lists

module _ (s : Scope) (q : Query) (p : Plan) (all_types : RowTypes)
    (fact_is : p.fact.columns ≡ map use_of (filter (is_read q None) s.columns))
    (joins_are : AreJoinsFrom s q 0 s.dims p.joins)
    (dims_are : length all_types.joins ≡ length s.dims)
    (columns_typed : columns_have_types all_types s ≡ true) where
  same_joins : (j : Option ℕ) → same_join j j ≡ true
  same_joins None = refl
  same_joins (Some i) = same_itself i

  is_read_there : (c : ScopeColumn) (join : Option ℕ) → c.join ≡ join → is_named q c ≡ true → is_read q join c ≡ true
  is_read_there c join is named =
      both (same_join join c.join) (is_named q c) (ap (same_join join) is ∙ same_joins join) named

  use_there : (c : ScopeColumn) (join : Option ℕ) → c.join ≡ join → Among s.columns c → is_named q c ≡ true → Among (map use_of (filter (is_read q join) s.columns)) (use_of c)
  use_there c join is there named =
      among_map use_of (filter (is_read q join) s.columns) c (among_filter (is_read q join) s.columns c (is_read_there c join is named) there)

  fact_use : (c : ScopeColumn) → c.join ≡ None → Among s.columns c → is_named q c ≡ true → Among p.fact.columns (use_of c)
  fact_use c is there named = subst (λ (us : List ColumnUse). Among us (use_of c)) (sym fact_is) (use_there c None is there named)

  join_use : (c : ScopeColumn) (i : ℕ) (j : Join) → IsJoinAt s q i j → c.join ≡ Some i → Among s.columns c → is_named q c ≡ true → Among j.dim.columns (use_of c)
  join_use c i j at is there named = subst (λ (us : List ColumnUse). Among us (use_of c)) (sym at.columns) (use_there c (Some i) is there named)

  typed_column : (c : ScopeColumn) → Among s.columns c → slice_get (types_in all_types c.join) c.column ≡ Some c.col_type
  typed_column c there = kind_is (slice_get (types_in all_types c.join) c.column) c.col_type (test_at (has_its_type all_types) s.columns c columns_typed there)

  -- the join of a column of FROM
  join_of_column : (c : ScopeColumn) (i : ℕ) → c.join ≡ Some i → Among s.columns c → (j : Join) × (slice_get p.joins i ≡ Some j) × IsJoinAt s q i j
  join_of_column c i is there =
      let typed : slice_get (slice_index_or all_types.joins i []) c.column ≡ Some c.col_type =
      ap (λ (o : Option ℕ). slice_get (types_in all_types o) c.column) (sym is) ∙ typed_column c there in
      let below : i < length s.dims = subst (λ (n : ℕ). i < n) dims_are (table_there all_types.joins i c.column c.col_type typed) in
      let found = join_at s q 0 s.dims p.joins i joins_are below in
      (found.0, found.1, subst (λ (n : ℕ). IsJoinAt s q n found.0) (zero_plus i) found.2)

  abbrev IsOfQuery : Reference → Type 0
  IsOfQuery = IsOf s (is_named q)

  listed_in : (c : ScopeColumn) (join : Option ℕ) → c.join ≡ join → Among s.columns c → is_named q c ≡ true → IsListed p (reference_in join c.column)
  listed_in c None is there named =
      among_contains (used_columns p.fact) c.column (among_map (λ (u : ColumnUse). u.column) p.fact.columns (use_of c) (fact_use c is there named))
  listed_in c (Some i) is there named =
      let j = join_of_column c i is there in (
        j.0,
        j.1,
        among_contains (used_columns j.0.dim) c.column (among_map (λ (u : ColumnUse). u.column) j.0.dim.columns (use_of c) (join_use c i j.0 j.2 is there named)),
      )

  is_listed : (u : Reference) → IsOfQuery u → IsListed p u
  is_listed u of_it = subst (IsListed p) of_it.3 (listed_in of_it.0 of_it.0.join refl of_it.1 of_it.2)

  listed_join : (i : ℕ) (j : Join) → IsJoinAt s q i j → IsListedJoin p j
  listed_join i j at =
      let between = at.between in
      let foreign = among_map (λ (u : ColumnUse). (u.column, u.col_type)) p.fact.columns (use_of between.x) (fact_use between.x between.x_join between.x_there between.x_wanted) in
      let its_join : between.k.join ≡ Some i = between.k_join ∙ ap (λ (n : ℕ). Some n) at.of_it in
      let key = among_map (λ (u : ColumnUse). (u.column, u.col_type)) j.dim.columns (use_of between.k) (join_use between.k i j at its_join between.k_there between.k_wanted) in
      record {
        compared = between.x.col_type;
        foreign = among_contains (listed_columns p.fact) (j.foreign, between.x.col_type)
            (subst (λ (n : ℕ). Among (listed_columns p.fact) (n, between.x.col_type)) (sym (at.foreign ∙ between.foreign)) foreign);
        key = among_contains (listed_columns j.dim) (j.key, between.x.col_type)
            (subst (λ (c : ℕ × ColType). Among (listed_columns j.dim) c) (λ i. ((sym (at.key ∙ between.key)) i, (sym between.same) i)) key);
      }

  -- ---- types

  module _ (types : RowTypes) (have : HasTypesOf p types) where
    type_of_use : (us : List ColumnUse) (given : List ColType) (c : ScopeColumn) → All (λ (u : ColumnUse). slice_get given u.column ≡ Some u.col_type) us → Among us (use_of c) → slice_get given c.column ≡ Some c.col_type
    type_of_use us given c all there =
        all_at (λ (u : ColumnUse). slice_get given u.column ≡ Some u.col_type) us (use_of c) (recursion_from_All (λ (u : ColumnUse). slice_get given u.column ≡ Some u.col_type) us all) there

    type_listed : (c : ScopeColumn) (join : Option ℕ) → c.join ≡ join → Among s.columns c → is_named q c ≡ true → type_at types (reference_in join c.column) ≡ Some c.col_type
    type_listed c None is there named = type_of_use p.fact.columns types.fact c have.fact (fact_use c is there named)
    type_listed c (Some i) is there named =
        let j = join_of_column c i is there in
        type_of_use j.0.dim.columns (slice_index_or types.joins i []) c (listed_at p.joins types.joins i j.0 have.joins j.1) (join_use c i j.0 j.2 is there named)

    type_declared : (c : ScopeColumn) (join : Option ℕ) → c.join ≡ join → Among s.columns c → type_at all_types (reference_in join c.column) ≡ Some c.col_type
    type_declared c None is there = ap (λ (o : Option ℕ). slice_get (types_in all_types o) c.column) (sym is) ∙ typed_column c there
    type_declared c (Some i) is there = ap (λ (o : Option ℕ). slice_get (types_in all_types o) c.column) (sym is) ∙ typed_column c there

    same_type_at : (u : Reference) → IsOfQuery u → type_at types u ≡ type_at all_types u
    same_type_at u of_it =
        subst (λ (v : Reference). type_at types v ≡ type_at all_types v) of_it.3
        (type_listed of_it.0 of_it.0.join refl of_it.1 of_it.2 ∙ sym (type_declared of_it.0 of_it.0.join refl of_it.1))

    all_same : (us : List Reference) → AreOf s (is_named q) us → AllByRecursion (λ u. type_at types u ≡ type_at all_types u) us
    all_same [] all = tt
    all_same (u ∷ us) all = (same_type_at u all.0, all_same us all.1)

    has_same : (x : plan.Expr) (t : ExprType) → AreOf s (is_named q) (columns_used x) → has_type all_types x t ≡ true → has_type types x t ≡ true
    has_same x t of_it is = ap (λ (typing : ExprType → Bool). typing t) (typed_alike types all_types x (all_same (columns_used x) of_it)) ∙ is

-- ---- what the query names

module _ (s : Scope) (q : Query) where
  abbrev wanted : ScopeColumn → Bool
  wanted = is_named q

  abbrev ReadsOf : plan.Expr → Type 0
  ReadsOf x = AreOf s wanted (columns_used x)

  abbrev CoversItem : Item → Type 0
  CoversItem i = Covers wanted i.expr

  items_covered : (items : List Item) → Named wanted (λ p. list_any (λ i. names p i.expr) items) → AllByRecursion CoversItem items
  items_covered [] named = tt
  items_covered (i ∷ items) named = (
    left wanted (λ p. names p i.expr) (λ p. list_any (λ j. names p j.expr) items) named,
    items_covered items (right wanted (λ p. names p i.expr) (λ p. list_any (λ j. names p j.expr) items) named),
  )

  abbrev in_items : ScopeColumn → Bool
  in_items p = list_any (λ i. names p i.expr) q.items

  abbrev in_conditions : ScopeColumn → Bool
  in_conditions p = list_any (names p) (conditions q)

  abbrev in_keys : ScopeColumn → Bool
  in_keys p = list_any (names p) q.group_by

  abbrev in_having : ScopeColumn → Bool
  in_having p = list_any (names p) (option_to_list q.having)

  behind_items : Named wanted (λ p. in_conditions p || (in_keys p || in_having p))
  behind_items = right wanted in_items (λ p. in_conditions p || (in_keys p || in_having p)) (λ p is. is)

  behind_conditions : Named wanted (λ p. in_keys p || in_having p)
  behind_conditions = right wanted in_conditions (λ p. in_keys p || in_having p) behind_items

  items_named : AllByRecursion CoversItem q.items
  items_named = items_covered q.items (left wanted in_items (λ p. in_conditions p || (in_keys p || in_having p)) (λ p is. is))

  conditions_named : AllCovered wanted (conditions q)
  conditions_named = all_covered wanted (conditions q) (left wanted in_conditions (λ p. in_keys p || in_having p) behind_items)

  having_named : AllCovered wanted (option_to_list q.having)
  having_named = all_covered wanted (option_to_list q.having) (right wanted in_keys in_having behind_conditions)

  conjuncts_named : AllCovered wanted (all_conjuncts q)
  conjuncts_named = flat_covered wanted is_no_and (conditions q) conditions_named

  row_conjuncts_named : AllCovered wanted (row_conjuncts q)
  row_conjuncts_named = flat_covered wanted is_no_and (row_conditions q) (of_rows (Covers wanted) q conditions_named)

  keys_named : (grouped : Bool) → AllCovered wanted (key_trees grouped q)
  keys_named true = all_covered wanted q.group_by (left wanted in_keys in_having behind_conditions)
  keys_named false = all_by CoversItem (Covers wanted) (λ i. i.expr) q.items (λ i covered. covered) items_named

  -- ---- aggregates

  abbrev ArgumentReads : Aggregate → Type 0
  ArgumentReads a = ReadsOf a.argument

  counts_rows : ArgumentReads count_rows
  counts_rows = subst (AreOf s wanted) (sym (used-Literal (value.Int (pos 1)))) tt

  abbrev named_at : Expr-F Expr Arm → ScopeColumn → Bool
  named_at x p = names_node p (map-Expr Expr Arm Bool Bool (names p) (names_arm p) x)

  names_out : (e : Expr) (p : ScopeColumn) → names p e ≡ named_at (out-Expr e) p
  names_out e p = search (rules, the_lemmas)

  node_reads : (x : Expr-F Expr Arm) → Named wanted (named_at x) → ArgumentReads (aggregate_node s x)
  node_reads (node.Aggregate kind a) named = row_reads s wanted a named
  node_reads _ named = counts_rows

  aggregate_reads : (e : Expr) → Covers wanted e → ArgumentReads (aggregate_of s e)
  aggregate_reads e covered = node_reads (out-Expr e) (λ p h. covered p (names_out e p ∙ h))

  abbrev AllRead : Aggregates → Type 0
  AllRead l = AllByRecursion ArgumentReads l.list

  take_one : (l : Aggregates) (x : Spelling) (a : Aggregate) (o : Option ℕ) → AllRead l → ArgumentReads a → AllRead (with_new l x a o)
  take_one l x a (Some i) all here = all
  take_one l x a None all here = both_all ArgumentReads l.list (a ∷ []) all (here, tt)

  take_all : (l : Aggregates) (es : List Expr) → AllRead l → AllCovered wanted es → AllRead (with_aggregates s l es)
  take_all l [] all covered = all
  take_all l (e ∷ es) all covered =
      take_all (with_aggregate s l e) es (take_one l (spelled s e) (aggregate_of s e) (index_among l.written (spelled s e)) all (aggregate_reads e covered.0)) covered.1

  take_parts : (l : Aggregates) (parts : List (List Expr)) → AllRead l → AllByRecursion (AllCovered wanted) parts → AllRead (with_parts s l parts)
  take_parts l [] all covered = all
  take_parts l (es ∷ rest) all covered = take_parts (with_aggregates s l es) rest (take_all l es all covered.0) covered.1

  aggregates_read : AllRead (all_aggregates s q)
  aggregates_read =
      take_parts (item_aggregates s q) (map aggregates_in (option_to_list q.having))
      (take_parts no_aggregates (map (λ i. aggregates_in i.expr) q.items) tt
      (all_by CoversItem (AllCovered wanted) (λ i. aggregates_in i.expr) q.items (λ i covered. topmost_covered wanted is_aggregate i.expr covered) items_named))
      (all_by (Covers wanted) (AllCovered wanted) aggregates_in (option_to_list q.having) (λ e covered. topmost_covered wanted is_aggregate e covered) having_named)

-- ---- lengths

pairwise_length : {X Y : Type 0} (R : X → Y → Type 0) (xs : List X) (ys : List Y) → Pairwise R xs ys → length xs ≡ length ys
pairwise_length R [] [] each = refl
pairwise_length R [] (y ∷ ys) each = absurd each
pairwise_length R (x ∷ xs) [] each = absurd each
pairwise_length R (x ∷ xs) (y ∷ ys) each = ap suc (pairwise_length R xs ys each.1)

pairwise_none : {X Y : Type 0} (R : X → Y → Type 0) (xs : List X) (ys : List Y) → Pairwise R xs ys → xs ≡ [] → ys ≡ []
pairwise_none R [] [] each is = refl
pairwise_none R [] (y ∷ ys) each is = absurd each
pairwise_none R (x ∷ xs) ys each is = absurd cc

-- ---- plans

typed_alike_all : {X : Type 0} (P Q R : X → Type 0) (xs : List X) → ((x : X) → P x → Q x → R x) → AllByRecursion P xs → AllByRecursion Q xs → AllByRecursion R xs
typed_alike_all P Q R [] made first second = tt
typed_alike_all P Q R (x ∷ xs) made first second = (made x first.0 second.0, typed_alike_all P Q R xs made first.1 second.1)

module _ (catalog : Catalog) (q : Query) (p : Plan) (parts : AreParts catalog q p) where
  abbrev scope_in : Scope
  scope_in = parts.s

  abbrev equalities_in : List Equality
  equalities_in = equalities_among parts.s (all_conjuncts q)

  conjuncts_read : AllByRecursion (ReadsOf parts.s q) p.conjuncts
  conjuncts_read =
      subst (AllByRecursion (ReadsOf parts.s q)) (sym parts.conjuncts_are)
      (all_by (Covers (is_named q)) (ReadsOf parts.s q) (row_expr parts.s) (filter (is_condition parts.s) (row_conjuncts q)) (row_reads parts.s (is_named q))
      (all_kept (Covers (is_named q)) (is_condition parts.s) (row_conjuncts q) (row_conjuncts_named parts.s q)))

  abbrev KeyReads : GroupingKey → Type 0
  KeyReads k = ReadsOf parts.s q k.expr

  keys_read : AllByRecursion KeyReads p.keys
  keys_read =
      subst (AllByRecursion KeyReads) (sym parts.keys_as)
      (all_by (Covers (is_named q)) KeyReads (key_of parts.s) (key_trees (is_grouped parts.s q) q) (row_reads parts.s (is_named q)) (keys_named parts.s q (is_grouped parts.s q)))

  arguments_read : AllByRecursion (ArgumentReads parts.s q) p.aggs
  arguments_read = subst (AllByRecursion (ArgumentReads parts.s q)) (sym parts.aggs_are) (aggregates_read parts.s q)

  all_read : AllByRecursion (IsOf parts.s (is_named q)) (columns_of_plan p)
  all_read =
      let P = IsOf parts.s (is_named q) in
      let keys = all_by KeyReads (ReadsOf parts.s q) (λ (k : GroupingKey). k.expr) p.keys (λ k reads. reads) keys_read in
      let arguments = all_by (ArgumentReads parts.s q) (ReadsOf parts.s q) (λ (a : Aggregate). a.argument) p.aggs (λ a reads. reads) arguments_read in
      both_all P (columns_used_in_all p.conjuncts) _ (all_flat P columns_used p.conjuncts conjuncts_read)
      (both_all P (columns_used_in_all (map (λ (k : GroupingKey). k.expr) p.keys)) (columns_used_in_all (map (λ (a : Aggregate). a.argument) p.aggs))
      (all_flat P columns_used (map (λ (k : GroupingKey). k.expr) p.keys) keys) (all_flat P columns_used (map (λ (a : Aggregate). a.argument) p.aggs) arguments))

  all_listed : (P Q : Reference → Type 0) (us : List Reference) → ((u : Reference) → P u → Q u) → AllByRecursion P us → AllByRecursion Q us
  all_listed P Q [] made all = tt
  all_listed P Q (u ∷ us) made all = (made u all.0, all_listed P Q us made all.1)

  sound : has_only_fitting_literals q ≡ true → q.items ≢ [] → IsTypedOverGroups p → IsWithinLimits p → Pairwise (λ (x : plan_item.Item) (i : Item). Unit {0}) p.items q.items → IsSoundPlan p
  sound fits some over_groups within each =
      let s = parts.s in
      let known = scopes_are_tables catalog q.source s parts.scope in
      let all_types = joined_types catalog known.0 in
      let typed = plan_typed s all_types known.1.typed q p parts.z parts.checks fits parts.conjuncts_are parts.keys_as parts.aggs_are in
      let fact_is : p.fact.columns ≡ map use_of (filter (is_read q None) s.columns) = ap (λ (t : TableUse). t.columns) parts.fact in
      let dims_are : length all_types.joins ≡ length s.dims =
      length-map known.0 (λ (d : Dimension). column_types d.table.columns) ∙ sym (length-map known.0 (λ (d : Dimension). d.key)) ∙ ap length known.1.keys ∙ length-map s.dims (λ (d : Dim). d.key) in
      let fine = conditions_fine s q parts.z parts.checks in
      let between = all_between s (is_named q) (all_conjuncts q) (all_parted s (conditions q) fine) (conjuncts_named s q) in
      let joins_are = made_joins s q equalities_in between fine (conditions_named s q) 0 s.dims p.joins parts.joins in
      record {
        listed = All-from_recursion _ _ (all_listed (IsOf s (is_named q)) (IsListed p) (columns_of_plan p) (is_listed s q p all_types fact_is joins_are dims_are known.1.typed) all_read);
        joins = All-from_recursion _ _ (all_joins s q (IsListedJoin p) 0 s.dims p.joins (listed_join s q p all_types fact_is joins_are dims_are known.1.typed) joins_are);
        typed = λ types have.
            let has = has_same s q p all_types fact_is joins_are dims_are known.1.typed types have in
            record {
              conditions = All-from_recursion _ _ (typed_alike_all (ReadsOf s q) (λ c. has_type all_types c Boolean ≡ true) (λ c. has_type types c Boolean ≡ true) p.conjuncts (λ c. has c Boolean)
                  conjuncts_read (recursion_from_All _ _ typed.conditions));
              keys = All-from_recursion _ _ (typed_alike_all KeyReads (λ k. has_type all_types k.expr (Valued k.col_type) ≡ true) (λ k. has_type types k.expr (Valued k.col_type) ≡ true) p.keys (λ k. has k.expr (Valued k.col_type))
                  keys_read (recursion_from_All _ _ typed.keys));
              aggregates = All-from_recursion _ _ (typed_alike_all (ArgumentReads s q) (IsTypedAggregate all_types) (IsTypedAggregate types) p.aggs
                  (λ a reads is. record { typed = has a.argument (Valued a.col_type) reads is.typed; counted = is.counted })
                  arguments_read (recursion_from_All _ _ typed.aggregates));
            };
        shown = λ none. some (pairwise_none (λ (x : plan_item.Item) (i : Item). Unit {0}) p.items q.items each none);
        plain = λ is.
            let grouped = not_true (is_grouped s q) (sym parts.plain ∙ is) in
            ap length (parts.keys_as ∙ ap (λ (b : Bool). map (key_of s) (key_trees b q)) grouped) ∙ length-map (key_trees false q) (key_of s) ∙ length-map q.items (λ (i : Item). i.expr)
            ∙ sym (pairwise_length (λ (x : plan_item.Item) (i : Item). Unit {0}) p.items q.items each);
        over_groups = over_groups;
        within = within;
      }

loosened : {X Y : Type 0} (R : X → Y → Type 0) (xs : List X) (ys : List Y) → Pairwise R xs ys → Pairwise (λ x y. Unit {0}) xs ys
loosened R [] [] each = tt
loosened R [] (y ∷ ys) each = absurd each
loosened R (x ∷ xs) [] each = absurd each
loosened R (x ∷ xs) (y ∷ ys) each = (tt, loosened R xs ys each.1)

within_limits : (q : Query) (p : Plan) → IsSoundQuery q → IsLimited q p → IsWithinLimits p
within_limits q p asked limited = record {
  text = subst (λ (text : List ℕ). length text ≤ max_query_bytes) (sym limited.text) asked.short;
  keys = limited.keys;
  aggregates = limited.aggregates;
}

pub plans_are_sound : PlansAreSound
plans_are_sound catalog q p is asked =
    let mean = plans_mean catalog q p is in
    sound catalog q p (parts_of_plan catalog q p is) asked.literals asked.shown (groups_are_typed catalog q p is asked.literals)
    (within_limits q p asked (plans_are_limited catalog q p is)) (loosened (IsItemOf mean.0 q) p.items q.items mean.1.items)

pub planned_returned : (catalog : Catalog) (q : Query) (r : Result Plan PlanFault) → Reports r (planned catalog q) → IfOk r (λ p. planned catalog q ≡ Ok p)
planned_returned catalog q (Ok p) is = is
planned_returned catalog q (Err f) returned = tt

pub sound_returned : (catalog : Catalog) (q : Query) (r : Result Plan PlanFault) → Reports r (planned catalog q) → IfOk r (λ p. IsSoundQuery q → IsSoundPlan p)
sound_returned catalog q (Ok p) is = plans_are_sound catalog q p is
sound_returned catalog q (Err f) returned = tt
