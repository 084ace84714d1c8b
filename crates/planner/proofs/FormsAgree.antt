-- Queries that differ at most in where their conditions stand have one plan but for its text.
use Rattle.std.proofs.Common.{◌≡◌, ℕ, Bool, true, false, ◌||◌, List, [], ◌∷◌, ◌++◌, map, filter, find, flat_map, not, ◌&&◌, cond, zip, Option, Some, None, option_and_then, option_map, option_to_list, Result, Ok, Err, refl, ap, ap₂, sym, ◌∙◌}
use Rattle.std.specs.Prelude.{bytes_eq}
use Rattle.std.specs.List.{list_any, enumerate_from}
use Rattle.meaning.specs.Cut.{Numbered}
use Rattle.meaning.specs.Meaning.{meaning}
use Rattle.meaning.specs.Order.{Row}
use Rattle.meaning.specs.Results.{all_ok, and_then}
use Rattle.meaning.specs.declared.catalog.Catalog.{Catalog}
use Rattle.meaning.specs.declared.plan.Join.{Join}
use Rattle.meaning.specs.declared.plan.JoinType.{JoinType}
use Rattle.meaning.specs.declared.plan.JoinType.TheVariants.{Inner, Left}
use Rattle.meaning.specs.declared.plan.Plan.{Plan}
use Rattle.meaning.specs.declared.plan.TableUse.{TableUse}
use Rattle.sql_syntax.specs.declared.tree.Expr.{Expr}
use Rattle.sql_syntax.specs.declared.tree.Item.{Item}
use Rattle.sql_syntax.specs.declared.tree.JoinKind.{JoinKind}
use Rattle.sql_syntax.specs.declared.tree.JoinKind.TheVariants as join_kind
use Rattle.sql_syntax.specs.declared.tree.Joined.{Joined}
use Rattle.sql_syntax.specs.declared.tree.OrderKey.{OrderKey}
use Rattle.sql_syntax.specs.declared.tree.Query.{Query}
use Rattle.sql_syntax.specs.declared.tree.Table as written
use Rattle.sql_syntax.specs.Canonical.{canonical}
use Rattle.planner_expressions.specs.declared.fault.PlanFault.{PlanFault}
use Rattle.planner_expressions.specs.declared.scope.Dim.{Dim}
use Rattle.planner_expressions.specs.declared.scope.ScopeColumn.{ScopeColumn}
use Rattle.planner_expressions.specs.declared.scope.Scope.{Scope}
use Rattle.planner_expressions.specs.From.{called, enter, enter_all, if_behind, is_before_lefts, is_fact, is_left, join_type_of, no_tables, whole, scope_of}
use Rattle.planner_expressions.specs.Results.{each_ok, map_ok}
use Rattle.planner_expressions.specs.Uses.{names}
use Rattle.planner_clauses.specs.declared.conjuncts.Conjuncts.{Conjuncts}
use Rattle.planner_clauses.specs.declared.conjuncts.Equality.{Equality}
use Rattle.planner.specs.declared.parts.Grouped.{Grouped}
use Rattle.planner.specs.declared.parts.Tables.{Tables}
use Rattle.planner_clauses.specs.Checked.{Checked, checked, conditions, groups_checked, condition_check, item_check, key_check, on_trees, row_conditions}
use Rattle.planner_clauses.specs.Conjuncts.{conjuncts_of, equality_for, if_own, join_equality, goes_by, left_on, left_on_of}
use Rattle.planner.specs.Forms.{AskTheSame, with_text, FormsAgree, with_comma, with_join, CommaIsJoin}
use Rattle.planner.specs.Planned.{conjuncts, equality_by, no_conjuncts, same_join, use_of, tables_of, groups_of, plan_with, planned, planned_in}
use Rattle.planner.specs.PlanOf.{equalities_among}
use Rattle.planner.proofs.Conditions.{found_of_query, of_both, plain_among}

-- ---- results

each_append : {X : Type 0} (f : X → Checked) (xs ys : List X) → each_ok (map f (xs ++ ys)) ≡ and_then (each_ok (map f xs)) (λ _. each_ok (map f ys))
each_append f [] ys = refl
each_append f (x ∷ xs) ys = by_first (f x) (each_append f xs ys)
  where
    by_first : (r : Checked) → each_ok (map f (xs ++ ys)) ≡ and_then (each_ok (map f xs)) (λ _. each_ok (map f ys))
        → and_then r (λ _. each_ok (map f (xs ++ ys))) ≡ and_then (and_then r (λ _. each_ok (map f xs))) (λ _. each_ok (map f ys))
    by_first (Ok z) is = is
    by_first (Err e) is = refl

mapped_then : {X Y Z : Type 0} (f : Y → Z) (r : Result X PlanFault) (k : X → Result Y PlanFault) → map_ok f (and_then r k) ≡ and_then r (λ x. map_ok f (k x))
mapped_then f (Ok x) k = refl
mapped_then f (Err e) k = refl

-- ---- FROM

-- a further table, and the ON of its LEFT join
abbrev Further : Type 0
Further = written.Table × Option Expr

abbrev further_of : Joined → Further
further_of j = (j.table, left_on j.kind)

abbrev further : List Joined → List Further
further js = map further_of js

abbrev type_by : Option Expr → JoinType
type_by None = Inner
type_by (Some e) = Left

joined_by : (kind : JoinKind) → join_type_of kind ≡ type_by (left_on kind)
joined_by join_kind.Comma = refl
joined_by (join_kind.Inner e) = refl
joined_by (join_kind.Left e) = refl

zipped : (js : List Joined) → further js ≡ zip (map (λ j. j.table) js) (map (λ j. left_on j.kind) js)
zipped [] = refl
zipped (j ∷ js) = ap (λ (fs : List Further). further_of j ∷ fs) (zipped js)

-- the further tables in turn, by these alone
abbrev enter_tables : Catalog → Scope → List Further → Result Scope PlanFault
enter_tables catalog s [] = Ok s
enter_tables catalog s (f ∷ fs) = and_then (enter catalog s (type_by f.1) f.0) (λ with_one. enter_tables catalog with_one fs)

entered : (catalog : Catalog) (s : Scope) (js : List Joined) → enter_all catalog s js ≡ enter_tables catalog s (further js)
entered catalog s [] = refl
entered catalog s (j ∷ js) = λ i. and_then (enter catalog s (joined_by j.kind i) j.table) (λ with_one. entered catalog with_one js i)

abbrev before_lefts : List ℕ → List written.Table → List Further → Bool
before_lefts fact before [] = true
before_lefts fact before (f ∷ fs) = (not (is_left (type_by f.1)) || list_any (is_fact fact) before) && before_lefts fact (before ++ f.0 ∷ []) fs

behind : (fact : List ℕ) (before : List written.Table) (js : List Joined) → is_before_lefts fact before js ≡ before_lefts fact before (further js)
behind fact before [] = refl
behind fact before (j ∷ js) = λ i. (not (is_left (joined_by j.kind i)) || list_any (is_fact fact) before) && behind fact (before ++ j.table ∷ []) js i

abbrev scope_by : Catalog → written.Table → List Further → Result Scope PlanFault
scope_by catalog first others =
    and_then (enter catalog no_tables Inner first)
    (λ with_first. and_then (enter_tables catalog with_first others) (λ all. and_then (whole all all.fact) (if_behind (before_lefts catalog.fact.name (first ∷ []) others))))

scope_is : (catalog : Catalog) (q : Query) → scope_of catalog q.source ≡ scope_by catalog q.source.first (further q.source.others)
scope_is catalog q =
    λ i. and_then (enter catalog no_tables Inner q.source.first)
    (λ with_first. and_then (entered catalog with_first q.source.others i)
    (λ all. and_then (whole all all.fact) (if_behind (behind catalog.fact.name (q.source.first ∷ []) q.source.others i))))

-- the ON of the LEFT join whose table goes by a name
abbrev left_by : List Further → List ℕ → Option Expr
left_by [] name = None
left_by (f ∷ fs) name = cond (bytes_eq (called f.0) name) f.1 (left_by fs name)

left_is : (js : List Joined) (d : Dim) → left_on_of js d ≡ left_by (further js) d.called
left_is [] d = refl
left_is (j ∷ js) d = by (goes_by d.called j) (left_is js d)
  where
    by : (b : Bool) → left_on_of js d ≡ left_by (further js) d.called
        → option_and_then (λ (k : Joined). left_on k.kind) (cond b (Some j) (find (goes_by d.called) js)) ≡ cond b (left_on j.kind) (left_by (further js) d.called)
    by true rest = refl
    by false rest = rest

-- ---- names and types

abbrev checked_by : Scope → List Item → List Expr → List Expr → Option Expr → Checked
checked_by s items conditions keys having =
    and_then (each_ok (map (item_check s) items)) (λ _. and_then (each_ok (map (condition_check s true) conditions))
    (λ _. and_then (each_ok (map (key_check s) keys)) (λ _. each_ok (map (condition_check s Rattle.std.proofs.Common.false) (option_to_list having)))))

checked_is : (s : Scope) (q : Query) → checked s q ≡ checked_by s q.items (conditions q) q.group_by q.having
checked_is s q =
    λ i. and_then (each_ok (map (item_check s) q.items)) (λ _. and_then (sym (each_append (condition_check s true) (on_trees q.source.others) (option_to_list q.filter)) i) (λ _. groups_checked s q))

-- ---- tables

abbrev named_by : List Item → List Expr → List Expr → Option Expr → ScopeColumn → Bool
named_by items conditions keys having p =
    list_any (λ i. names p i.expr) items || (list_any (names p) conditions || (list_any (names p) keys || list_any (names p) (option_to_list having)))

abbrev use_by : Scope → (ScopeColumn → Bool) → Option ℕ → List ℕ → TableUse
use_by s named join name = record { name = name; columns = map use_of (filter (λ p. same_join join p.join && named p) s.columns) }

abbrev equality_from : JoinType → Scope → List Further → List Equality → ℕ × Dim → Result Equality PlanFault
equality_from Inner s others equalities d = equality_for equalities d.0
equality_from Left s others equalities d = if_own d.0 (option_and_then (join_equality s) (left_by others d.1.called))

abbrev join_by : Scope → (ScopeColumn → Bool) → List Further → List Equality → ℕ × Dim → Result Join PlanFault
join_by s named others equalities d =
    and_then (equality_from d.1.join_type s others equalities d)
    (λ e. Ok (record { dim = use_by s named (Some d.0) d.1.name; join_type = d.1.join_type; foreign = e.foreign; key = e.key }))

abbrev parts : List Expr → List Expr
parts es = flat_map conjuncts_of es

abbrev tables_by : List ℕ → Scope → (ScopeColumn → Bool) → List Further → Conjuncts → Result Tables PlanFault
tables_by fact s named others c =
    and_then (all_ok (map (join_by s named others c.equalities) (enumerate_from 0 s.dims)))
    (λ joins. Ok (record { fact = use_by s named None fact; joins = joins; conjuncts = c.plain }))

equality_is : (by : JoinType) (s : Scope) (js : List Joined) (equalities : List Equality) (d : ℕ × Dim) → equality_by by s js equalities d ≡ equality_from by s (further js) equalities d
equality_is Inner s js equalities d = refl
equality_is Left s js equalities d = ap (λ (o : Option Expr). if_own d.0 (option_and_then (join_equality s) o)) (left_is js d.1)

tables_are : (fact : List ℕ) (s : Scope) (q : Query) → tables_of fact s q ≡ tables_by fact s (named_by q.items (conditions q) q.group_by q.having) (further q.source.others) (conjuncts s q)
tables_are fact s q =
    λ i. and_then (all_ok (map (λ (d : ℕ × Dim). and_then (equality_is d.1.join_type s q.source.others (conjuncts s q).equalities d i)
    (λ e. Ok (record { dim = use_by s (named_by q.items (conditions q) q.group_by q.having) (Some d.0) d.1.name; join_type = d.1.join_type; foreign = e.foreign; key = e.key })))
    (enumerate_from 0 s.dims)))
    (λ joins. Ok (record { fact = use_by s (named_by q.items (conditions q) q.group_by q.having) None fact; joins = joins; conjuncts = (conjuncts s q).plain }))

-- the conjuncts, by the conditions alone
abbrev conjuncts_by : Scope → List Expr → List Expr → Conjuncts
conjuncts_by s all rows = of_both (equalities_among s (parts all)) (plain_among s (parts rows))

conjuncts_are : (s : Scope) (q : Query) → conjuncts s q ≡ conjuncts_by s (conditions q) (row_conditions q)
conjuncts_are s q = found_of_query s no_conjuncts q

module _ (catalog : Catalog) (q r : Query) (same : AskTheSame q r) where
  further_same : further q.source.others ≡ further r.source.others
  further_same = zipped q.source.others ∙ ap₂ zip same.tables same.left_ons ∙ sym (zipped r.source.others)

  scopes_agree : scope_of catalog q.source ≡ scope_of catalog r.source
  scopes_agree = scope_is catalog q ∙ ap₂ (scope_by catalog) same.first further_same ∙ sym (scope_is catalog r)

  checks_agree : (s : Scope) → checked s q ≡ checked s r
  checks_agree s = checked_is s q ∙ (λ i. checked_by s (same.items i) (same.conditions_are i) (same.group_by i) (same.having i)) ∙ sym (checked_is s r)

  conjuncts_agree : (s : Scope) → conjuncts s q ≡ conjuncts s r
  conjuncts_agree s = conjuncts_are s q ∙ ap₂ (conjuncts_by s) same.conditions_are same.row_conditions_are ∙ sym (conjuncts_are s r)

  tables_agree : (s : Scope) → tables_of catalog.fact.name s q ≡ tables_of catalog.fact.name s r
  tables_agree s =
      tables_are catalog.fact.name s q
      ∙ (λ i. tables_by catalog.fact.name s (named_by (same.items i) (same.conditions_are i) (same.group_by i) (same.having i)) (further_same i) (conjuncts_agree s i))
      ∙ sym (tables_are catalog.fact.name s r)

  -- what is asked of groups, by the parts of the query that say it
  abbrev asked : List Item → List Expr → Option Expr → List OrderKey → Query
  asked items keys having order = record { distinct = r.distinct; items = items; source = r.source; filter = r.filter; group_by = keys; having = having; order_by = order; limit = r.limit }

  groups_are : (s : Scope) → groups_of s q ≡ groups_of s (asked q.items q.group_by q.having q.order_by)
  groups_are s = refl

  groups_agree : (s : Scope) → groups_of s q ≡ groups_of s r
  groups_agree s = groups_are s ∙ (λ i. groups_of s (asked (same.items i) (same.group_by i) (same.having i) (same.order_by i)))

  plans_agree_in : (t : Tables) (g : Grouped) → with_text (canonical r) (plan_with q t g) ≡ plan_with r t g
  plans_agree_in t g = λ i. record {
    text = canonical r;
    fact = t.fact;
    joins = t.joins;
    conjuncts = t.conjuncts;
    keys = g.keys;
    aggs = g.aggs;
    having = g.shown.having;
    items = g.shown.items;
    order = g.shown.order;
    limit = same.limit i;
    plain = g.plain;
    distinct = same.distinct i;
  }

  abbrev renamed : Result Plan PlanFault → Result Plan PlanFault
  renamed = map_ok (with_text (canonical r))

  abbrev behind_groups : Query → Tables → Grouped → Result Plan PlanFault
  behind_groups x t g = Ok (plan_with x t g)

  abbrev behind_tables : Scope → Query → Tables → Result Plan PlanFault
  behind_tables s x t = and_then (groups_of s x) (behind_groups x t)

  tables_renamed : (s : Scope) (t : Tables) → renamed (behind_tables s q t) ≡ behind_tables s r t
  tables_renamed s t =
      mapped_then (with_text (canonical r)) (groups_of s q) (behind_groups q t)
      ∙ (λ i. and_then (groups_agree s i) (λ g. Ok (plans_agree_in t g i)))

  scope_renamed : (s : Scope) → renamed (planned_in catalog.fact.name s q) ≡ planned_in catalog.fact.name s r
  scope_renamed s =
      mapped_then (with_text (canonical r)) (checked s q) (λ _. and_then (tables_of catalog.fact.name s q) (behind_tables s q))
      ∙ (λ i. and_then (checks_agree s i) (λ _. mapped_then (with_text (canonical r)) (tables_of catalog.fact.name s q) (behind_tables s q) i))
      ∙ (λ i. and_then (checked s r) (λ _. and_then (tables_agree s i) (λ t. tables_renamed s t i)))

  all_renamed : renamed (planned catalog q) ≡ planned catalog r
  all_renamed =
      mapped_then (with_text (canonical r)) (scope_of catalog q.source) (λ s. planned_in catalog.fact.name s q)
      ∙ (λ i. and_then (scopes_agree i) (λ s. scope_renamed s i))

pub forms_agree : FormsAgree
forms_agree = all_renamed

comma_asks : (q : Query) (first other : written.Table) (condition : Expr) → AskTheSame (with_comma q first other condition) (with_join q first other condition)
comma_asks q first other condition = record {
  distinct = refl;
  items = refl;
  first = refl;
  tables = refl;
  left_ons = refl;
  conditions_are = refl;
  row_conditions_are = refl;
  group_by = refl;
  having = refl;
  order_by = refl;
  limit = refl;
}

text_apart : (text : List ℕ) (p : Plan) (dims : List (List Row)) (rows : Numbered) → meaning p dims rows ≡ meaning (with_text text p) dims rows
text_apart text p dims rows = refl

ok_same : (x y : Plan) → ◌≡◌ {A = Result Plan PlanFault} (Ok x) (Ok y) → x ≡ y
ok_same x y is = cc

pub comma_is_join : CommaIsJoin
comma_is_join catalog q first other condition =
    let text = canonical (with_join q first other condition) in
    let agree = all_renamed catalog (with_comma q first other condition) (with_join q first other condition) (comma_asks q first other condition) in (
      agree,
      λ p r dims rows p_is r_is.
          let same = ok_same (with_text text p) r (sym (ap (map_ok (with_text text)) p_is) ∙ agree ∙ r_is) in
          text_apart text p dims rows ∙ ap (λ (x : Plan). meaning x dims rows) same,
    )
