-- Queries over sales (id, s, q, p, t) and store (k, region), computed from the definitions.
use Rattle.std.proofs.Common.{rules, ◌≡◌, ℕ, pos, Bool, true, false, not, List, [], ◌∷◌, map, replicate, Option, Some, None, Result, Ok, Err, ap, ◌∙◌, codes}
use Rattle.std.specs.Result.{is_ok}
use Rattle.std.proofs.lemmas.Fmt.{decimal_digit}
use Rattle.meaning.specs.declared.value.ColType.{ColType}
use Rattle.meaning.specs.declared.value.ColType.TheVariants.{Int, Text}
use Rattle.meaning.specs.declared.catalog.Column.{Column}
use Rattle.meaning.specs.Results.{all_ok, and_then}
use Rattle.meaning.specs.declared.catalog.Catalog.{Catalog}
use Rattle.meaning.specs.declared.catalog.Dimension.{Dimension}
use Rattle.meaning.specs.declared.expr.ArithmeticOperator.TheVariants as arithmetic
use Rattle.meaning.specs.declared.expr.ArithmeticOperator.TheVariants.{Add, Multiply}
use Rattle.meaning.specs.declared.expr.ComparisonOperator.TheVariants as comparison
use Rattle.meaning.specs.declared.expr.ComparisonOperator.TheVariants.{Equal, LessOrEqual, Greater}
use Rattle.meaning.specs.declared.expr.Expr.TheFolds as plan
use Rattle.meaning.specs.declared.expr.Expr as plan_expr
use Rattle.meaning.specs.declared.expr.Expr.TheVariants as expr
use Rattle.meaning.specs.declared.plan.AggregateKind.TheVariants as kind
use Rattle.meaning.specs.declared.plan.ColumnUse.{ColumnUse}
use Rattle.meaning.specs.declared.plan.Item as plan_item
use Rattle.meaning.specs.declared.plan.JoinType.TheVariants as join_type
use Rattle.meaning.specs.declared.plan.OrderKey as plan_key
use Rattle.meaning.specs.declared.plan.Plan.{Plan}
use Rattle.meaning.specs.declared.value.Value.TheVariants as value
use Rattle.sql_syntax.specs.Canonical.{canonical}
use Rattle.sql_syntax.specs.declared.tree.JoinKind.{JoinKind}
use Rattle.sql_syntax.specs.declared.tree.JoinKind.TheVariants as join_kind
use Rattle.sql_syntax.specs.declared.tree.Aggregate.TheVariants as aggregate
use Rattle.sql_syntax.specs.declared.tree.Direction.TheVariants.{Ascending, Descending}
use Rattle.sql_syntax.specs.declared.tree.Expr.{Expr}
use Rattle.sql_syntax.specs.declared.tree.Expr.TheVariants as tree
use Rattle.sql_syntax.specs.declared.tree.Expr.TheFolds.{the_lemmas}
use Rattle.sql_syntax.specs.declared.tree.Item.{Item}
use Rattle.sql_syntax.specs.declared.tree.Joined.{Joined}
use Rattle.sql_syntax.specs.declared.tree.OrderTarget.{OrderTarget}
use Rattle.sql_syntax.specs.declared.tree.OrderTarget.TheVariants.{Position, Name}
use Rattle.sql_syntax.specs.declared.tree.Query.{Query}
use Rattle.sql_syntax.specs.declared.tree.Source.{Source}
use Rattle.sql_syntax.specs.Literals.{has_only_fitting_literals}
use Rattle.planner_expressions.specs.declared.basis.Basis.{Basis}
use Rattle.planner_expressions.specs.declared.basis.Basis.TheVariants.{Groups}
use Rattle.planner_expressions.specs.declared.fault.PlanFault.{PlanFault}
use Rattle.planner_expressions.specs.declared.fault.PlanFault.TheVariants as fault
use Rattle.planner_expressions.specs.declared.scope.Dim.{Dim}
use Rattle.planner_expressions.specs.declared.scope.Scope.{Scope}
use Rattle.planner_expressions.specs.declared.scope.Times.TheVariants.{Once}
use Rattle.planner_expressions.specs.From.{no_tables, scope_of, whole, with_dim, with_fact}
use Rattle.planner_expressions.specs.Results.{each_ok}
use Rattle.planner_expressions.specs.Spelled.{spelled}
use Rattle.planner.specs.declared.parts.Grouped.{Grouped}
use Rattle.planner.specs.declared.parts.Shown.{Shown}
use Rattle.planner.specs.declared.parts.Tables.{Tables}
use Rattle.planner_clauses.specs.Checked.{Checked, checked, conditions_checked, groups_checked, item_check}
use Rattle.planner_clauses.specs.Conjuncts.{conjuncts_of}
use Rattle.planner_clauses.specs.Groups.{item_aggregates, all_aggregates, is_grouped, keys_check, key_trees, limits_check, no_keys, with_keys}
use Rattle.planner.specs.Planned.{basis_of, conjuncts, groups_of, groups_with, planned, plan_with, planned_in, shown_of, table_use, tables_of}
use Rattle.planner_clauses.specs.Shown.{header, item_of, items_of, having_of, order_of, over_group, with_header}

abbrev pub column : ColType → List ℕ → Bool → Column
column kind name nullable = record { name = name; col_type = kind; nullable = nullable }

abbrev pub store : Dimension
store = record { table = record { name = codes "store"; columns = column Int (codes "k") false ∷ column Text (codes "region") true ∷ [] }; key = 0 }

abbrev pub catalog : Catalog
catalog = record {
  fact = record {
    name = codes "sales";
    columns = column Int (codes "id") false ∷ column Int (codes "s") true ∷ column Int (codes "q") true ∷ column Int (codes "p") true ∷ column Text (codes "t") true ∷ [];
  };
  dims = store ∷ [];
}

abbrev pub name : List ℕ → Expr
name n = tree.Column None n

abbrev pub item : Expr → Item
item e = record { expr = e; alias = None }

abbrev kind_of : Option Expr → JoinKind
kind_of None = join_kind.Comma
kind_of (Some e) = join_kind.Inner e

abbrev pub joined : List ℕ → Option (List ℕ) → Option Expr → Joined
joined table alias on = record { table = record { name = table; alias = alias }; kind = kind_of on }

abbrev pub left_joined : List ℕ → Option (List ℕ) → Expr → Joined
left_joined table alias on = record { table = record { name = table; alias = alias }; kind = join_kind.Left on }

abbrev pub sales : List Joined → Source
sales others = record { first = record { name = codes "sales"; alias = None }; others = others }

abbrev pub query : List Item → Source → Option Expr → List Expr → Query
query items source condition grouped = record {
  distinct = false;
  items = items;
  source = source;
  filter = condition;
  group_by = grouped;
  having = None;
  order_by = [];
  limit = None;
}

-- s = k
abbrev pub on_store : Expr
on_store = tree.Compare Equal (name (codes "s")) (name (codes "k"))

abbrev pub two_stores : Source
two_stores = sales (joined (codes "store") (Some (codes "a")) None ∷ joined (codes "store") (Some (codes "b")) None ∷ [])

-- q + 1
abbrev pub next : Expr
next = tree.Arithmetic Add (name (codes "q")) (tree.Integer (pos 1))

-- ---- names

-- SELECT x FROM sales
unknown : planned catalog (query (item (name (codes "x")) ∷ []) (sales []) None []) ≡ Err fault.ColumnUnknown
unknown = search (rules, the_lemmas)

-- SELECT region FROM sales, store a, store b
ambiguous : planned catalog (query (item (name (codes "region")) ∷ []) two_stores None []) ≡ Err fault.Ambiguous
ambiguous = search (rules, the_lemmas)

-- SELECT store.region FROM sales, store a, store b: a table with an alias isn't known by its own name
by_own_name : planned catalog (query (item (tree.Column (Some (codes "store")) (codes "region")) ∷ []) two_stores None []) ≡ Err fault.ColumnUnknown
by_own_name = search (rules, the_lemmas)

-- SELECT a.region FROM sales, store a, store b: the name refers to one column, and the first dimension has no equality
qualified : planned catalog (query (item (tree.Column (Some (codes "a")) (codes "region")) ∷ []) two_stores None []) ≡ Err fault.NoEquality
qualified = search (rules, the_lemmas)

-- SELECT id FROM nothing, sales
no_table : planned catalog (record (query (item (name (codes "id")) ∷ []) (sales []) None []) { source = record { first = record { name = codes "nothing"; alias = None }; others = joined (codes "sales") None None ∷ [] } }) ≡ Err fault.TableUnknown
no_table = search (rules, the_lemmas)

-- SELECT id FROM sales, sales
table_twice : planned catalog (query (item (name (codes "id")) ∷ []) (sales (joined (codes "sales") None None ∷ [])) None []) ≡ Err fault.Ambiguous
table_twice = search (rules, the_lemmas)

-- SELECT k FROM store
no_fact : planned catalog (record (query (item (name (codes "k")) ∷ []) (sales []) None []) { source = record { first = record { name = codes "store"; alias = None }; others = [] } }) ≡ Err fault.FactNotOnce
no_fact = search (rules, the_lemmas)

-- ---- joins

-- SELECT id FROM sales, store
no_equality : planned catalog (query (item (name (codes "id")) ∷ []) (sales (joined (codes "store") None None ∷ [])) None []) ≡ Err fault.NoEquality
no_equality = search (rules, the_lemmas)

-- SELECT id FROM sales JOIN store ON s = k WHERE k = id
two_equalities :
    planned catalog (query (item (name (codes "id")) ∷ []) (sales (joined (codes "store") None (Some on_store) ∷ [])) (Some (tree.Compare Equal (name (codes "k")) (name (codes "id")))) [])
    ≡ Err fault.TwoEqualities
two_equalities = search (rules, the_lemmas)

-- SELECT id FROM sales, store WHERE s = k OR s = k
under_or : planned catalog (query (item (name (codes "id")) ∷ []) (sales (joined (codes "store") None None ∷ [])) (Some (tree.Or on_store on_store)) []) ≡ Err fault.NoEquality
under_or = search (rules, the_lemmas)

-- ---- left joins

-- SELECT id FROM ..
abbrev pub ids : Source → Query
ids source = query (item (name (codes "id")) ∷ []) source None []

-- FROM sales LEFT JOIN store ON ..
abbrev pub left_store : Expr → Source
left_store on = sales (left_joined (codes "store") None on ∷ [])

-- ON s = k
by_its_equality : is_ok (planned catalog (ids (left_store on_store))) ≡ true
by_its_equality = search (rules, the_lemmas, plan.the_lemmas)

-- ON s > k
by_no_equality : planned catalog (ids (left_store (tree.Compare Greater (name (codes "s")) (name (codes "k"))))) ≡ Err fault.LeftNotByEquality
by_no_equality = search (rules, the_lemmas)

-- ON s = k AND s = k
by_two_equalities : planned catalog (ids (left_store (tree.And on_store on_store))) ≡ Err fault.LeftNotByEquality
by_two_equalities = search (rules, the_lemmas)

-- ON s = region
of_two_types : planned catalog (ids (left_store (tree.Compare Equal (name (codes "s")) (name (codes "region"))))) ≡ Err fault.TypeMismatch
of_two_types = search (rules, the_lemmas)

-- SELECT id FROM store LEFT JOIN sales ON s = k
before_the_fact : planned catalog (ids (record { first = record { name = codes "store"; alias = None }; others = left_joined (codes "sales") None on_store ∷ [] })) ≡ Err fault.LeftNotBehindFact
before_the_fact = search (rules, the_lemmas)

-- FROM sales, store a LEFT JOIN store b ON s = ..
abbrev left_second : List ℕ → Query
left_second owner =
    ids (sales (joined (codes "store") (Some (codes "a")) None ∷ left_joined (codes "store") (Some (codes "b")) (tree.Compare Equal (name (codes "s")) (tree.Column (Some owner) (codes "k"))) ∷ []))

-- ON s = b.k: a has no equality
first_without : planned catalog (left_second (codes "b")) ≡ Err fault.NoEquality
first_without = search (rules, the_lemmas)

-- ON s = a.k: the equality is that of a, and b has none of its own
second_without : planned catalog (left_second (codes "a")) ≡ Err fault.LeftNotByEquality
second_without = search (rules, the_lemmas)

-- the operands of the topmost ANDs
four : conjuncts_of (tree.And (tree.And (tree.Or on_store on_store) (tree.Not on_store)) (tree.IsNull false next)) ≡ tree.Or on_store on_store ∷ tree.Not on_store ∷ tree.IsNull false next ∷ []
four = search (rules, the_lemmas)

-- ---- types and aggregates

-- SELECT q + t FROM sales
mixed : planned catalog (query (item (tree.Arithmetic Add (name (codes "q")) (name (codes "t"))) ∷ []) (sales []) None []) ≡ Err fault.TypeMismatch
mixed = search (rules, the_lemmas)

-- SELECT SUM(t) FROM sales
sum_of_text : planned catalog (query (item (tree.Aggregate aggregate.Sum (name (codes "t"))) ∷ []) (sales []) None []) ≡ Err fault.TypeMismatch
sum_of_text = search (rules, the_lemmas)

-- SELECT SUM(COUNT(*) + x) FROM sales: the inner aggregate comes before the name
inner_aggregate : planned catalog (query (item (tree.Aggregate aggregate.Sum (tree.Arithmetic Add tree.CountRows (name (codes "x")))) ∷ []) (sales []) None []) ≡ Err fault.MisplacedAggregate
inner_aggregate = search (rules, the_lemmas)

-- SELECT id FROM sales WHERE COUNT(*) > 1
in_where : planned catalog (query (item (name (codes "id")) ∷ []) (sales []) (Some (tree.Compare Greater tree.CountRows (tree.Integer (pos 1)))) []) ≡ Err fault.MisplacedAggregate
in_where = search (rules, the_lemmas)

-- SELECT id FROM sales WHERE q
no_truth : planned catalog (query (item (name (codes "id")) ∷ []) (sales []) (Some (name (codes "q"))) []) ≡ Err fault.TypeMismatch
no_truth = search (rules, the_lemmas)

-- ---- groups

-- SELECT id, COUNT(*) FROM sales
not_grouped : planned catalog (query (item (name (codes "id")) ∷ item tree.CountRows ∷ []) (sales []) None []) ≡ Err fault.NotGrouped
not_grouped = search (rules, the_lemmas, plan.the_lemmas)

-- SELECT q FROM sales GROUP BY q + 1
part_of_key : planned catalog (query (item (name (codes "q")) ∷ []) (sales []) None (next ∷ [])) ≡ Err fault.NotGrouped
part_of_key = search (rules, the_lemmas, plan.the_lemmas)

-- SELECT id FROM sales GROUP BY 1: the literal is refused before the column that isn't grouped
by_position : planned catalog (query (item (name (codes "id")) ∷ []) (sales []) None (tree.Integer (pos 1) ∷ [])) ≡ Err fault.PositionNotAllowed
by_position = search (rules, the_lemmas, plan.the_lemmas)

-- SELECT (sales.q + 1) * 2 FROM sales GROUP BY q + 1
part_is_grouped :
    is_ok (planned catalog (query (item (tree.Arithmetic Multiply (tree.Arithmetic Add (tree.Column (Some (codes "sales")) (codes "q")) (tree.Integer (pos 1))) (tree.Integer (pos 2))) ∷ []) (sales []) None (next ∷ [])))
    ≡ true
part_is_grouped = search (rules, the_lemmas, plan.the_lemmas)

-- SELECT SUM(q + 1) * 2 FROM sales
over_aggregate : is_ok (planned catalog (query (item (tree.Arithmetic Multiply (tree.Aggregate aggregate.Sum next) (tree.Integer (pos 2))) ∷ []) (sales []) None [])) ≡ true
over_aggregate = search (rules, the_lemmas, plan.the_lemmas)

-- SELECT id FROM sales JOIN store ON k = s
key_first : is_ok (planned catalog (query (item (name (codes "id")) ∷ []) (sales (joined (codes "store") None (Some (tree.Compare Equal (name (codes "k")) (name (codes "s")))) ∷ [])) None [])) ≡ true
key_first = search (rules, the_lemmas, plan.the_lemmas)

-- SELECT id FROM sales HAVING 1 = 1
having_alone : planned catalog (record (query (item (name (codes "id")) ∷ []) (sales []) None []) { having = Some (tree.Compare Equal (tree.Integer (pos 1)) (tree.Integer (pos 1))) }) ≡ Err fault.NotGrouped
having_alone = search (rules, the_lemmas, plan.the_lemmas)

-- ---- order

-- SELECT id, id FROM sales ORDER BY ..
abbrev ordered : OrderTarget → Query
ordered target = record (query (item (name (codes "id")) ∷ item (name (codes "id")) ∷ []) (sales []) None []) { order_by = record { target = target; direction = Ascending } ∷ [] }

before_the_first : planned catalog (ordered (Position 0)) ≡ Err fault.PositionNotAllowed
before_the_first = search (rules, the_lemmas, plan.the_lemmas)

past_the_end : planned catalog (ordered (Position 3)) ≡ Err fault.PositionNotAllowed
past_the_end = search (rules, the_lemmas, plan.the_lemmas)

last_item : is_ok (planned catalog (ordered (Position 2))) ≡ true
last_item = search (rules, the_lemmas, plan.the_lemmas)

no_item : planned catalog (ordered (Name (codes "c1"))) ≡ Err fault.PositionNotAllowed
no_item = search (rules, the_lemmas, plan.the_lemmas)

two_items : planned catalog (ordered (Name (codes "id"))) ≡ Err fault.Ambiguous
two_items = search (rules, the_lemmas, plan.the_lemmas)

-- ---- literals

-- SELECT id FROM sales WHERE q > ..
abbrev above : ℕ → Query
above n = query (item (name (codes "id")) ∷ []) (sales []) (Some (tree.Compare Greater (name (codes "q")) (tree.Integer (pos n)))) []

greatest_fits : has_only_fitting_literals (above 9223372036854775807) ≡ true
greatest_fits = search (rules, the_lemmas)

one_more_does_not_fit : has_only_fitting_literals (above 9223372036854775808) ≡ false
one_more_does_not_fit = search (rules, the_lemmas)

-- ---- a whole plan

-- MIN(q + 1)
abbrev pub least : Expr
least = tree.Aggregate aggregate.Min next

-- MAX(t)
abbrev pub greatest : Expr
greatest = tree.Aggregate aggregate.Max (name (codes "t"))

-- SELECT r.region, MIN(q + 1), MAX(t) AS best FROM .. WHERE .. GROUP BY region HAVING MIN(q + 1) > 0 ORDER BY 2 DESC, best LIMIT 3
abbrev pub best_of : Source → Expr → Query
best_of source condition = record {
  distinct = true;
  items =
      item (tree.Column (Some (codes "r")) (codes "region"))
      ∷ item least
      ∷ record { expr = greatest; alias = Some (codes "best") }
      ∷ [];
  source = source;
  filter = Some condition;
  group_by = name (codes "region") ∷ [];
  having = Some (tree.Compare Greater least (tree.Integer (pos 0)));
  order_by = record { target = Position 2; direction = Descending } ∷ record { target = Name (codes "best"); direction = Ascending } ∷ [];
  limit = Some 3;
}

-- q <= p
abbrev pub at_most : Expr
at_most = tree.Compare LessOrEqual (name (codes "q")) (name (codes "p"))

abbrev pub read : ℕ → List ℕ → ColType → ColumnUse
read k name kind = record { column = k; name = name; col_type = kind }

-- the plan, by hand but for its text
abbrev pub best_plan : List ℕ → Plan
best_plan text = record {
  text = text;
  fact = record {
    name = codes "sales";
    columns = read 1 (codes "s") Int ∷ read 2 (codes "q") Int ∷ read 3 (codes "p") Int ∷ read 4 (codes "t") Text ∷ [];
  };
  joins = record {
    dim = record { name = codes "store"; columns = read 0 (codes "k") Int ∷ read 1 (codes "region") Text ∷ [] };
    join_type = join_type.Inner;
    foreign = 1;
    key = 0;
  } ∷ [];
  conjuncts = expr.Compare comparison.LessOrEqual (expr.Column 2) (expr.Column 3) ∷ [];
  keys = record { expr = expr.Joined 0 1; col_type = Text } ∷ [];
  aggs =
      record { kind = kind.Min; argument = expr.Arithmetic arithmetic.Add (expr.Column 2) (expr.Literal (value.Int (pos 1))); col_type = Int }
      ∷ record { kind = kind.Max; argument = expr.Column 4; col_type = Text }
      ∷ [];
  having = Some (expr.Compare comparison.Greater (expr.Aggregate 0) (expr.Literal (value.Int (pos 0))));
  items =
      record { header = codes "region"; expr = expr.Key 0 }
      ∷ record { header = codes "c2"; expr = expr.Aggregate 0 }
      ∷ record { header = codes "best"; expr = expr.Aggregate 1 }
      ∷ [];
  order = record { item = 1; descending = true } ∷ record { item = 2; descending = false } ∷ [];
  limit = Some 3;
  plain = false;
  distinct = true;
}

-- FROM sales JOIN store r ON s = k WHERE q <= p
abbrev pub by_on : Query
by_on = best_of (sales (joined (codes "store") (Some (codes "r")) (Some on_store) ∷ [])) at_most

-- sales, and store as r
abbrev pub with_store : Scope
with_store = with_dim (with_fact no_tables (codes "sales") catalog.fact) (codes "r") join_type.Inner store

scoped : scope_of catalog by_on.source ≡ Ok with_store
scoped = search (rules, the_lemmas)

items_fine : each_ok (map (item_check with_store) by_on.items) ≡ Ok tt
items_fine = search (rules, the_lemmas)

conditions_fine : conditions_checked with_store by_on ≡ Ok tt
conditions_fine = search (rules, the_lemmas)

groups_fine : groups_checked with_store by_on ≡ Ok tt
groups_fine = search (rules, the_lemmas)

conjuncts_are : conjuncts with_store by_on ≡ record { equalities = record { join = 0; foreign = 1; key = 0 } ∷ []; plain = (best_plan []).conjuncts }
conjuncts_are = search (rules, the_lemmas, plan.the_lemmas)

fact_is : table_use with_store by_on None (codes "sales") ≡ (best_plan []).fact
fact_is = search (rules, the_lemmas)

dim_is : table_use with_store by_on (Some 0) (codes "store") ≡ record { name = codes "store"; columns = read 0 (codes "k") Int ∷ read 1 (codes "region") Text ∷ [] }
dim_is = search (rules, the_lemmas)

item_aggregates_are : item_aggregates with_store by_on ≡ record { written = spelled with_store least ∷ spelled with_store greatest ∷ []; list = (best_plan []).aggs }
item_aggregates_are = search (rules, the_lemmas, plan.the_lemmas)

all_aggregates_are : all_aggregates with_store by_on ≡ record { written = spelled with_store least ∷ spelled with_store greatest ∷ []; list = (best_plan []).aggs }
all_aggregates_are = search (rules, the_lemmas, plan.the_lemmas)

grouped : is_grouped with_store by_on ≡ true
grouped = search (rules, the_lemmas, plan.the_lemmas)

keys_are : (g : Bool) → g ≡ true → with_keys with_store no_keys (key_trees g by_on) ≡ record { written = spelled with_store (name (codes "region")) ∷ []; list = (best_plan []).keys }
keys_are g is = search (rules, the_lemmas, plan.the_lemmas)

limits_fine : limits_check with_store by_on ≡ Ok tt
limits_fine = search (rules, the_lemmas, plan.the_lemmas, item_aggregates_are, all_aggregates_are, grouped)

abbrev pub basis : Basis
basis = Groups (spelled with_store (name (codes "region")) ∷ []) (spelled with_store least ∷ spelled with_store greatest ∷ [])

first_item : item_of with_store basis (0, item (tree.Column (Some (codes "r")) (codes "region"))) ≡ Ok (record { header = codes "region"; expr = expr.Key 0 })
first_item = search (rules, the_lemmas, plan.the_lemmas)

second_expr : over_group with_store basis least ≡ Ok (expr.Aggregate 0)
second_expr = search (rules, the_lemmas, plan.the_lemmas)

second_header : header (1, item least) ≡ codes "c2"
second_header = search (rules, the_lemmas, decimal_digit)

second_item : item_of with_store basis (1, item least) ≡ Ok (record { header = codes "c2"; expr = expr.Aggregate 0 })
second_item = λ i. and_then (second_expr i) (λ x. Ok (with_header (second_header i) x))

third_item : item_of with_store basis (2, record { expr = greatest; alias = Some (codes "best") }) ≡ Ok (record { header = codes "best"; expr = expr.Aggregate 1 })
third_item = search (rules, the_lemmas, plan.the_lemmas)

items_are : items_of with_store basis by_on.items ≡ Ok (best_plan []).items
items_are = λ i. all_ok (first_item i ∷ second_item i ∷ third_item i ∷ [])

having_is : having_of with_store basis by_on.having ≡ Ok (best_plan []).having
having_is = search (rules, the_lemmas, plan.the_lemmas)

order_is : order_of by_on.items by_on.order_by ≡ Ok (best_plan []).order
order_is = search (rules, the_lemmas)

basis_is : basis_of with_store by_on ≡ basis
basis_is = λ i. Groups (keys_are (is_grouped with_store by_on) grouped i).written (all_aggregates_are i).written

abbrev pub shown : Shown
shown = record { items = (best_plan []).items; having = (best_plan []).having; order = (best_plan []).order }

shown_is : shown_of with_store by_on basis ≡ Ok shown
shown_is =
    ap (λ (r : Result (List plan_item.Item) PlanFault). and_then r (λ xs. and_then (having_of with_store basis by_on.having) (λ x. and_then (order_of by_on.items by_on.order_by) (λ o. Ok (record { items = xs; having = x; order = o }))))) items_are
    ∙ ap (λ (r : Result (Option plan_expr.Expr) PlanFault). and_then r (λ x. and_then (order_of by_on.items by_on.order_by) (λ o. Ok (record { items = (best_plan []).items; having = x; order = o })))) having_is
    ∙ ap (λ (r : Result (List plan_key.OrderKey) PlanFault). and_then r (λ o. Ok (record { items = (best_plan []).items; having = (best_plan []).having; order = o }))) order_is

abbrev pub grouped_as : Grouped
grouped_as = record { keys = (best_plan []).keys; aggs = (best_plan []).aggs; plain = false; shown = shown }

groups_are : groups_of with_store by_on ≡ Ok grouped_as
groups_are =
    ap (λ (r : Checked). and_then r (λ _. and_then (shown_of with_store by_on (basis_of with_store by_on)) (λ x. Ok (groups_with with_store by_on x)))) limits_fine
    ∙ ap (λ (b : Basis). and_then (shown_of with_store by_on b) (λ x. Ok (groups_with with_store by_on x))) basis_is
    ∙ ap (λ (r : Result Shown PlanFault). and_then r (λ x. Ok (groups_with with_store by_on x))) shown_is
    ∙ (λ i. Ok (record { keys = (keys_are (is_grouped with_store by_on) grouped i).list; aggs = (all_aggregates_are i).list; plain = not (grouped i); shown = shown }))

abbrev pub tables : Tables
tables = record { fact = (best_plan []).fact; joins = (best_plan []).joins; conjuncts = (best_plan []).conjuncts }

-- whichever way FROM and WHERE are written
module _ (source : Source) (condition : Expr) where
  abbrev q : Query
  q = best_of source condition

  checked_is : conditions_checked with_store q ≡ Ok tt → checked with_store q ≡ Ok tt
  checked_is conditions_fine =
      ap (λ (r : Checked). and_then r (λ _. and_then (conditions_checked with_store q) (λ _. groups_checked with_store q))) items_fine
      ∙ ap (λ (r : Checked). and_then r (λ _. groups_checked with_store q)) conditions_fine
      ∙ groups_fine

  is_planned : scope_of catalog source ≡ Ok with_store → conditions_checked with_store q ≡ Ok tt → tables_of (codes "sales") with_store q ≡ Ok tables
      → planned catalog q ≡ Ok (best_plan (canonical q))
  is_planned scoped conditions_fine tables_are =
      ap (λ (r : Result Scope PlanFault). and_then r (λ s. planned_in (codes "sales") s q)) scoped
      ∙ ap (λ (r : Checked). and_then r (λ _. and_then (tables_of (codes "sales") with_store q) (λ t. and_then (groups_of with_store q) (λ g. Ok (plan_with q t g))))) (checked_is conditions_fine)
      ∙ ap (λ (r : Result Tables PlanFault). and_then r (λ t. and_then (groups_of with_store q) (λ g. Ok (plan_with q t g)))) tables_are
      ∙ ap (λ (r : Result Grouped PlanFault). and_then r (λ g. Ok (plan_with q tables g))) groups_are

on_tables : tables_of (codes "sales") with_store by_on ≡ Ok tables
on_tables = search (rules, the_lemmas, conjuncts_are, fact_is, dim_is)

on_is_planned : planned catalog by_on ≡ Ok (best_plan (canonical by_on))
on_is_planned = is_planned (sales (joined (codes "store") (Some (codes "r")) (Some on_store) ∷ [])) at_most scoped conditions_fine on_tables

-- FROM sales, store r WHERE s = k AND q <= p: the same plan but for its text
abbrev pub by_comma : Query
by_comma = best_of (sales (joined (codes "store") (Some (codes "r")) None ∷ [])) (tree.And on_store at_most)

comma_conditions_fine : conditions_checked with_store by_comma ≡ Ok tt
comma_conditions_fine = search (rules, the_lemmas)

comma_conjuncts : conjuncts with_store by_comma ≡ record { equalities = record { join = 0; foreign = 1; key = 0 } ∷ []; plain = (best_plan []).conjuncts }
comma_conjuncts = search (rules, the_lemmas, plan.the_lemmas)

comma_fact : table_use with_store by_comma None (codes "sales") ≡ (best_plan []).fact
comma_fact = search (rules, the_lemmas)

comma_dim : table_use with_store by_comma (Some 0) (codes "store") ≡ record { name = codes "store"; columns = read 0 (codes "k") Int ∷ read 1 (codes "region") Text ∷ [] }
comma_dim = search (rules, the_lemmas)

comma_tables : tables_of (codes "sales") with_store by_comma ≡ Ok tables
comma_tables = search (rules, the_lemmas, comma_conjuncts, comma_fact, comma_dim)

comma_is_planned : planned catalog by_comma ≡ Ok (best_plan (canonical by_comma))
comma_is_planned = is_planned (sales (joined (codes "store") (Some (codes "r")) None ∷ [])) (tree.And on_store at_most) scoped comma_conditions_fine comma_tables

-- ---- the tables of a left join

-- SELECT region FROM sales LEFT JOIN store ON s = k WHERE s = k: the equality behind WHERE is a condition
abbrev pub by_left : Query
by_left = query (item (name (codes "region")) ∷ []) (left_store on_store) (Some on_store) []

abbrev pub with_left_store : Scope
with_left_store = with_dim (with_fact no_tables (codes "sales") catalog.fact) (codes "store") join_type.Left store

left_scoped : scope_of catalog by_left.source ≡ Ok with_left_store
left_scoped = search (rules, the_lemmas)

left_conjuncts : conjuncts with_left_store by_left ≡ record { equalities = []; plain = expr.Compare comparison.Equal (expr.Column 1) (expr.Joined 0 0) ∷ [] }
left_conjuncts = search (rules, the_lemmas, plan.the_lemmas)

left_fact : table_use with_left_store by_left None (codes "sales") ≡ record { name = codes "sales"; columns = read 1 (codes "s") Int ∷ [] }
left_fact = search (rules, the_lemmas)

left_dim : table_use with_left_store by_left (Some 0) (codes "store") ≡ record { name = codes "store"; columns = read 0 (codes "k") Int ∷ read 1 (codes "region") Text ∷ [] }
left_dim = search (rules, the_lemmas)

left_tables :
    tables_of (codes "sales") with_left_store by_left
    ≡ Ok (record {
      fact = record { name = codes "sales"; columns = read 1 (codes "s") Int ∷ [] };
      joins = record {
        dim = record { name = codes "store"; columns = read 0 (codes "k") Int ∷ read 1 (codes "region") Text ∷ [] };
        join_type = join_type.Left;
        foreign = 1;
        key = 0;
      } ∷ [];
      conjuncts = expr.Compare comparison.Equal (expr.Column 1) (expr.Joined 0 0) ∷ [];
    })
left_tables = search (rules, the_lemmas, left_conjuncts, left_fact, left_dim)

-- ---- limits

abbrev some_dim : Dim
some_dim = record { called = codes "store"; name = codes "store"; key = 0; join_type = join_type.Left }

-- FROM with seventeen joins, and with sixteen
seventeen : whole (record with_store { dims = replicate 17 some_dim }) Once ≡ Err fault.OverLimit
seventeen = search (rules)

sixteen : is_ok (whole (record with_store { dims = replicate 16 some_dim }) Once) ≡ true
sixteen = search (rules)

-- GROUP BY q, q, .. of 65 entries, and of 64
keys_past_the_limit : keys_check true (query [] (sales []) None (replicate 65 (name (codes "q")))) ≡ Err fault.OverLimit
keys_past_the_limit = search (rules, the_lemmas)

keys_at_the_limit : keys_check true (query [] (sales []) None (replicate 64 (name (codes "q")))) ≡ Ok tt
keys_at_the_limit = search (rules, the_lemmas)
