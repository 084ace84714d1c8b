-- The plan of a query, or its first fault.
use Rattle.std.specs.Prelude.{ℕ, ◌==◌, Bool, true, false, not, ◌&&◌, ◌||◌, List, [], map, filter, Option, Some, None, option_to_list, Result, Ok}
use Rattle.std.specs.List.{list_any, enumerate_from}
use Rattle.meaning.specs.Results.{all_ok, and_then}
use Rattle.meaning.specs.declared.catalog.Catalog.{Catalog}
use Rattle.meaning.specs.declared.expr.Expr as plan
use Rattle.meaning.specs.declared.plan.ColumnUse.{ColumnUse}
use Rattle.meaning.specs.declared.plan.TableUse.{TableUse}
use Rattle.meaning.specs.declared.plan.Join.{Join}
use Rattle.meaning.specs.declared.plan.JoinType.{JoinType}
use Rattle.meaning.specs.declared.plan.JoinType.TheVariants.{Inner, Left}
use Rattle.meaning.specs.declared.plan.Item as plan_item
use Rattle.meaning.specs.declared.plan.OrderKey as plan_key
use Rattle.meaning.specs.declared.plan.Plan.{Plan}
use Rattle.sql_syntax.specs.declared.tree.Joined.{Joined}
use Rattle.sql_syntax.specs.declared.tree.Query.{Query}
use Rattle.sql_syntax.specs.Canonical.{canonical}
use Rattle.planner_expressions.specs.declared.basis.Basis.{Basis}
use Rattle.planner_expressions.specs.declared.basis.Basis.TheVariants.{Groups}
use Rattle.planner_expressions.specs.declared.fault.PlanFault.{PlanFault}
use Rattle.planner_expressions.specs.declared.scope.Dim.{Dim}
use Rattle.planner_expressions.specs.declared.scope.ScopeColumn.{ScopeColumn}
use Rattle.planner_expressions.specs.declared.scope.Scope.{Scope}
use Rattle.planner_expressions.specs.From.{scope_of}
use Rattle.planner_expressions.specs.Uses.{names}
use Rattle.planner_clauses.specs.declared.conjuncts.Conjuncts.{Conjuncts}
use Rattle.planner_clauses.specs.declared.conjuncts.Equality.{Equality}
use Rattle.planner.specs.declared.parts.Tables.{Tables}
use Rattle.planner.specs.declared.parts.Shown.{Shown}
use Rattle.planner.specs.declared.parts.Grouped.{Grouped}
use Rattle.planner_clauses.specs.Checked.{checked, conditions}
use Rattle.planner_clauses.specs.Conjuncts.{with_all, equality_for, left_equality_for}
use Rattle.planner_clauses.specs.Groups.{all_aggregates, is_grouped, keys_of, limits_check}
use Rattle.planner_clauses.specs.Shown.{items_of, having_of, order_of}

-- ---- the columns that are read

-- some expression of the query names the column
abbrev pub is_named : Query → ScopeColumn → Bool
is_named q p =
    list_any (λ i. names p i.expr) q.items
    || (list_any (names p) (conditions q) || (list_any (names p) q.group_by || list_any (names p) (option_to_list q.having)))

-- the columns of a dimension of FROM, or of the fact
abbrev pub same_join : Option ℕ → Option ℕ → Bool
same_join None None = true
same_join (Some i) (Some j) = i == j
same_join _ _ = false

abbrev pub is_read : Query → Option ℕ → ScopeColumn → Bool
is_read q join p = same_join join p.join && is_named q p

abbrev pub use_of : ScopeColumn → ColumnUse
use_of p = record { column = p.column; name = p.name; col_type = p.col_type }

-- a table with those of its columns that the query names, in the catalogue's order
abbrev pub table_use : Scope → Query → Option ℕ → List ℕ → TableUse
table_use s q join name = record { name = name; columns = map use_of (filter (is_read q join) s.columns) }

-- ---- joins

abbrev pub no_conjuncts : Conjuncts
no_conjuncts = record { equalities = []; plain = [] }

abbrev pub conjuncts : Scope → Query → Conjuncts
conjuncts s q = with_all s no_conjuncts q

-- an inner join's equality is a conjunct of ON or WHERE, a LEFT join's is its ON
abbrev pub equality_by : JoinType → Scope → List Joined → List Equality → ℕ × Dim → Result Equality PlanFault
equality_by Inner s js equalities d = equality_for equalities d.0
equality_by Left s js equalities d = left_equality_for s js d

abbrev pub join_with : Scope → Query → ℕ × Dim → Equality → Join
join_with s q d e = record { dim = table_use s q (Some d.0) d.1.name; join_type = d.1.join_type; foreign = e.foreign; key = e.key }

-- a dimension of FROM, joined by its one equality
abbrev pub join_of : Scope → Query → List Equality → ℕ × Dim → Result Join PlanFault
join_of s q equalities d = and_then (equality_by d.1.join_type s q.source.others equalities d) (λ e. Ok (join_with s q d e))

abbrev pub joins_of : Scope → Query → List Equality → Result (List Join) PlanFault
joins_of s q equalities = all_ok (map (join_of s q equalities) (enumerate_from 0 s.dims))

-- ---- all

abbrev pub basis_of : Scope → Query → Basis
basis_of s q = Groups (keys_of s q).written (all_aggregates s q).written

-- the tables, and what is asked of their rows
abbrev pub tables_with : Scope → Query → List ℕ → List Join → Tables
tables_with s q fact joins = record { fact = table_use s q None fact; joins = joins; conjuncts = (conjuncts s q).plain }

abbrev pub tables_of : List ℕ → Scope → Query → Result Tables PlanFault
tables_of fact s q = and_then (joins_of s q (conjuncts s q).equalities) (λ joins. Ok (tables_with s q fact joins))

-- what is shown of the groups
abbrev pub shown_with : List plan_item.Item → Option plan.Expr → List plan_key.OrderKey → Shown
shown_with items having order = record { items = items; having = having; order = order }

abbrev pub shown_of : Scope → Query → Basis → Result Shown PlanFault
shown_of s q b =
    and_then (items_of s b q.items)
    (λ items. and_then (having_of s b q.having)
    (λ having. and_then (order_of q.items q.order_by)
    (λ order. Ok (shown_with items having order))))

-- the groups, and what is shown of them
abbrev pub groups_with : Scope → Query → Shown → Grouped
groups_with s q shown = record { keys = (keys_of s q).list; aggs = (all_aggregates s q).list; plain = not (is_grouped s q); shown = shown }

abbrev pub groups_of : Scope → Query → Result Grouped PlanFault
groups_of s q = and_then (limits_check s q) (λ _. and_then (shown_of s q (basis_of s q)) (λ shown. Ok (groups_with s q shown)))

abbrev pub plan_with : Query → Tables → Grouped → Plan
plan_with q t g = record {
  text = canonical q;
  fact = t.fact;
  joins = t.joins;
  conjuncts = t.conjuncts;
  keys = g.keys;
  aggs = g.aggs;
  having = g.shown.having;
  items = g.shown.items;
  order = g.shown.order;
  limit = q.limit;
  plain = g.plain;
  distinct = q.distinct;
}

-- the steps behind FROM, in their order
abbrev pub planned_in : List ℕ → Scope → Query → Result Plan PlanFault
planned_in fact s q =
    and_then (checked s q)
    (λ _. and_then (tables_of fact s q)
    (λ tables. and_then (groups_of s q)
    (λ groups. Ok (plan_with q tables groups))))

-- the plan, or the first fault
abbrev pub planned : Catalog → Query → Result Plan PlanFault
planned catalog q = and_then (scope_of catalog q.source) (λ s. planned_in catalog.fact.name s q)
