-- The keys of a query, and what may be asked of its groups.
use Rattle.std.specs.Prelude.{ℕ, nat_lt, nat_le, Bool, true, false, not, ◌||◌, List, [], ◌∷◌, ◌++◌, map, length, if◌then◌else◌, option_to_list, Ok, Err}
use Rattle.std.specs.List.{enumerate_from}
use Rattle.std.specs.Option.{is_some}
use Rattle.meaning.specs.Limits.{max_keys, max_aggregates}
use Rattle.meaning.specs.Results.{and_then}
use Rattle.meaning.specs.declared.plan.GroupingKey.{GroupingKey}
use Rattle.sql_syntax.specs.declared.tree.Expr.{Expr}
use Rattle.sql_syntax.specs.declared.tree.Expr.TheOpen as node
use Rattle.sql_syntax.specs.declared.tree.Expr.TheOpen.{Expr-F}
use Rattle.sql_syntax.specs.declared.tree.Expr.TheViews.{out-Expr}
use Rattle.sql_syntax.specs.declared.tree.Item.{Item}
use Rattle.sql_syntax.specs.declared.tree.Query.{Query}
use Rattle.planner_expressions.specs.declared.fault.PlanFault.TheVariants as fault
use Rattle.planner_expressions.specs.declared.scope.Scope.{Scope}
use Rattle.planner_expressions.specs.Results.{each_ok}
use Rattle.planner_expressions.specs.Spelled.{spelled}
use Rattle.planner_clauses.specs.declared.aggregates.Aggregates.{Aggregates}
use Rattle.planner_clauses.specs.declared.keys.Keys.{Keys}
use Rattle.planner_clauses.specs.Aggregates.{aggregates_in, with_parts, row_type}
use Rattle.planner_clauses.specs.Checked.{Checked}
use Rattle.planner_clauses.specs.Conjuncts.{row_expr}

-- ---- aggregates

abbrev pub no_aggregates : Aggregates
no_aggregates = record { written = []; list = [] }

-- those of the items
abbrev pub item_aggregates : Scope → Query → Aggregates
item_aggregates s q = with_parts s no_aggregates (map (λ i. aggregates_in i.expr) q.items)

-- those of the items, and then those of HAVING
abbrev pub all_aggregates : Scope → Query → Aggregates
all_aggregates s q = with_parts s (item_aggregates s q) (map aggregates_in (option_to_list q.having))

-- no more than may be
abbrev pub aggregates_fit : Aggregates → Checked
aggregates_fit l = if nat_lt max_aggregates (length l.list) then Err fault.OverLimit else Ok tt

-- ---- keys

abbrev pub is_empty : {X : Type 0} → List X → Bool
is_empty [] = true
is_empty (x ∷ xs) = false

-- a query with GROUP BY, HAVING or an aggregate
abbrev pub grouped_with : Query → Aggregates → Bool
grouped_with q l = not (is_empty q.group_by) || (is_some q.having || not (is_empty l.list))

abbrev pub is_grouped : Scope → Query → Bool
is_grouped s q = grouped_with q (all_aggregates s q)

-- an integer literal alone
abbrev pub is_integer_node : {X A : Type 0} → Expr-F X A → Bool
is_integer_node (node.Integer n) = true
is_integer_node _ = false

abbrev pub is_integer : Expr → Bool
is_integer e = is_integer_node (out-Expr e)

-- an entry of GROUP BY, with its position: no integer literal alone, and not past the limit
abbrev pub entry_check : ℕ × Expr → Checked
entry_check e = if is_integer e.1 then Err fault.PositionNotAllowed else if nat_le max_keys e.0 then Err fault.OverLimit else Ok tt

abbrev pub entries_check : List Expr → Checked
entries_check es = each_ok (map entry_check (enumerate_from 0 es))

-- the items of a plain query are its keys
abbrev pub items_fit : List Item → Checked
items_fit items = if nat_lt max_keys (length items) then Err fault.OverLimit else Ok tt

abbrev pub keys_check : Bool → Query → Checked
keys_check grouped q = if grouped then entries_check q.group_by else items_fit q.items

-- in the order of the text: the aggregates of the items, the keys, and the aggregates of HAVING
abbrev pub limits_check : Scope → Query → Checked
limits_check s q = and_then (aggregates_fit (item_aggregates s q)) (λ _. and_then (keys_check (is_grouped s q) q) (λ _. aggregates_fit (all_aggregates s q)))

abbrev pub key_of : Scope → Expr → GroupingKey
key_of s e = record { expr = row_expr s e; col_type = row_type s e }

abbrev pub with_key : Scope → Keys → Expr → Keys
with_key s k e = record { written = k.written ++ spelled s e ∷ []; list = k.list ++ key_of s e ∷ [] }

abbrev pub with_keys : Scope → Keys → List Expr → Keys
with_keys s k [] = k
with_keys s k (e ∷ es) = with_keys s (with_key s k e) es

abbrev pub no_keys : Keys
no_keys = record { written = []; list = [] }

-- the grouping expressions; those of a plain query are its items
abbrev pub key_trees : Bool → Query → List Expr
key_trees grouped q = if grouped then q.group_by else map (λ i. i.expr) q.items

abbrev pub keys_by : Bool → Scope → Query → Keys
keys_by grouped s q = with_keys s no_keys (key_trees grouped q)

abbrev pub keys_of : Scope → Query → Keys
keys_of s q = keys_by (is_grouped s q) s q
