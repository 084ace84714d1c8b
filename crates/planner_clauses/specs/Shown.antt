-- What a query shows of its groups, and in which order.
use Rattle.std.specs.Prelude.{ℕ, ◌+◌, ◌-◌, ◌==◌, nat_lt, Bool, true, false, ◌||◌, List, ◌++◌, map, filter, length, position, if◌then◌else◌, Option, Some, None, unwrap_or, Result, Ok, Err, codes, decimal, bytes_eq}
use Rattle.std.specs.List.{enumerate_from}
use Rattle.std.specs.Option.{option_map_or}
use Rattle.meaning.specs.Results.{all_ok, and_then}
use Rattle.meaning.specs.declared.expr.Expr as plan
use Rattle.meaning.specs.declared.plan.Item as plan_item
use Rattle.meaning.specs.declared.plan.OrderKey as plan_key
use Rattle.sql_syntax.specs.declared.tree.Direction.{Direction}
use Rattle.sql_syntax.specs.declared.tree.Direction.TheVariants as direction
use Rattle.sql_syntax.specs.declared.tree.Expr.{Expr}
use Rattle.sql_syntax.specs.declared.tree.Expr.TheOpen as node
use Rattle.sql_syntax.specs.declared.tree.Expr.TheOpen.{Expr-F}
use Rattle.sql_syntax.specs.declared.tree.Expr.TheViews.{out-Expr}
use Rattle.sql_syntax.specs.declared.tree.Item.{Item}
use Rattle.sql_syntax.specs.declared.tree.OrderKey.{OrderKey}
use Rattle.sql_syntax.specs.declared.tree.OrderTarget.{OrderTarget}
use Rattle.sql_syntax.specs.declared.tree.OrderTarget.TheVariants as target
use Rattle.planner_expressions.specs.declared.basis.Basis.{Basis}
use Rattle.planner_expressions.specs.declared.fault.PlanFault.{PlanFault}
use Rattle.planner_expressions.specs.declared.fault.PlanFault.TheVariants as fault
use Rattle.planner_expressions.specs.declared.scope.Scope.{Scope}
use Rattle.planner_expressions.specs.Given.{given_in}
use Rattle.planner_expressions.specs.Translated.{translated}

-- ---- names of items

abbrev pub node_name : {X A : Type 0} → Expr-F X A → Option (List ℕ)
node_name (node.Column table name) = Some name
node_name _ = None

-- the name of a column that stands alone, without its table's
abbrev pub column_name : Expr → Option (List ℕ)
column_name e = node_name (out-Expr e)

abbrev pub name_behind : Option (List ℕ) → Option (List ℕ) → Option (List ℕ)
name_behind (Some alias) column = Some alias
name_behind None column = column

-- the name by which ORDER BY may name an item: its AS name, else the name of the column that it is
abbrev pub item_name : Item → Option (List ℕ)
item_name i = name_behind i.alias (column_name i.expr)

-- the header of an item: its name, else `c` and its position from 1
abbrev pub header : ℕ × Item → List ℕ
header i = unwrap_or (item_name i.1) (codes "c" ++ decimal (i.0 + 1))

-- ---- expressions over groups

-- built of keys, aggregates, literals and operators
abbrev pub if_built : Option plan.Expr → Result plan.Expr PlanFault
if_built None = Err fault.NotGrouped
if_built (Some x) = Ok x

abbrev pub over_group : Scope → Basis → Expr → Result plan.Expr PlanFault
over_group s b e = if_built (translated (given_in s b) e)

abbrev pub with_header : List ℕ → plan.Expr → plan_item.Item
with_header name x = record { header = name; expr = x }

abbrev pub item_of : Scope → Basis → ℕ × Item → Result plan_item.Item PlanFault
item_of s b i = and_then (over_group s b i.1.expr) (λ x. Ok (with_header (header i) x))

abbrev pub items_of : Scope → Basis → List Item → Result (List plan_item.Item) PlanFault
items_of s b items = all_ok (map (item_of s b) (enumerate_from 0 items))

abbrev pub having_of : Scope → Basis → Option Expr → Result (Option plan.Expr) PlanFault
having_of s b None = Ok None
having_of s b (Some e) = and_then (over_group s b e) (λ x. Ok (Some x))

-- ---- order

abbrev pub has_name : List ℕ → Item → Bool
has_name name i = option_map_or (bytes_eq name) (item_name i) false

-- the first of the items with a name, and how many there are
abbrev pub one_named : Option ℕ → ℕ → Result ℕ PlanFault
one_named None n = Err fault.PositionNotAllowed
one_named (Some i) n = if n == 1 then Ok i else Err fault.Ambiguous

-- the item that ORDER BY names, counted from 0: by a position from 1, or by a name that just one item has
abbrev pub item_meant : List Item → OrderTarget → Result ℕ PlanFault
item_meant items (target.Position n) = if (n == 0) || nat_lt (length items) n then Err fault.PositionNotAllowed else Ok (n - 1)
item_meant items (target.Name name) = one_named (position (has_name name) items) (length (filter (has_name name) items))

abbrev pub is_descending : Direction → Bool
is_descending direction.Ascending = false
is_descending direction.Descending = true

abbrev pub order_key : List Item → OrderKey → Result plan_key.OrderKey PlanFault
order_key items k = and_then (item_meant items k.target) (λ i. Ok (record { item = i; descending = is_descending k.direction }))

abbrev pub order_of : List Item → List OrderKey → Result (List plan_key.OrderKey) PlanFault
order_of items keys = all_ok (map (order_key items) keys)
