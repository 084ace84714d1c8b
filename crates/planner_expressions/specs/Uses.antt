-- Which columns a query names.
use Rattle.std.specs.Prelude.{Bool, false, ◌||◌}
use Rattle.std.specs.List.{list_any}
use Rattle.std.specs.Option.{option_map_or}
use Rattle.sql_syntax.specs.declared.tree.Arm.{Arm}
use Rattle.sql_syntax.specs.declared.tree.Expr.{Expr}
use Rattle.sql_syntax.specs.declared.tree.Expr.TheOpen as node
use Rattle.sql_syntax.specs.declared.tree.Expr.TheOpen.{Expr-F, Arm-F}
use Rattle.sql_syntax.specs.declared.tree.Expr.TheFolds.{fold-Expr, fold-Arm}
use Rattle.planner_expressions.specs.declared.scope.ScopeColumn.{ScopeColumn}
use Rattle.planner_expressions.specs.Scope.{is_meant}

-- a node has a name that may refer to the column
abbrev pub names_node : ScopeColumn → Expr-F Bool Bool → Bool
names_node p (node.Column table name) = is_meant table name p
names_node p (node.Integer n) = false
names_node p (node.Text t) = false
names_node p node.CountRows = false
names_node p (node.Aggregate kind a) = a
names_node p (node.Minus a) = a
names_node p (node.Arithmetic op a b) = a || b
names_node p (node.Compare op a b) = a || b
names_node p (node.Not a) = a
names_node p (node.And a b) = a || b
names_node p (node.Or a b) = a || b
names_node p (node.IsNull negated a) = a
names_node p (node.Between negated a low high) = a || (low || high)
names_node p (node.In negated a entries) = a || list_any (λ x. x) entries
names_node p (node.Like negated a pattern) = a
names_node p (node.Coalesce entries) = list_any (λ x. x) entries
names_node p (node.Case arms otherwise) = list_any (λ x. x) arms || option_map_or (λ x. x) otherwise false

abbrev pub names_either : Arm-F Bool Bool → Bool
names_either arm = arm.condition || arm.value

abbrev pub names : ScopeColumn → Expr → Bool
names p = fold-Expr Bool Bool (names_node p) names_either

abbrev pub names_arm : ScopeColumn → Arm → Bool
names_arm p = fold-Arm Bool Bool (names_node p) names_either
