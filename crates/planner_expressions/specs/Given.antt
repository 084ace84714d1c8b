-- What a tree is in a plan's expressions: on rows a column, over groups a key or an aggregate.
use Rattle.std.specs.Prelude.{ℕ, List, Option, Some, None, option_map}
use Rattle.meaning.specs.declared.expr.Expr as plan
use Rattle.meaning.specs.declared.expr.Expr.TheVariants as expr
use Rattle.sql_syntax.specs.declared.tree.Expr.{Expr}
use Rattle.sql_syntax.specs.declared.tree.Expr.TheOpen as node
use Rattle.sql_syntax.specs.declared.tree.Expr.TheOpen.{Expr-F}
use Rattle.sql_syntax.specs.declared.tree.Expr.TheViews.{out-Expr}
use Rattle.planner_expressions.specs.declared.basis.Basis.{Basis}
use Rattle.planner_expressions.specs.declared.basis.Basis.TheVariants.{Rows, Groups}
use Rattle.planner_expressions.specs.declared.scope.ScopeColumn.{ScopeColumn}
use Rattle.planner_expressions.specs.declared.scope.Scope.{Scope}
use Rattle.planner_expressions.specs.Scope.{stands_for}
use Rattle.planner_expressions.specs.Spelled.{Spelling, spelled, index_among}

-- a column of the fact, or of a join
abbrev pub column_in : Option ℕ → ℕ → plan.Expr
column_in None at = expr.Column at
column_in (Some j) at = expr.Joined j at

abbrev pub column_expr : ScopeColumn → plan.Expr
column_expr p = column_in p.join p.column

-- the column that a node refers to, where it is a name
abbrev pub node_column : {X A : Type 0} → Scope → Expr-F X A → Option ScopeColumn
node_column s (node.Column table name) = stands_for s table name
node_column s _ = None

-- the column that a tree refers to, where it is a name alone
abbrev pub column_meant : Scope → Expr → Option ScopeColumn
column_meant s e = node_column s (out-Expr e)

-- the key, else the aggregate, else nothing
abbrev pub key_first : Option ℕ → Option ℕ → Option plan.Expr
key_first (Some i) aggregate = Some (expr.Key i)
key_first None (Some i) = Some (expr.Aggregate i)
key_first None None = None

-- the first key that is the same tree, else the aggregate that is
abbrev pub group_given : List Spelling → List Spelling → Spelling → Option plan.Expr
group_given keys aggregates x = key_first (index_among keys x) (index_among aggregates x)

-- what the tree is in a plan
abbrev pub given_in : Scope → Basis → Expr → Option plan.Expr
given_in s Rows e = option_map column_expr (column_meant s e)
given_in s (Groups keys aggregates) e = group_given keys aggregates (spelled s e)
