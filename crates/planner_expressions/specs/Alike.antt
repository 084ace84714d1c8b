-- Trees that are spelled alike are those that are equal once their names are looked up, and so they give the same and are of
-- one sort.
use Rattle.std.specs.Prelude.{◌≡◌, ◌↔◌, Bool, true, [], Some, None, option_map, Ok}
use Rattle.meaning.specs.declared.joined_row.JoinedRow.{JoinedRow}
use Rattle.sql_syntax.specs.declared.tree.Expr.{Expr}
use Rattle.sql_syntax.specs.declared.tree.Expr.TheOpen as node
use Rattle.sql_syntax.specs.declared.tree.Expr.TheVariants as tree
use Rattle.planner_expressions.specs.declared.basis.Basis.TheVariants.{Rows}
use Rattle.planner_expressions.specs.declared.scope.ScopeColumn.{ScopeColumn}
use Rattle.planner_expressions.specs.declared.scope.Scope.{Scope}
use Rattle.planner_expressions.specs.declared.sort.Sort.{Sort}
use Rattle.planner_expressions.specs.Given.{column_meant, given_in}
use Rattle.planner_expressions.specs.Judged.{judged}
use Rattle.planner_expressions.specs.Meant.{eval_named}
use Rattle.planner_expressions.specs.Spelled.{spelled, same_spelling}
use Rattle.planner_expressions.specs.Translated.{translated}
use Rattle.planner_expressions.specs.Trees.{Node, tree_over, replaced}

-- a column's name behind that of its table
abbrev pub full_name : ScopeColumn → Expr
full_name p = tree.Column (Some p.owner) p.name

-- a node from its parts; a name that refers to no column is left out
abbrev pub with_parts : Node Expr → Expr
with_parts (node.Column table name) = tree.Column None []
with_parts n = tree_over (λ e. e) n

-- the tree with the full name of the column that it refers to for each name
abbrev pub with_full_names : Scope → Expr → Expr
with_full_names s = replaced (λ e. option_map full_name (column_meant s e)) with_parts

-- two trees are spelled alike exactly where they are one tree once their names are looked up
abbrev pub SpelledAlike : Type 0
SpelledAlike = (s : Scope) (a b : Expr) → (spelled s a ≡ spelled s b) ↔ (with_full_names s a ≡ with_full_names s b)

-- two trees are found to be the same exactly where they are one tree once their names are looked up
abbrev pub FoundAlike : Type 0
FoundAlike = (s : Scope) (a b : Expr) → (same_spelling (spelled s a) (spelled s b) ≡ true) ↔ (with_full_names s a ≡ with_full_names s b)

-- on every row they give the same
abbrev pub SpelledMean : Type 0
SpelledMean = (s : Scope) (a b : Expr) → spelled s a ≡ spelled s b → (r : JoinedRow) → eval_named s a r ≡ eval_named s b r

-- they have one expression over rows
abbrev pub SpelledTranslate : Type 0
SpelledTranslate = (s : Scope) (a b : Expr) → spelled s a ≡ spelled s b → translated (given_in s Rows) a ≡ translated (given_in s Rows) b

-- where the one has no fault, the other has none and is of its sort
abbrev pub SpelledSorts : Type 0
SpelledSorts = (s : Scope) (a b : Expr) (barred : Bool) (sort : Sort) → spelled s a ≡ spelled s b → judged s a barred ≡ Ok sort → judged s b barred ≡ Ok sort
