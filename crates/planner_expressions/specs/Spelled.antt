-- A tree written out node by node, each name as the column that it refers to: two trees are the same once their names
-- are looked up where they are written alike.
use Rattle.std.specs.Prelude.{ℕ, Bool, List, [], ◌∷◌, ◌++◌, position, Option, Some, None}
use Rattle.std.specs.Cmp.Lexicographic.{pointwise}
use Rattle.sql_syntax.specs.declared.tree.Arm.{Arm}
use Rattle.sql_syntax.specs.declared.tree.Expr.{Expr}
use Rattle.sql_syntax.specs.declared.tree.Expr.TheOpen as node
use Rattle.sql_syntax.specs.declared.tree.Expr.TheOpen.{Arm-F}
use Rattle.sql_syntax.specs.declared.tree.Expr.TheFolds.{fold-Expr, fold-Arm}
use Rattle.planner_expressions.specs.contracts.marks.MarkPartialEq.TheImpl as marks
use Rattle.planner_expressions.specs.declared.marks.Mark.{Mark}
use Rattle.planner_expressions.specs.declared.marks.Mark.TheVariants as mark
use Rattle.planner_expressions.specs.declared.marks.Operator.TheVariants as operator
use Rattle.planner_expressions.specs.declared.scope.ScopeColumn.{ScopeColumn}
use Rattle.planner_expressions.specs.declared.scope.Scope.{Scope}
use Rattle.planner_expressions.specs.Scope.{stands_for}
use Rattle.planner_expressions.specs.Trees.{Node}

abbrev pub Spelling : Type 0
Spelling = List Mark

-- a column, by the name that its table goes by and its own
abbrev pub column_mark : Option ScopeColumn → Mark
column_mark None = mark.Unknown
column_mark (Some p) = mark.Column p.owner p.name

-- each of a list behind a mark that there is one more, and a mark that there is none
abbrev pub list_marks : List Spelling → Spelling
list_marks [] = mark.End ∷ []
list_marks (e ∷ rest) = mark.More ∷ e ++ list_marks rest

abbrev pub arms_marks : List (Spelling × Spelling) → Spelling
arms_marks [] = mark.End ∷ []
arms_marks (arm ∷ rest) = mark.More ∷ arm.0 ++ (arm.1 ++ arms_marks rest)

abbrev pub else_marks : Option Spelling → Spelling
else_marks None = mark.End ∷ []
else_marks (Some e) = mark.More ∷ e

-- a node's operator, and then its parts
abbrev pub spell_node : Scope → Node Spelling → Spelling
spell_node s (node.Column table name) = column_mark (stands_for s table name) ∷ []
spell_node s (node.Integer n) = mark.Integer n ∷ []
spell_node s (node.Text t) = mark.Text t ∷ []
spell_node s node.CountRows = mark.Operator operator.CountRows ∷ []
spell_node s (node.Aggregate kind a) = mark.Operator (operator.Aggregate kind) ∷ a
spell_node s (node.Minus a) = mark.Operator operator.Minus ∷ a
spell_node s (node.Arithmetic op a b) = mark.Operator (operator.Arithmetic op) ∷ a ++ b
spell_node s (node.Compare op a b) = mark.Operator (operator.Compare op) ∷ a ++ b
spell_node s (node.Not a) = mark.Operator operator.Not ∷ a
spell_node s (node.And a b) = mark.Operator operator.And ∷ a ++ b
spell_node s (node.Or a b) = mark.Operator operator.Or ∷ a ++ b
spell_node s (node.IsNull negated a) = mark.Operator (operator.IsNull negated) ∷ a
spell_node s (node.Between negated a low high) = mark.Operator (operator.Between negated) ∷ a ++ (low ++ high)
spell_node s (node.In negated a entries) = mark.Operator (operator.In negated) ∷ a ++ list_marks entries
spell_node s (node.Like negated a pattern) = mark.Operator (operator.Like negated) ∷ a ++ mark.Text pattern ∷ []
spell_node s (node.Coalesce entries) = mark.Operator operator.Coalesce ∷ list_marks entries
spell_node s (node.Case arms otherwise) = mark.Operator operator.Case ∷ arms_marks arms ++ else_marks otherwise

abbrev pub spell_arm : Arm-F Spelling (Spelling × Spelling) → Spelling × Spelling
spell_arm arm = (arm.condition, arm.value)

-- a tree written out
abbrev pub spelled : Scope → Expr → Spelling
spelled s = fold-Expr Spelling (Spelling × Spelling) (spell_node s) spell_arm

abbrev pub spelled_arm : Scope → Arm → Spelling × Spelling
spelled_arm s = fold-Arm Spelling (Spelling × Spelling) (spell_node s) spell_arm

abbrev pub same_mark : Mark → Mark → Bool
same_mark = (marks.ghosts).eq

abbrev pub same_spelling : Spelling → Spelling → Bool
same_spelling = pointwise same_mark

-- where a list first has a tree that is the same
abbrev pub index_among : List Spelling → Spelling → Option ℕ
index_among list x = position (same_spelling x) list
