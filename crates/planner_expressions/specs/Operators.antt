-- Which operator a tree begins with where it is written out.
use Rattle.std.specs.Prelude.{Bool, true, false, ◌||◌, List, [], ◌∷◌, Option, Some, None}
use Rattle.std.specs.List.{list_any}
use Rattle.sql_syntax.specs.declared.tree.Expr.{Expr}
use Rattle.sql_syntax.specs.declared.tree.Expr.TheOpen as node
use Rattle.sql_syntax.specs.declared.tree.Expr.TheOpen.{Expr-F}
use Rattle.sql_syntax.specs.declared.tree.Expr.TheViews.{out-Expr}
use Rattle.planner_expressions.specs.contracts.marks.OperatorPartialEq.TheImpl as operators
use Rattle.planner_expressions.specs.declared.marks.Mark.{Mark}
use Rattle.planner_expressions.specs.declared.marks.Mark.TheVariants as mark
use Rattle.planner_expressions.specs.declared.marks.Operator.{Operator}
use Rattle.planner_expressions.specs.declared.marks.Operator.TheVariants as operator
use Rattle.planner_expressions.specs.Spelled.{Spelling}

-- a name and a literal have none
abbrev pub node_operator : {X A : Type 0} → Expr-F X A → Option Operator
node_operator (node.Column table name) = None
node_operator (node.Integer n) = None
node_operator (node.Text t) = None
node_operator node.CountRows = Some operator.CountRows
node_operator (node.Aggregate kind a) = Some (operator.Aggregate kind)
node_operator (node.Minus a) = Some operator.Minus
node_operator (node.Arithmetic op a b) = Some (operator.Arithmetic op)
node_operator (node.Compare op a b) = Some (operator.Compare op)
node_operator (node.Not a) = Some operator.Not
node_operator (node.And a b) = Some operator.And
node_operator (node.Or a b) = Some operator.Or
node_operator (node.IsNull negated a) = Some (operator.IsNull negated)
node_operator (node.Between negated a low high) = Some (operator.Between negated)
node_operator (node.In negated a entries) = Some (operator.In negated)
node_operator (node.Like negated a pattern) = Some (operator.Like negated)
node_operator (node.Coalesce entries) = Some operator.Coalesce
node_operator (node.Case arms otherwise) = Some operator.Case

abbrev pub operator_of : Expr → Option Operator
operator_of e = node_operator (out-Expr e)

abbrev pub same_operator : Operator → Operator → Bool
same_operator = (operators.ghosts).eq

abbrev pub is_mark_of : Operator → Mark → Bool
is_mark_of op (mark.Operator other) = same_operator op other
is_mark_of op _ = false

-- a tree that is written out begins with the operator
abbrev pub begins : Operator → Spelling → Bool
begins op [] = false
begins op (first ∷ rest) = is_mark_of op first

-- one of the trees begins with the operator, if there is one
abbrev pub may_be_among : List Spelling → List Spelling → Option Operator → Bool
may_be_among keys aggregates None = true
may_be_among keys aggregates (Some op) = list_any (begins op) keys || list_any (begins op) aggregates
