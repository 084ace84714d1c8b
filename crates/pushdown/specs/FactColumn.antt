-- Conditions that stand on one column of the fact.
use Rattle.std.specs.Prelude.{◌≢◌, ℕ, List, [], ◌∷◌, Option, Some, None}
use Rattle.meaning.specs.declared.expr.Arm.{Arm}
use Rattle.meaning.specs.declared.expr.Expr.{Expr}
use Rattle.meaning.specs.declared.expr.Expr.TheOpen as node
use Rattle.meaning.specs.declared.expr.Expr.TheOpen.{Expr-F, Arm-F}
use Rattle.meaning.specs.declared.expr.Expr.TheFolds.{fold-Expr, fold-Arm}
use Rattle.meaning.specs.References.{columns_used}
use Rattle.pushdown.specs.declared.condition.Source.TheVariants as source
use Rattle.pushdown.specs.Pushdown.{IsPushable}

-- the condition names the column and nothing else, and has no arithmetic
pub record StandsOn (column : ℕ) (condition : Expr) : Type 0 where
  pub pushable : IsPushable (source.FactColumn column) condition
  pub named : columns_used condition ≢ []

-- ---- the first column of the fact that is named, node by node

abbrev pub first_of : Option ℕ → Option ℕ → Option ℕ
first_of (Some c) b = Some c
first_of None b = b

abbrev pub first_some : List (Option ℕ) → Option ℕ
first_some [] = None
first_some (part ∷ parts) = first_of part (first_some parts)

abbrev pub arm_column : Arm-F (Option ℕ) (Option ℕ) → Option ℕ
arm_column arm = first_of arm.when arm.then

abbrev pub node_column : Expr-F (Option ℕ) (Option ℕ) → Option ℕ
node_column (node.Column at) = Some at
node_column (node.Joined join at) = None
node_column (node.Key i) = None
node_column (node.Aggregate i) = None
node_column (node.Literal v) = None
node_column (node.Minus a) = a
node_column (node.Arithmetic op a b) = first_of a b
node_column (node.Compare op a b) = first_of a b
node_column (node.Not a) = a
node_column (node.And a b) = first_of a b
node_column (node.Or a b) = first_of a b
node_column (node.IsNull negated x) = x
node_column (node.Between negated x low high) = first_of x (first_of low high)
node_column (node.In negated x list) = first_of x (first_some list)
node_column (node.Like negated x pattern) = x
node_column (node.Coalesce list) = first_some list
node_column (node.Case arms otherwise) = first_of (first_some arms) otherwise

abbrev pub named_column : Expr → Option ℕ
named_column = fold-Expr (Option ℕ) (Option ℕ) node_column arm_column

abbrev pub named_in_arm : Arm → Option ℕ
named_in_arm = fold-Arm (Option ℕ) (Option ℕ) node_column arm_column
