-- Whether an expression names a column of the fact.
use Rattle.std.specs.Prelude.{ℕ, ◌==◌, Bool, false, ◌||◌, List}
use Rattle.std.specs.List.{list_any}
use Rattle.meaning.specs.declared.expr.Arm.{Arm}
use Rattle.meaning.specs.declared.expr.Expr.{Expr}
use Rattle.meaning.specs.declared.expr.Expr.TheOpen as node
use Rattle.meaning.specs.declared.expr.Expr.TheOpen.{Expr-F, Arm-F}
use Rattle.meaning.specs.declared.expr.Expr.TheFolds.{fold-Expr, fold-Arm}
use Rattle.meaning.specs.References.{Reference, FactColumn, JoinColumn, GroupKey, GroupAggregate}

abbrev pub is_fact_column : ℕ → Reference → Bool
is_fact_column c (FactColumn at) = at == c
is_fact_column c (JoinColumn join at) = false
is_fact_column c (GroupKey i) = false
is_fact_column c (GroupAggregate i) = false

-- ---- node by node

abbrev pub any_of : List Bool → Bool
any_of parts = list_any (λ x. x) parts

module _ (c : ℕ) where
  abbrev pub arm_names : Arm-F Bool Bool → Bool
  arm_names arm = arm.when || arm.then

  abbrev pub node_names : Expr-F Bool Bool → Bool
  node_names (node.Column at) = at == c
  node_names (node.Joined join at) = false
  node_names (node.Key i) = false
  node_names (node.Aggregate i) = false
  node_names (node.Literal v) = false
  node_names (node.Minus a) = a
  node_names (node.Arithmetic op a b) = a || b
  node_names (node.Compare op a b) = a || b
  node_names (node.Not a) = a
  node_names (node.And a b) = a || b
  node_names (node.Or a b) = a || b
  node_names (node.IsNull negated x) = x
  node_names (node.Between negated x low high) = x || (low || high)
  node_names (node.In negated x list) = x || any_of list
  node_names (node.Like negated x pattern) = x
  node_names (node.Coalesce list) = any_of list
  node_names (node.Case arms otherwise) = any_of arms || otherwise

  abbrev pub is_named : Expr → Bool
  is_named = fold-Expr Bool Bool node_names arm_names

  abbrev pub is_named_in_arm : Arm → Bool
  is_named_in_arm = fold-Arm Bool Bool node_names arm_names
