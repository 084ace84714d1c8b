-- What an expression reads of a joined row or of a group.
use Rattle.std.specs.Prelude.{ℕ, List, [], ◌∷◌, ◌++◌, map, flat_map}
use Rattle.meaning.specs.declared.value.Value.{Value}
use Rattle.meaning.specs.declared.expr.Expr.{Expr}
use Rattle.meaning.specs.declared.expr.Expr.TheOpen as node
use Rattle.meaning.specs.declared.expr.Expr.TheOpen.{Expr-F, Arm-F}
use Rattle.meaning.specs.declared.expr.Expr.TheFolds.{fold-Expr, fold-Arm}
use Rattle.meaning.specs.declared.expr.Arm.{Arm}
use Rattle.meaning.specs.declared.plan.Plan.{Plan}
use Rattle.meaning.specs.declared.joined_row.JoinedRow.{JoinedRow}
use Rattle.meaning.specs.Order.{column}
use Rattle.meaning.specs.Joined.{joined_column}

-- a column of the fact, a column of a join's row, a key of the group, or an aggregate of the group
pub data Reference : Type 0 where
  FactColumn : ℕ → Reference
  JoinColumn : ℕ → ℕ → Reference
  GroupKey : ℕ → Reference
  GroupAggregate : ℕ → Reference

-- the value that stands there
abbrev pub referenced : JoinedRow → Reference → Value
referenced r (FactColumn at) = column r.fact at
referenced r (JoinColumn join at) = joined_column r join at
referenced r (GroupKey i) = column r.key i
referenced r (GroupAggregate i) = column r.aggregates i

-- those of several parts
abbrev pub all_references : List (List Reference) → List Reference
all_references parts = flat_map (λ part. part) parts

-- those of WHEN and of THEN
abbrev pub arm_references : Arm-F (List Reference) (List Reference) → List Reference
arm_references arm = arm.when ++ arm.then

-- those of one node, from those of its parts
abbrev pub node_references : Expr-F (List Reference) (List Reference) → List Reference
node_references (node.Column at) = FactColumn at ∷ []
node_references (node.Joined join at) = JoinColumn join at ∷ []
node_references (node.Key i) = GroupKey i ∷ []
node_references (node.Aggregate i) = GroupAggregate i ∷ []
node_references (node.Literal v) = []
node_references (node.Minus a) = a
node_references (node.Arithmetic op a b) = a ++ b
node_references (node.Compare op a b) = a ++ b
node_references (node.Not a) = a
node_references (node.And a b) = a ++ b
node_references (node.Or a b) = a ++ b
node_references (node.IsNull negated x) = x
node_references (node.Between negated x low high) = x ++ (low ++ high)
node_references (node.In negated x list) = x ++ all_references list
node_references (node.Like negated x pattern) = x
node_references (node.Coalesce list) = all_references list
node_references (node.Case arms otherwise) = all_references arms ++ otherwise

-- the columns, keys and aggregates that the expression names, from left to right
abbrev pub columns_used : Expr → List Reference
columns_used = fold-Expr (List Reference) (List Reference) node_references arm_references

abbrev pub columns_used_in_arm : Arm → List Reference
columns_used_in_arm = fold-Arm (List Reference) (List Reference) node_references arm_references

abbrev pub columns_used_in_all : List Expr → List Reference
columns_used_in_all es = all_references (map columns_used es)

-- what the conditions, the keys and the aggregates' arguments of a plan name
abbrev pub columns_of_plan : Plan → List Reference
columns_of_plan plan =
    columns_used_in_all plan.conjuncts
    ++ (columns_used_in_all (map (λ k. k.expr) plan.keys) ++ columns_used_in_all (map (λ a. a.argument) plan.aggs))
