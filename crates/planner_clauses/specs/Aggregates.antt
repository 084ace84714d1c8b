-- The aggregates of a query, in the order in which they appear, equal ones once.
use Rattle.std.specs.Prelude.{ℕ, pos, Bool, true, false, List, [], ◌∷◌, ◌++◌, flat_map, Option, Some, None, Ok, Err}
use Rattle.meaning.specs.declared.value.ColType.{ColType}
use Rattle.meaning.specs.declared.value.ColType.TheVariants as of_type
use Rattle.meaning.specs.declared.value.Value.TheVariants as value
use Rattle.meaning.specs.declared.expr.Expr.TheVariants as expr
use Rattle.meaning.specs.declared.plan.Aggregate as plan
use Rattle.meaning.specs.declared.plan.AggregateKind.{AggregateKind}
use Rattle.meaning.specs.declared.plan.AggregateKind.TheVariants as kind
use Rattle.sql_syntax.specs.declared.tree.Aggregate as written
use Rattle.sql_syntax.specs.declared.tree.Aggregate.TheVariants as aggregate
use Rattle.sql_syntax.specs.declared.tree.Arm.{Arm}
use Rattle.sql_syntax.specs.declared.tree.Expr.{Expr}
use Rattle.sql_syntax.specs.declared.tree.Expr.TheOpen as node
use Rattle.sql_syntax.specs.declared.tree.Expr.TheOpen.{Expr-F}
use Rattle.sql_syntax.specs.declared.tree.Expr.TheViews.{out-Expr}
use Rattle.planner_expressions.specs.declared.scope.Scope.{Scope}
use Rattle.planner_expressions.specs.declared.sort.Sort.TheVariants as sort
use Rattle.planner_expressions.specs.Judged.{Returned, judged}
use Rattle.planner_expressions.specs.Spelled.{Spelling, spelled, index_among}
use Rattle.planner_expressions.specs.Trees.{topmost}
use Rattle.planner_clauses.specs.declared.aggregates.Aggregates.{Aggregates}
use Rattle.planner_clauses.specs.Conjuncts.{row_expr}

abbrev pub is_aggregate_node : {X A : Type 0} → Expr-F X A → Bool
is_aggregate_node node.CountRows = true
is_aggregate_node (node.Aggregate kind a) = true
is_aggregate_node _ = false

abbrev pub is_aggregate : Expr → Bool
is_aggregate e = is_aggregate_node (out-Expr e)

-- the aggregates of a tree, from left to right; none stands in another
abbrev pub aggregates_in : Expr → List Expr
aggregates_in = topmost is_aggregate

abbrev pub kind_of : written.Aggregate → AggregateKind
kind_of aggregate.Count = kind.Count
kind_of aggregate.Sum = kind.Sum
kind_of aggregate.Min = kind.Min
kind_of aggregate.Max = kind.Max
kind_of aggregate.Average = kind.Avg
kind_of aggregate.CountDistinct = kind.CountDistinct
kind_of aggregate.SumDistinct = kind.SumDistinct

-- the type of what was judged to be a value
abbrev pub type_in : Returned → ColType
type_in (Ok sort.Integer) = of_type.Int
type_in (Ok sort.Text) = of_type.Text
type_in (Ok sort.Truth) = of_type.Int
type_in (Err f) = of_type.Int

-- the type of an expression over rows
abbrev pub row_type : Scope → Expr → ColType
row_type s e = type_in (judged s e true)

-- COUNT(*) counts a value that is never NULL
abbrev pub count_rows : plan.Aggregate
count_rows = record { kind = kind.CountRows; argument = expr.Literal (value.Int (pos 1)); col_type = of_type.Int }

abbrev pub aggregate_node : Scope → Expr-F Expr Arm → plan.Aggregate
aggregate_node s (node.Aggregate k a) = record { kind = kind_of k; argument = row_expr s a; col_type = row_type s a }
aggregate_node s _ = count_rows

-- the plan's aggregate
abbrev pub aggregate_of : Scope → Expr → plan.Aggregate
aggregate_of s e = aggregate_node s (out-Expr e)

-- one more, unless it is there
abbrev pub with_new : Aggregates → Spelling → plan.Aggregate → Option ℕ → Aggregates
with_new l x a (Some i) = l
with_new l x a None = record { written = l.written ++ x ∷ []; list = l.list ++ a ∷ [] }

abbrev pub with_aggregate : Scope → Aggregates → Expr → Aggregates
with_aggregate s l e = with_new l (spelled s e) (aggregate_of s e) (index_among l.written (spelled s e))

abbrev pub with_aggregates : Scope → Aggregates → List Expr → Aggregates
with_aggregates s l [] = l
with_aggregates s l (e ∷ es) = with_aggregates s (with_aggregate s l e) es

-- those of parts, one part after the other
abbrev pub with_parts : Scope → Aggregates → List (List Expr) → Aggregates
with_parts s l [] = l
with_parts s l (es ∷ rest) = with_parts s (with_aggregates s l es) rest

abbrev pub arm_aggregates : Arm → List Expr × List Expr
arm_aggregates arm = (aggregates_in arm.condition, aggregates_in arm.value)

-- those of each WHEN and each THEN
abbrev pub arm_parts : List (List Expr × List Expr) → List (List Expr)
arm_parts = flat_map (λ arm. arm.0 ∷ arm.1 ∷ [])
