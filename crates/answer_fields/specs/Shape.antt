-- The shape of a query's groups, by which its answers are laid out.
use Rattle.std.specs.Prelude.{ℕ, ◌==◌, Bool, ◌&&◌, List, map, Option, Some, None}
use Rattle.std.specs.Cmp.Lexicographic.{pointwise}
use Rattle.meaning.specs.declared.value.ColType.{ColType}
use Rattle.meaning.specs.declared.plan.AggregateKind.{AggregateKind}
use Rattle.meaning.specs.declared.plan.AggregateKind.TheVariants.{CountRows, Count, Sum, Min, Max, Avg, CountDistinct, SumDistinct}
use Rattle.meaning.specs.declared.plan.Aggregate.{Aggregate}
use Rattle.meaning.specs.declared.plan.Plan.{Plan}
use Rattle.meaning.specs.TypeCodes.{type_code}
use Rattle.answer_fields.specs.declared.shape.AggregateShape.{AggregateShape}

-- the type of each key; the kind and the argument's type of each aggregate
pub record Shape : Type 0 where
  pub keys : List ColType
  pub aggregates : List AggregateShape

-- COUNT(*) has no argument
abbrev pub argument_of : AggregateKind → ColType → Option ColType
argument_of CountRows t = None
argument_of _ t = Some t

abbrev pub shape_of_aggregate : Aggregate → AggregateShape
shape_of_aggregate a = record { kind = a.kind; argument = argument_of a.kind a.col_type }

-- the shape of a plan's answers
abbrev pub shape_of : Plan → Shape
shape_of plan = record { keys = map (λ k. k.col_type) plan.keys; aggregates = map shape_of_aggregate plan.aggs }

-- ---- codes

-- 0 encodes no argument
abbrev pub argument_code : Option ColType → ℕ
argument_code None = 0
argument_code (Some t) = type_code t

abbrev pub kind_code : AggregateKind → ℕ
kind_code CountRows = 1
kind_code Count = 2
kind_code Sum = 3
kind_code Min = 4
kind_code Max = 5
kind_code Avg = 6
kind_code CountDistinct = 7
kind_code SumDistinct = 8

-- ---- equal shapes

abbrev pub is_same_type : ColType → ColType → Bool
is_same_type a b = type_code a == type_code b

abbrev pub is_same_aggregate : AggregateShape → AggregateShape → Bool
is_same_aggregate a b = (kind_code a.kind == kind_code b.kind) && (argument_code a.argument == argument_code b.argument)

abbrev pub is_same_shape : Shape → Shape → Bool
is_same_shape a b = pointwise is_same_type a.keys b.keys && pointwise is_same_aggregate a.aggregates b.aggregates
