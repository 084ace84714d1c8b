-- Of which types values, keys, arguments and expressions are; an expression's type follows from its nodes alone.
use Rattle.std.specs.Prelude.{nat_le, Bool, true, false, ◌&&◌, ◌||◌, not, List, [], ◌∷◌, length, map, Option, Some, None, slice_get, slice_index_or}
use Rattle.std.specs.List.{list_all}
use Rattle.std.specs.Cmp.Lexicographic.{pointwise}
use Rattle.std.specs.Str.{is_utf8}
use Rattle.meaning.specs.Limits.{max_text_bytes}
use Rattle.meaning.specs.declared.value.Value.{Value}
use Rattle.meaning.specs.declared.value.Value.TheVariants.{Null, Int, Text}
use Rattle.meaning.specs.declared.value.ColType.{ColType}
use Rattle.meaning.specs.declared.value.ColType.TheVariants as of_type
use Rattle.meaning.specs.declared.outcome.Outcome.{Outcome}
use Rattle.meaning.specs.declared.outcome.Outcome.TheVariants as gives
use Rattle.meaning.specs.declared.expr.Expr.{Expr}
use Rattle.meaning.specs.declared.expr.Expr.TheOpen as node
use Rattle.meaning.specs.declared.expr.Expr.TheOpen.{Expr-F, Arm-F}
use Rattle.meaning.specs.declared.expr.Expr.TheFolds.{fold-Expr, fold-Arm}
use Rattle.meaning.specs.declared.expr.Arm.{Arm}
use Rattle.meaning.specs.declared.plan.AggregateKind.{AggregateKind}
use Rattle.meaning.specs.declared.plan.AggregateKind.TheVariants.{CountRows, Count, Sum, Min, Max, Avg, CountDistinct, SumDistinct}
use Rattle.meaning.specs.declared.plan.Aggregate.{Aggregate}
use Rattle.meaning.specs.declared.plan.Plan.{Plan}
use Rattle.meaning.specs.declared.joined_row.JoinedRow.{JoinedRow}
use Rattle.meaning.specs.Order.{Row, is_null}
use Rattle.meaning.specs.Operators.{fits_i64}
use Rattle.meaning.specs.Cut.{Numbered}
use Rattle.meaning.specs.Joined.{combos}
use Rattle.meaning.specs.Expr.{eval}

-- ---- values

-- NULL is of each type; an integer has 64 bits, a text is UTF-8 of at most 65,535 bytes
abbrev pub is_of_type : ColType → Value → Bool
is_of_type kind Null = true
is_of_type of_type.Int (Int n) = fits_i64 n
is_of_type of_type.Int (Text t) = false
is_of_type of_type.Text (Int n) = false
is_of_type of_type.Text (Text t) = is_utf8 t && nat_le (length t) max_text_bytes

-- ---- keys and arguments

-- a value of the type, or a fault
abbrev pub gives_type : ColType → Outcome → Bool
gives_type kind (gives.Value v) = is_of_type kind v
gives_type kind (gives.Truth t) = false
gives_type kind (gives.Fault f) = true

-- a value that an aggregate takes: that of COUNT(*) is never NULL
abbrev pub is_taken_by : AggregateKind → Value → Bool
is_taken_by CountRows v = not (is_null v)
is_taken_by _ v = true

-- an argument of its type
abbrev pub is_argument_of : Aggregate → Value → Bool
is_argument_of a v = is_of_type a.col_type v && is_taken_by a.kind v

-- the argument is of its type, or faults
abbrev pub gives_argument : Aggregate → Outcome → Bool
gives_argument a (gives.Value v) = is_argument_of a v
gives_argument a (gives.Truth t) = false
gives_argument a (gives.Fault f) = true

-- on a joined row, each key and each argument is of its type, or faults
abbrev pub is_typed_at : Plan → JoinedRow → Bool
is_typed_at plan s =
    list_all (λ k. gives_type k.col_type (eval k.expr s)) plan.keys
    && list_all (λ a. gives_argument a (eval a.argument s)) plan.aggs

-- the same on each joined row of some fact rows
abbrev pub is_typed_on : Plan → List (List Row) → Numbered → Bool
is_typed_on plan dims rows = list_all (λ r. list_all (is_typed_at plan) (combos plan dims r.1)) rows

-- ---- expressions

-- a value of a type, or a truth
pub data ExprType : Type 0 where
  Valued : ColType → ExprType
  Boolean : ExprType

-- the types of what expressions read: the columns of the fact and of each join, the keys, and the aggregates
pub record RowTypes : Type 0 where
  pub fact : List ColType
  pub joins : List (List ColType)
  pub key : List ColType
  pub aggregates : List ColType

-- COUNT, SUM and AVG give integers, of different entries too, MIN and MAX values of their argument's type
abbrev pub result_type : AggregateKind → ColType → ColType
result_type CountRows kind = of_type.Int
result_type Count kind = of_type.Int
result_type Sum kind = of_type.Int
result_type Avg kind = of_type.Int
result_type CountDistinct kind = of_type.Int
result_type SumDistinct kind = of_type.Int
result_type Min kind = kind
result_type Max kind = kind

-- the types of what an expression over a group reads
abbrev pub group_types : Plan → RowTypes
group_types plan = record {
  fact = [];
  joins = [];
  key = map (λ k. k.col_type) plan.keys;
  aggregates = map (λ a. result_type a.kind a.col_type) plan.aggs;
}

-- ---- what fits

-- a value of each column's type
abbrev pub are_of_types : List ColType → Row → Bool
are_of_types types row = pointwise is_of_type types row

-- the same of what a join puts beside a fact row, which may be no row
abbrev pub are_beside_of_types : List ColType → Row → Bool
are_beside_of_types types [] = true
are_beside_of_types types (v ∷ row) = are_of_types types (v ∷ row)

abbrev pub fits_row_types : RowTypes → JoinedRow → Bool
fits_row_types types r =
    are_of_types types.fact r.fact &&
    (pointwise are_beside_of_types types.joins r.joins &&
    (are_of_types types.key r.key && are_of_types types.aggregates r.aggregates))

-- a value or a truth of the type, or a fault
abbrev pub gives_expr_type : ExprType → Outcome → Bool
gives_expr_type (Valued kind) (gives.Value v) = is_of_type kind v
gives_expr_type (Valued kind) (gives.Truth t) = false
gives_expr_type Boolean (gives.Value v) = false
gives_expr_type Boolean (gives.Truth t) = true
gives_expr_type type (gives.Fault f) = true

-- ---- tests of types

abbrev pub same_type : ColType → ColType → Bool
same_type of_type.Int of_type.Int = true
same_type of_type.Int of_type.Text = false
same_type of_type.Text of_type.Int = false
same_type of_type.Text of_type.Text = true

-- which types a part can have: NULL alone has both types of values
abbrev pub Typing : Type 0
Typing = ExprType → Bool

abbrev pub is_integer : ExprType → Bool
is_integer (Valued kind) = same_type of_type.Int kind
is_integer Boolean = false

abbrev pub is_boolean : ExprType → Bool
is_boolean (Valued kind) = false
is_boolean Boolean = true

abbrev pub is_valued : ExprType → Bool
is_valued (Valued kind) = true
is_valued Boolean = false

-- the type of the column, if there is the column
abbrev pub is_column_type : Option ColType → ExprType → Bool
is_column_type None type = false
is_column_type (Some kind) (Valued wanted) = same_type kind wanted
is_column_type (Some kind) Boolean = false

abbrev pub is_literal_type : Value → ExprType → Bool
is_literal_type v (Valued kind) = is_of_type kind v
is_literal_type v Boolean = false

-- values of one type
abbrev pub are_alike : List Typing → Bool
are_alike parts =
    list_all (λ part. part (Valued of_type.Int)) parts || list_all (λ part. part (Valued of_type.Text)) parts

-- ---- expressions

-- that WHEN and THEN have these types
abbrev pub arm_typing : Arm-F Typing (Typing × Typing) → Typing × Typing
arm_typing arm = (arm.when, arm.then)

module _ (types : RowTypes) where
  -- which types a node has, from those of its parts
  abbrev pub node_typing : Expr-F Typing (Typing × Typing) → Typing
  node_typing (node.Column at) type = is_column_type (slice_get types.fact at) type
  node_typing (node.Joined join at) type = is_column_type (slice_get (slice_index_or types.joins join []) at) type
  node_typing (node.Key i) type = is_column_type (slice_get types.key i) type
  node_typing (node.Aggregate i) type = is_column_type (slice_get types.aggregates i) type
  node_typing (node.Literal v) type = is_literal_type v type
  node_typing (node.Minus a) type = is_integer type && a (Valued of_type.Int)
  node_typing (node.Arithmetic op a b) type = is_integer type && (a (Valued of_type.Int) && b (Valued of_type.Int))
  node_typing (node.Compare op a b) type = is_boolean type && are_alike (a ∷ b ∷ [])
  node_typing (node.Not a) type = is_boolean type && a Boolean
  node_typing (node.And a b) type = is_boolean type && (a Boolean && b Boolean)
  node_typing (node.Or a b) type = is_boolean type && (a Boolean && b Boolean)
  node_typing (node.IsNull negated x) type = is_boolean type && are_alike (x ∷ [])
  node_typing (node.Between negated x low high) type = is_boolean type && are_alike (x ∷ low ∷ high ∷ [])
  node_typing (node.In negated x list) type = is_boolean type && are_alike (x ∷ list)
  node_typing (node.Like negated x pattern) type = is_boolean type && x (Valued of_type.Text)
  node_typing (node.Coalesce list) type = is_valued type && list_all (λ part. part type) list
  node_typing (node.Case arms otherwise) type =
      is_valued type && (list_all (λ arm. arm.0 Boolean && arm.1 type) arms && otherwise type)

  -- the expression has the type
  abbrev pub has_type : Expr → ExprType → Bool
  has_type = fold-Expr Typing (Typing × Typing) node_typing arm_typing

  abbrev pub arm_types : Arm → Typing × Typing
  arm_types = fold-Arm Typing (Typing × Typing) node_typing arm_typing
