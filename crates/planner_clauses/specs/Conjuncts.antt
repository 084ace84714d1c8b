-- The conditions of ON and WHERE: which of their conjuncts are join equalities.
use Rattle.std.specs.Prelude.{ℕ, ◌==◌, Bool, true, false, not, ◌&&◌, List, [], ◌∷◌, ◌++◌, filter, find, flat_map, if◌then◌else◌, Option, Some, None, option_and_then, option_to_list, unwrap_or, slice_get, Result, Ok, Err, bytes_eq}
use Rattle.std.specs.Option.{is_none}
use Rattle.meaning.specs.declared.value.Value.TheVariants as value
use Rattle.meaning.specs.declared.expr.Expr as plan
use Rattle.meaning.specs.declared.expr.Expr.TheVariants as expr
use Rattle.meaning.specs.declared.plan.JoinType.{JoinType}
use Rattle.meaning.specs.declared.plan.JoinType.TheVariants.{Inner, Left}
use Rattle.sql_syntax.specs.Joins.{condition_of}
use Rattle.meaning.specs.declared.expr.ComparisonOperator.TheVariants as comparison
use Rattle.sql_syntax.specs.declared.tree.Expr.{Expr}
use Rattle.sql_syntax.specs.declared.tree.Expr.TheOpen as node
use Rattle.sql_syntax.specs.declared.tree.Expr.TheOpen.{Expr-F}
use Rattle.sql_syntax.specs.declared.tree.Expr.TheViews.{out-Expr}
use Rattle.sql_syntax.specs.declared.tree.Arm.{Arm}
use Rattle.sql_syntax.specs.declared.tree.JoinKind.{JoinKind}
use Rattle.sql_syntax.specs.declared.tree.JoinKind.TheVariants as join_kind
use Rattle.sql_syntax.specs.declared.tree.Joined.{Joined}
use Rattle.sql_syntax.specs.declared.tree.Query.{Query}
use Rattle.planner_expressions.specs.declared.fault.PlanFault.{PlanFault}
use Rattle.planner_expressions.specs.declared.fault.PlanFault.TheVariants as fault
use Rattle.planner_expressions.specs.declared.basis.Basis.TheVariants.{Rows}
use Rattle.planner_expressions.specs.declared.scope.Dim.{Dim}
use Rattle.planner_expressions.specs.declared.scope.ScopeColumn.{ScopeColumn}
use Rattle.planner_expressions.specs.declared.scope.Scope.{Scope}
use Rattle.planner_clauses.specs.declared.conjuncts.Equality.{Equality}
use Rattle.planner_clauses.specs.declared.conjuncts.Conjuncts.{Conjuncts}
use Rattle.planner_expressions.specs.From.{called, is_left, join_type_of}
use Rattle.planner_expressions.specs.Given.{column_meant, given_in}
use Rattle.planner_expressions.specs.Translated.{translated}
use Rattle.planner_expressions.specs.Trees.{topmost}

abbrev pub is_and_node : {X A : Type 0} → Expr-F X A → Bool
is_and_node (node.And a b) = true
is_and_node _ = false

abbrev pub is_no_and : Expr → Bool
is_no_and e = not (is_and_node (out-Expr e))

-- the operands of the topmost ANDs, from left to right
abbrev pub conjuncts_of : Expr → List Expr
conjuncts_of = topmost is_no_and

-- ---- join equalities

-- x is a column of the fact, and k the key of a dimension
abbrev pub joined_by : Bool → ScopeColumn → ScopeColumn → Option ℕ → Option Equality
joined_by test x k None = None
joined_by test x k (Some join) = if test then Some (record { join = join; foreign = x.column; key = k.column }) else None

abbrev pub keyed : ScopeColumn → ScopeColumn → Option Equality
keyed x k = joined_by (k.is_key && is_none x.join) x k k.join

abbrev pub first_there : {X : Type 0} → Option X → Option X → Option X
first_there (Some x) y = Some x
first_there None y = y

-- in either order
abbrev pub equality_of : Option ScopeColumn → Option ScopeColumn → Option Equality
equality_of (Some x) (Some k) = first_there (keyed x k) (keyed k x)
equality_of (Some x) None = None
equality_of None k = None

-- of an equality whose two sides are names
abbrev pub node_equality : Scope → Expr-F Expr Arm → Option Equality
node_equality s (node.Compare comparison.Equal a b) = equality_of (column_meant s a) (column_meant s b)
node_equality s _ = None

-- the join equality that a conjunct is, if it is one
abbrev pub join_equality : Scope → Expr → Option Equality
join_equality s e = node_equality s (out-Expr e)

-- ---- of inner joins

abbrev pub dim_is_left : Option Dim → Bool
dim_is_left None = false
dim_is_left (Some d) = is_left d.join_type

-- its dimension is joined by LEFT JOIN
abbrev pub joins_left : Scope → Equality → Bool
joins_left s e = dim_is_left (slice_get s.dims e.join)

abbrev pub unless_left : Scope → Option Equality → Option Equality
unless_left s None = None
unless_left s (Some e) = if joins_left s e then None else Some e

-- the join equality of an inner join that a conjunct is; one with the key of a LEFT join's dimension is a condition as any
-- other
abbrev pub inner_equality : Scope → Expr → Option Equality
inner_equality s e = unless_left s (join_equality s e)

-- ---- all conjuncts

-- the plan's expression over a joined row; what has none is NULL
abbrev pub row_expr : Scope → Expr → plan.Expr
row_expr s e = unwrap_or (translated (given_in s Rows) e) (expr.Literal value.Null)

-- one more condition; the ON of a LEFT join gives none
abbrev pub with_condition : Scope → JoinType → Conjuncts → Expr → Conjuncts
with_condition s Inner c e = record { equalities = c.equalities; plain = c.plain ++ row_expr s e ∷ [] }
with_condition s Left c e = c

-- one more conjunct: a join equality, or a condition
abbrev pub with_found : Scope → JoinType → Conjuncts → Expr → Option Equality → Conjuncts
with_found s by c e None = with_condition s by c e
with_found s by c e (Some q) = record { equalities = c.equalities ++ q ∷ []; plain = c.plain }

abbrev pub with_conjunct : Scope → JoinType → Conjuncts → Expr → Conjuncts
with_conjunct s by c e = with_found s by c e (inner_equality s e)

abbrev pub with_conjuncts : Scope → JoinType → Conjuncts → List Expr → Conjuncts
with_conjuncts s by c [] = c
with_conjuncts s by c (e ∷ es) = with_conjuncts s by (with_conjunct s by c e) es

-- those of the ON of each join
abbrev pub with_on : Scope → Conjuncts → JoinKind → Conjuncts
with_on s c kind = with_conjuncts s (join_type_of kind) c (flat_map conjuncts_of (option_to_list (condition_of kind)))

abbrev pub with_ons : Scope → Conjuncts → List Joined → Conjuncts
with_ons s c [] = c
with_ons s c (j ∷ js) = with_ons s (with_on s c j.kind) js

-- those of each ON, and then those of WHERE
abbrev pub with_all : Scope → Conjuncts → Query → Conjuncts
with_all s c q = with_conjuncts s Inner (with_ons s c q.source.others) (flat_map conjuncts_of (option_to_list q.filter))

-- ---- one equality for each dimension

-- the one of these
abbrev pub one_equality : List Equality → Result Equality PlanFault
one_equality [] = Err fault.NoEquality
one_equality (e ∷ []) = Ok e
one_equality (e ∷ more) = Err fault.TwoEqualities

abbrev pub joins_dim : ℕ → Equality → Bool
joins_dim d e = e.join == d

-- the one join equality of a dimension of FROM
abbrev pub equality_for : List Equality → ℕ → Result Equality PlanFault
equality_for equalities d = one_equality (filter (joins_dim d) equalities)

-- the equality of a LEFT join: its ON, as a whole

abbrev pub left_on : JoinKind → Option Expr
left_on join_kind.Comma = None
left_on (join_kind.Inner e) = None
left_on (join_kind.Left e) = Some e

abbrev pub goes_by : List ℕ → Joined → Bool
goes_by name j = bytes_eq (called j.table) name

-- the ON of the LEFT join whose table goes by the dimension's name
abbrev pub left_on_of : List Joined → Dim → Option Expr
left_on_of js d = option_and_then (λ j. left_on j.kind) (find (goes_by d.called) js)

-- of its own dimension
abbrev pub if_own : ℕ → Option Equality → Result Equality PlanFault
if_own d None = Err fault.LeftNotByEquality
if_own d (Some e) = if joins_dim d e then Ok e else Err fault.LeftNotByEquality

abbrev pub left_equality_for : Scope → List Joined → ℕ × Dim → Result Equality PlanFault
left_equality_for s js d = if_own d.0 (option_and_then (join_equality s) (left_on_of js d.1))
