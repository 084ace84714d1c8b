-- What a query's tree means: by its operators, wherever it isn't given what it means.
use Rattle.std.specs.Prelude.{◌≡◌, ℕ, true, List, Option, Some, None, option_map, Ok}
use Rattle.std.specs.Option.{option_map_or}
use Rattle.meaning.specs.declared.value.Value.{Value}
use Rattle.meaning.specs.declared.value.Value.TheVariants.{Null, Int, Text}
use Rattle.meaning.specs.declared.outcome.Outcome.{Outcome}
use Rattle.meaning.specs.declared.outcome.Outcome.TheVariants as gives
use Rattle.meaning.specs.declared.expr.Expr as plan
use Rattle.meaning.specs.declared.joined_row.JoinedRow.{JoinedRow}
use Rattle.meaning.specs.Expr.{eval}
use Rattle.meaning.specs.Joined.{joined_column, group_row}
use Rattle.meaning.specs.Order.{Row, column}
use Rattle.meaning.specs.Operators.{minus_of, arith_of, compare_of, not_of, and_of, or_of, not_if, is_null_of, like_of, between_of, one_of, first_of, cases_of}
use Rattle.sql_syntax.specs.declared.tree.Expr.{Expr}
use Rattle.sql_syntax.specs.declared.tree.Expr.TheOpen as node
use Rattle.planner_expressions.specs.declared.basis.Basis.TheVariants.{Rows, Groups}
use Rattle.planner_expressions.specs.declared.scope.Scope.{Scope}
use Rattle.planner_expressions.specs.declared.sort.Sort.{Sort}
use Rattle.planner_expressions.specs.Given.{column_meant, given_in}
use Rattle.planner_expressions.specs.Judged.{judged}
use Rattle.planner_expressions.specs.Spelled.{Spelling, spelled, index_among}
use Rattle.planner_expressions.specs.Translated.{translated}
use Rattle.planner_expressions.specs.Trees.{Node, replaced}

-- a node from what its parts give; a name or an aggregate that isn't given is NULL
abbrev pub operated : Node Outcome → Outcome
operated (node.Column table name) = gives.Value Null
operated node.CountRows = gives.Value Null
operated (node.Aggregate kind a) = gives.Value Null
operated (node.Integer n) = gives.Value (Int n)
operated (node.Text t) = gives.Value (Text t)
operated (node.Minus a) = minus_of a
operated (node.Arithmetic op a b) = arith_of op a b
operated (node.Compare op a b) = compare_of op a b
operated (node.Not a) = not_of a
operated (node.And a b) = and_of a b
operated (node.Or a b) = or_of a b
operated (node.IsNull negated a) = not_if negated (is_null_of a)
operated (node.Between negated a low high) = not_if negated (between_of a low high)
operated (node.In negated a entries) = not_if negated (one_of a entries)
operated (node.Like negated a pattern) = not_if negated (like_of pattern a)
operated (node.Coalesce entries) = first_of entries
operated (node.Case arms otherwise) = cases_of arms (option_map_or (λ e. e) otherwise (gives.Value Null))

-- what a tree gives, where some trees are given what they mean
abbrev pub meant_by : (Expr → Option Outcome) → Expr → Outcome
meant_by given = replaced given operated

-- ---- rows

-- the value in a column of the fact's row, or of the row of a dimension of FROM
abbrev pub value_in : JoinedRow → Option ℕ → ℕ → Value
value_in r None at = column r.fact at
value_in r (Some j) at = joined_column r j at

-- a name alone is given, by the one column that it refers to
abbrev pub named_value : Scope → JoinedRow → Expr → Option Outcome
named_value s r e = option_map (λ p. gives.Value (value_in r p.join p.column)) (column_meant s e)

-- what a tree gives on a joined row
abbrev pub eval_named : Scope → Expr → JoinedRow → Outcome
eval_named s e r = meant_by (named_value s r) e

-- on every row the plan's expression gives what the tree gives
abbrev pub SameOnRows : Scope → plan.Expr → Expr → Type 0
SameOnRows s x e = (r : JoinedRow) → eval x r ≡ eval_named s e r

-- ---- groups

-- the value of the key, else of the aggregate, else nothing
abbrev pub key_or_aggregate : Row → Row → Option ℕ → Option ℕ → Option Outcome
key_or_aggregate key values (Some i) aggregate = Some (gives.Value (column key i))
key_or_aggregate key values None (Some i) = Some (gives.Value (column values i))
key_or_aggregate key values None None = None

-- a tree that is the same as a key is given by it, and an aggregate by its value
abbrev pub group_value : Scope → List Spelling → List Spelling → Row → Row → Expr → Option Outcome
group_value s keys aggregates key values e = key_or_aggregate key values (index_among keys (spelled s e)) (index_among aggregates (spelled s e))

-- on every group the plan's expression gives what the tree gives
abbrev pub SameOnGroups : Scope → List Spelling → List Spelling → plan.Expr → Expr → Type 0
SameOnGroups s keys aggregates x e = (key values : Row) → eval x (group_row key values) ≡ meant_by (group_value s keys aggregates key values) e

-- ---- laws

abbrev pub RowsMean : Type 0
RowsMean = (s : Scope) (e : Expr) (x : plan.Expr) → translated (given_in s Rows) e ≡ Some x → SameOnRows s x e

abbrev pub GroupsMean : Type 0
GroupsMean = (s : Scope) (keys aggregates : List Spelling) (e : Expr) (x : plan.Expr) → translated (given_in s (Groups keys aggregates)) e ≡ Some x → SameOnGroups s keys aggregates x e

-- what has no fault where aggregates are barred has an expression over rows
abbrev pub RowsTranslate : Type 0
RowsTranslate = (s : Scope) (e : Expr) (sort : Sort) → judged s e true ≡ Ok sort → (x : plan.Expr) × (translated (given_in s Rows) e ≡ Some x)
