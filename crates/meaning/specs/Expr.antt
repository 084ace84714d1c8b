-- What an expression gives on a row: a value, a truth or a fault.
use Rattle.std.specs.Prelude.{ℕ, List, [], ◌∷◌, map, Result, Ok, Err}
use Rattle.meaning.specs.declared.value.Value.TheVariants.{Null}
use Rattle.meaning.specs.declared.outcome.Outcome.{Outcome}
use Rattle.meaning.specs.declared.outcome.Outcome.TheVariants as gives
use Rattle.meaning.specs.declared.expr.Expr.{Expr}
use Rattle.meaning.specs.declared.expr.Expr.TheOpen as node
use Rattle.meaning.specs.declared.expr.Expr.TheOpen.{Expr-F, Arm-F}
use Rattle.meaning.specs.declared.expr.Expr.TheFolds.{fold-Expr, fold-Arm}
use Rattle.meaning.specs.declared.expr.Arm.{Arm}
use Rattle.meaning.specs.Order.{Row, column}
use Rattle.meaning.specs.declared.joined_row.JoinedRow.{JoinedRow}
use Rattle.meaning.specs.Joined.{joined_column}
use Rattle.meaning.specs.Operators.{code_of, minus_of, arith_of, compare_of, not_of, and_of, or_of, not_if, is_null_of, like_of, between_of, one_of, first_of, cases_of}

-- what a part gives on each row
abbrev pub Meaning : Type 0
Meaning = JoinedRow → Outcome

-- what WHEN and THEN give
abbrev pub arm_meanings : Arm-F Meaning (Meaning × Meaning) → Meaning × Meaning
arm_meanings arm = (arm.when, arm.then)

-- what each of them gives on the row
abbrev pub at_row : JoinedRow → List Meaning → List Outcome
at_row r = map (λ m. m r)

abbrev pub arms_at : JoinedRow → List (Meaning × Meaning) → List (Outcome × Outcome)
arms_at r = map (λ arm. (arm.0 r, arm.1 r))

-- one node, from what its parts give
abbrev pub node_meaning : Expr-F Meaning (Meaning × Meaning) → Meaning
node_meaning (node.Column at) r = gives.Value (column r.fact at)
node_meaning (node.Joined join at) r = gives.Value (joined_column r join at)
node_meaning (node.Key i) r = gives.Value (column r.key i)
node_meaning (node.Aggregate i) r = gives.Value (column r.aggregates i)
node_meaning (node.Literal v) r = gives.Value v
node_meaning (node.Minus a) r = minus_of (a r)
node_meaning (node.Arithmetic op a b) r = arith_of op (a r) (b r)
node_meaning (node.Compare op a b) r = compare_of op (a r) (b r)
node_meaning (node.Not a) r = not_of (a r)
node_meaning (node.And a b) r = and_of (a r) (b r)
node_meaning (node.Or a b) r = or_of (a r) (b r)
node_meaning (node.IsNull negated x) r = not_if negated (is_null_of (x r))
node_meaning (node.Between negated x low high) r = not_if negated (between_of (x r) (low r) (high r))
node_meaning (node.In negated x list) r = not_if negated (one_of (x r) (at_row r list))
node_meaning (node.Like negated x pattern) r = not_if negated (like_of pattern (x r))
node_meaning (node.Coalesce list) r = first_of (at_row r list)
node_meaning (node.Case arms otherwise) r = cases_of (arms_at r arms) (otherwise r)

-- what the expression gives on the row
abbrev pub eval : Expr → JoinedRow → Outcome
eval = fold-Expr Meaning (Meaning × Meaning) node_meaning arm_meanings

-- what WHEN and THEN of an arm give
abbrev pub eval_arm : Arm → Meaning × Meaning
eval_arm = fold-Arm Meaning (Meaning × Meaning) node_meaning arm_meanings

-- what the list gives
abbrev pub outcomes : List Expr → JoinedRow → List Outcome
outcomes list r = at_row r (map eval list)

-- a value in front of others, unless there is a fault: the value's comes first
abbrev pub with_value : Outcome → Result Row ℕ → Result Row ℕ
with_value (gives.Fault f) others = Err (code_of f)
with_value v (Err c) = Err c
with_value (gives.Value v) (Ok vs) = Ok (v ∷ vs)
with_value (gives.Truth t) (Ok vs) = Ok (Null ∷ vs)

-- the values of expressions, or the first fault from left to right
abbrev pub values : List Expr → JoinedRow → Result Row ℕ
values [] s = Ok []
values (e ∷ es) s = with_value (eval e s) (values es s)
