-- What each node of an expression gives, from what its parts give: equations that compute.
use Rattle.std.proofs.Common.{rules, ◌≡◌, ℕ, Bool, List, map}
use Rattle.meaning.specs.declared.value.Value.{Value}
use Rattle.meaning.specs.declared.outcome.Outcome.TheVariants as gives
use Rattle.meaning.specs.declared.expr.ArithmeticOperator.{ArithmeticOperator}
use Rattle.meaning.specs.declared.expr.ComparisonOperator.{ComparisonOperator}
use Rattle.meaning.specs.declared.expr.Arm.{Arm}
use Rattle.meaning.specs.declared.expr.Expr.{Expr}
use Rattle.meaning.specs.declared.expr.Expr.TheVariants as node
use Rattle.meaning.specs.declared.expr.Expr.TheFolds.{the_lemmas}
use Rattle.meaning.specs.declared.joined_row.JoinedRow.{JoinedRow}
use Rattle.meaning.specs.Order.{column}
use Rattle.meaning.specs.Joined.{joined_column}
use Rattle.meaning.specs.Operators.{minus_of, arith_of, compare_of, not_of, and_of, or_of, not_if, is_null_of, like_of, between_of, one_of, first_of, cases_of}
use Rattle.meaning.specs.Expr.{eval, eval_arm, arms_at, outcomes}

pub eval-Column : (i : ℕ) (r : JoinedRow) → eval (node.Column i) r ≡ gives.Value (column r.fact i)
eval-Column i r = search (rules, the_lemmas)

pub eval-Joined : (j i : ℕ) (r : JoinedRow) → eval (node.Joined j i) r ≡ gives.Value (joined_column r j i)
eval-Joined j i r = search (rules, the_lemmas)

pub eval-Key : (i : ℕ) (r : JoinedRow) → eval (node.Key i) r ≡ gives.Value (column r.key i)
eval-Key i r = search (rules, the_lemmas)

pub eval-Aggregate : (i : ℕ) (r : JoinedRow) → eval (node.Aggregate i) r ≡ gives.Value (column r.aggregates i)
eval-Aggregate i r = search (rules, the_lemmas)

pub eval-Literal : (v : Value) (r : JoinedRow) → eval (node.Literal v) r ≡ gives.Value v
eval-Literal v r = search (rules, the_lemmas)

pub eval-Minus : (a : Expr) (r : JoinedRow) → eval (node.Minus a) r ≡ minus_of (eval a r)
eval-Minus a r = search (rules, the_lemmas)

pub eval-Arithmetic : (op : ArithmeticOperator) (a b : Expr) (r : JoinedRow) → eval (node.Arithmetic op a b) r
    ≡ arith_of op (eval a r) (eval b r)
eval-Arithmetic op a b r = search (rules, the_lemmas)

pub eval-Compare : (op : ComparisonOperator) (a b : Expr) (r : JoinedRow) → eval (node.Compare op a b) r
    ≡ compare_of op (eval a r) (eval b r)
eval-Compare op a b r = search (rules, the_lemmas)

pub eval-Not : (a : Expr) (r : JoinedRow) → eval (node.Not a) r ≡ not_of (eval a r)
eval-Not a r = search (rules, the_lemmas)

pub eval-And : (a b : Expr) (r : JoinedRow) → eval (node.And a b) r ≡ and_of (eval a r) (eval b r)
eval-And a b r = search (rules, the_lemmas)

pub eval-Or : (a b : Expr) (r : JoinedRow) → eval (node.Or a b) r ≡ or_of (eval a r) (eval b r)
eval-Or a b r = search (rules, the_lemmas)

pub eval-IsNull : (n : Bool) (x : Expr) (r : JoinedRow) → eval (node.IsNull n x) r ≡ not_if n (is_null_of (eval x r))
eval-IsNull n x r = search (rules, the_lemmas)

pub eval-Between : (n : Bool) (x low high : Expr) (r : JoinedRow) → eval (node.Between n x low high) r
    ≡ not_if n (between_of (eval x r) (eval low r) (eval high r))
eval-Between n x low high r = search (rules, the_lemmas)

pub eval-In : (n : Bool) (x : Expr) (list : List Expr) (r : JoinedRow) → eval (node.In n x list) r
    ≡ not_if n (one_of (eval x r) (outcomes list r))
eval-In n x list r = search (rules, the_lemmas)

pub eval-Like : (n : Bool) (x : Expr) (pattern : List ℕ) (r : JoinedRow) → eval (node.Like n x pattern) r
    ≡ not_if n (like_of pattern (eval x r))
eval-Like n x pattern r = search (rules, the_lemmas)

pub eval-Coalesce : (list : List Expr) (r : JoinedRow) → eval (node.Coalesce list) r ≡ first_of (outcomes list r)
eval-Coalesce list r = search (rules, the_lemmas)

pub eval_arm-record : (a b : Expr) → eval_arm (record { when = a; then = b }) ≡ (eval a, eval b)
eval_arm-record a b = search (rules, the_lemmas)

pub eval-Case : (arms : List Arm) (otherwise : Expr) (r : JoinedRow) → eval (node.Case arms otherwise) r
    ≡ cases_of (arms_at r (map eval_arm arms)) (eval otherwise r)
eval-Case arms otherwise r = search (rules, the_lemmas)

-- all of them
pub ruleset evaluation = (
  eval-Column,
  eval-Joined,
  eval-Key,
  eval-Aggregate,
  eval-Literal,
  eval-Minus,
  eval-Arithmetic,
  eval-Compare,
  eval-Not,
  eval-And,
  eval-Or,
  eval-IsNull,
  eval-Between,
  eval-In,
  eval-Like,
  eval-Coalesce,
  eval_arm-record,
  eval-Case,
)
