-- The last step: from groups and their aggregates to the rows of the answer, in their order.
use Rattle.std.specs.Prelude.{ℕ, Bool, true, false, if◌then◌else◌, List, [], ◌∷◌, ◌++◌, map, take, replicate, Option, Some, None, Result, Ok, Err}
use Rattle.std.specs.declared.cmp.Ordering.{Ordering}
use Rattle.std.specs.Ordering.{on, then_cmp, flip_args}
use Rattle.meaning.specs.declared.value.Value.{Value}
use Rattle.meaning.specs.declared.outcome.Truth.TheVariants.{False, Unknown, True}
use Rattle.meaning.specs.declared.outcome.Outcome.{Outcome}
use Rattle.meaning.specs.declared.outcome.Outcome.TheVariants as gives
use Rattle.meaning.specs.declared.expr.Expr.{Expr}
use Rattle.meaning.specs.declared.plan.OrderKey.{OrderKey}
use Rattle.meaning.specs.declared.plan.Plan.{Plan}
use Rattle.meaning.specs.Order.{Row, column, value_cmp, row_cmp, sorted, ascending_set}
use Rattle.meaning.specs.declared.joined_row.JoinedRow.{JoinedRow}
use Rattle.meaning.specs.Joined.{group_row}
use Rattle.meaning.specs.Operators.{code_of}
use Rattle.meaning.specs.Expr.{eval, values}
use Rattle.meaning.specs.Results.{all_ok, and_then}

-- what the last step gives: rows, or the first fault over groups
pub data Finished : Type 0 where
  Rows : List Row → Finished
  Refusal : ℕ → Finished

-- a group in the last step: its key, its row count, and the value or the fault of each aggregate
pub record Evaluated : Type 0 where
  pub key : Row
  pub rows : ℕ
  pub aggregates : List (Result Value ℕ)

-- the rows of a group behind HAVING: only TRUE lets them pass
abbrev pub rows_behind : Outcome → Result (List Row) ℕ → Result (List Row) ℕ
rows_behind (gives.Fault f) group = Err (code_of f)
rows_behind (gives.Truth True) group = group
rows_behind (gives.Truth Unknown) group = Ok []
rows_behind (gives.Truth False) group = Ok []
rows_behind (gives.Value v) group = Ok []

abbrev pub behind_having : Option Expr → JoinedRow → Result (List Row) ℕ → Result (List Row) ℕ
behind_having None s group = group
behind_having (Some condition) s group = rows_behind (eval condition s) group

-- the row that a group shows, unless HAVING drops it, or the first fault of HAVING and the items
abbrev pub shown : Plan → JoinedRow → Result (List Row) ℕ
shown plan s = behind_having plan.having s (and_then (values (map (λ i. i.expr) plan.items) s) (λ row. Ok (row ∷ [])))

-- the rows of a group, or its first fault. A plain query shows each key as often as it has rows
abbrev pub rows_of : Plan → Evaluated → Result (List Row) ℕ
rows_of plan g =
    if plan.plain then Ok (replicate g.rows g.key)
    else and_then (all_ok g.aggregates) (λ values. shown plan (group_row g.key values))

-- by an item, and under DESC the other way round, also for NULL
abbrev pub by_key : OrderKey → Row → Row → Ordering
by_key k = on (λ row. column row k.item) (if k.descending then flip_args value_cmp else value_cmp)

-- by ORDER BY, and then by the whole order of rows
abbrev pub order_cmp : List OrderKey → Row → Row → Ordering
order_cmp [] = row_cmp
order_cmp (k ∷ ks) = then_cmp (by_key k) (order_cmp ks)

abbrev pub limited : Option ℕ → List Row → List Row
limited None all = all
limited (Some n) all = take n all

abbrev pub all_rows : List (List Row) → List Row
all_rows [] = []
all_rows (xs ∷ xss) = xs ++ all_rows xss

-- SELECT DISTINCT shows equal rows once
abbrev pub shown_once : Bool → List Row → List Row
shown_once true all = ascending_set row_cmp all
shown_once false all = all

abbrev pub finished : Result (List Row) ℕ → Finished
finished (Ok shown) = Rows shown
finished (Err c) = Refusal c

-- the first fault, from group to group in the order of their keys; else the rows, each once where DISTINCT asks so, in order
-- and cut by LIMIT
abbrev pub finish : Plan → List Evaluated → Finished
finish plan groups = finished (and_then (all_ok (map (rows_of plan) groups))
    (λ parts. Ok (limited plan.limit (sorted (order_cmp plan.order) (shown_once plan.distinct (all_rows parts))))))
