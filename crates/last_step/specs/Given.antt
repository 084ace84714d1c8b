-- What a call gives beside what is meant.
--     fault_returned  the fault that a call's error is
--     meant           the last step's outcome
use Rattle.std.specs.Prelude.{ℕ, Bool, true, false, List, Option, Some, None, Result, Ok, Err}
use Rattle.meaning.specs.declared.value.Value.{Value}
use Rattle.meaning.specs.declared.value.Value.TheVariants.{Null}
use Rattle.meaning.specs.declared.outcome.Truth.TheVariants.{False, Unknown, True}
use Rattle.meaning.specs.declared.outcome.Outcome.{Outcome}
use Rattle.meaning.specs.declared.outcome.Outcome.TheVariants as gives
use Rattle.meaning.specs.declared.expr.Expr.{Expr}
use Rattle.meaning.specs.declared.joined_row.JoinedRow.{JoinedRow}
use Rattle.meaning.specs.declared.plan.Plan.{Plan}
use Rattle.meaning.specs.Order.{Row}
use Rattle.meaning.specs.Expr.{eval}
use Rattle.meaning.specs.Joined.{group_row}
use Rattle.meaning.specs.Operators.{code_of}
use Rattle.meaning.specs.Results.{all_ok, and_then}
use Rattle.meaning.specs.Finish as last
use Rattle.meaning.specs.Finish.{Evaluated, shown}
use Rattle.last_step.specs.declared.stop.Stop.{Stop}
use Rattle.last_step.specs.declared.stop.Stop.TheVariants.{Memory, Fault}
use Rattle.last_step.specs.declared.finished.Finished.{Finished}
use Rattle.last_step.specs.declared.finished.Finished.TheVariants as finished

-- the fault that a stop is, if it isn't that memory was wanting
abbrev pub fault_returned : Stop → Option ℕ
fault_returned Memory = None
fault_returned (Fault code) = Some code

-- what the last step gave
abbrev pub meant : Finished → last.Finished
meant (finished.Rows rows) = last.Rows rows
meant (finished.Fault code) = last.Refusal code

-- an outcome where a value stands
abbrev pub value_given : Outcome → Result Value ℕ
value_given (gives.Fault f) = Err (code_of f)
value_given (gives.Value v) = Ok v
value_given (gives.Truth t) = Ok Null

-- whether a condition is TRUE
abbrev pub kept_by : Outcome → Result Bool ℕ
kept_by (gives.Fault f) = Err (code_of f)
kept_by (gives.Truth True) = Ok true
kept_by (gives.Truth Unknown) = Ok false
kept_by (gives.Truth False) = Ok false
kept_by (gives.Value v) = Ok false

-- whether HAVING, if there is one, is TRUE
abbrev pub kept : Option Expr → JoinedRow → Result Bool ℕ
kept None s = Ok true
kept (Some condition) s = kept_by (eval condition s)

-- the rows of a group of a query that isn't plain
abbrev pub grouped_rows : Plan → Evaluated → Result (List Row) ℕ
grouped_rows plan g = and_then (all_ok g.aggregates) (λ values. shown plan (group_row g.key values))
