-- What becomes of each joined row: it is kept, it is dropped, or it faults.
use Rattle.std.specs.Prelude.{ℕ, List, [], ◌∷◌, map, flat_map, filter_map, Option, Some, None, option_map, Result, Ok, Err}
use Rattle.std.specs.declared.cmp.Ordering.{Ordering}
use Rattle.std.specs.Ordering.{nat_cmp, on, then_cmp}
use Rattle.meaning.specs.declared.outcome.Truth.TheVariants.{False, Unknown, True}
use Rattle.meaning.specs.declared.outcome.Outcome.{Outcome}
use Rattle.meaning.specs.declared.outcome.Outcome.TheVariants as gives
use Rattle.meaning.specs.declared.expr.Expr.{Expr}
use Rattle.meaning.specs.declared.plan.Plan.{Plan}
use Rattle.meaning.specs.declared.answer.RowFault.{RowFault}
use Rattle.meaning.specs.Order.{Row, least}
use Rattle.meaning.specs.declared.joined_row.JoinedRow.{JoinedRow}
use Rattle.meaning.specs.Operators.{code_of}
use Rattle.meaning.specs.Expr.{eval, values}
use Rattle.meaning.specs.Cut.{Numbered}
use Rattle.meaning.specs.Joined.{combos}

pub data Judged : Type 0 where
  kept : Row → Row → Judged
  dropped : Judged
  fault : ℕ → Judged

-- what becomes of a row behind a condition: only TRUE lets it pass
abbrev pub behind_condition : Outcome → Judged → Judged
behind_condition (gives.Fault f) row = fault (code_of f)
behind_condition (gives.Truth True) row = row
behind_condition (gives.Truth Unknown) row = dropped
behind_condition (gives.Truth False) row = dropped
behind_condition (gives.Value v) row = dropped

-- what becomes of a row behind several conditions, from left to right
abbrev pub behind_conditions : List Expr → JoinedRow → Judged → Judged
behind_conditions [] s row = row
behind_conditions (c ∷ cs) s row = behind_condition (eval c s) (behind_conditions cs s row)

-- what conditions make of a row: they keep it, they drop it, or one of them faults
pub data Filtered : Type 0 where
  Passes : Filtered
  Drops : Filtered
  Faults : ℕ → Filtered

-- only TRUE goes on to the next condition
abbrev pub filtered_by : Outcome → Filtered → Filtered
filtered_by (gives.Fault f) next = Faults (code_of f)
filtered_by (gives.Truth True) next = next
filtered_by (gives.Truth Unknown) next = Drops
filtered_by (gives.Truth False) next = Drops
filtered_by (gives.Value v) next = Drops

-- the conditions from left to right, with no regard to keys and arguments
abbrev pub filtered : List Expr → JoinedRow → Filtered
filtered [] s = Passes
filtered (c ∷ cs) s = filtered_by (eval c s) (filtered cs s)

-- what becomes of a row that the conditions let pass, or not
abbrev pub behind_filter : Filtered → Judged → Judged
behind_filter Passes row = row
behind_filter Drops row = dropped
behind_filter (Faults c) row = fault c

-- two filters, one after the other
abbrev pub then_filtered : Filtered → Filtered → Filtered
then_filtered Passes next = next
then_filtered Drops next = Drops
then_filtered (Faults c) next = Faults c

-- the keys' fault comes before the arguments'
abbrev pub keep : Result Row ℕ → Result Row ℕ → Judged
keep (Err c) args = fault c
keep (Ok key) (Err c) = fault c
keep (Ok key) (Ok args) = kept key args

-- the conditions from left to right, then the keys, then the aggregates' arguments
abbrev pub judge : Plan → JoinedRow → Judged
judge plan s = behind_conditions plan.conjuncts s
    (keep (values (map (λ k. k.expr) plan.keys) s) (values (map (λ a. a.argument) plan.aggs) s))

-- what becomes of a fact row: at most one joined row where the dimensions' keys are unique
abbrev pub judged : Plan → List (List Row) → Row → List Judged
judged plan dims row = map (judge plan) (combos plan dims row)

-- the first fault
abbrev pub first_fault : List Judged → Option ℕ
first_fault [] = None
first_fault (fault c ∷ rest) = Some c
first_fault (j ∷ rest) = first_fault rest

-- the key rows and argument rows that are kept
abbrev pub pairs : List Judged → List (Row × Row)
pairs [] = []
pairs (kept key args ∷ rest) = (key, args) ∷ pairs rest
pairs (j ∷ rest) = pairs rest

-- the least row comes first
abbrev pub fault_cmp : RowFault → RowFault → Ordering
fault_cmp = then_cmp (on (λ f. f.row) nat_cmp) (on (λ f. f.code) nat_cmp)

abbrev pub row_faults : Plan → List (List Row) → Numbered → List RowFault
row_faults plan dims rows = filter_map
    (λ r. option_map (λ c. record { row = r.0; code = c }) (first_fault (judged plan dims r.1))) rows

-- the fault of the least row that has one
abbrev pub row_fault : Plan → List (List Row) → Numbered → Option RowFault
row_fault plan dims rows = least fault_cmp (row_faults plan dims rows)

-- the key row and argument row of each kept row, in the order of the rows
abbrev pub kept_rows : Plan → List (List Row) → Numbered → List (Row × Row)
kept_rows plan dims rows = flat_map (λ r. pairs (judged plan dims r.1)) rows
