-- The error codes of refusals.
use Rattle.std.specs.Prelude.{ℕ}
use Rattle.planner_expressions.specs.declared.fault.PlanFault.{PlanFault}
use Rattle.planner_expressions.specs.declared.fault.PlanFault.TheVariants as fault

-- the error code of a refusal
abbrev pub number_of : PlanFault → ℕ
number_of fault.Memory = 0
number_of fault.TableUnknown = 1
number_of fault.ColumnUnknown = 2
number_of fault.Ambiguous = 3
number_of fault.TypeMismatch = 4
number_of fault.NoEquality = 5
number_of fault.TwoEqualities = 6
number_of fault.FactNotOnce = 7
number_of fault.NotGrouped = 8
number_of fault.MisplacedAggregate = 9
number_of fault.PositionNotAllowed = 10
number_of fault.OverLimit = 11
number_of fault.LeftNotByEquality = 12
number_of fault.LeftNotBehindFact = 13
