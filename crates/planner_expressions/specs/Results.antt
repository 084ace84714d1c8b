-- Results that go on from one another.
use Rattle.std.specs.Prelude.{List, [], ◌∷◌, Result, Ok, Err}
use Rattle.meaning.specs.Results.{and_then}
use Rattle.meaning.specs.Wanting.{GivesIfMemory}
use Rattle.planner_expressions.specs.declared.fault.PlanFault.{PlanFault}
use Rattle.planner_expressions.specs.declared.fault.PlanFault.TheVariants as fault

-- the result with another value
abbrev pub map_ok : {X Y E : Type 0} → (X → Y) → Result X E → Result Y E
map_ok f (Ok x) = Ok (f x)
map_ok f (Err e) = Err e

-- each in turn, up to the first fault
abbrev pub each_ok : {X : Type 0} → List (Result X PlanFault) → Result (Unit {0}) PlanFault
each_ok [] = Ok tt
each_ok (r ∷ rs) = and_then r (λ x. each_ok rs)

-- what a call returns, unless memory is wanting
abbrev pub Reports : {X : Type 0} → Result X PlanFault → Result X PlanFault → Type 0
Reports r returned = GivesIfMemory fault.Memory (λ x. x) r returned
