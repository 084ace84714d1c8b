-- The one equality that passes a test, found by the first that does and by how many do.
use Rattle.std.proofs.Common.{◌≡◌, ℕ, Bool, true, false, List, [], ◌∷◌, length, find, filter, Option, Some, None, Result, Ok, Err, cond, ◌==◌, refl, arith}
use Rattle.planner_expressions.specs.declared.fault.PlanFault.{PlanFault}
use Rattle.planner_expressions.specs.declared.fault.PlanFault.TheVariants as fault
use Rattle.planner_clauses.specs.declared.conjuncts.Equality.{Equality}
use Rattle.planner_clauses.specs.Conjuncts.{one_equality}

-- by the first and the count
abbrev pub by_count : Option Equality → ℕ → Result Equality PlanFault
by_count None n = Err fault.NoEquality
by_count (Some x) n = cond (n == 1) (Ok x) (Err fault.TwoEqualities)

several : (x : Equality) (ys : List Equality) → one_equality (x ∷ ys) ≡ cond (length (x ∷ ys) == 1) (Ok x) (Err fault.TwoEqualities)
several x [] = refl
several x (y ∷ ys) = grind arith

step : (p : Equality → Bool) (x : Equality) (xs : List Equality) (b : Bool) → one_equality (filter p xs) ≡ by_count (find p xs) (length (filter p xs))
    → one_equality (cond b (x ∷ filter p xs) (filter p xs)) ≡ by_count (cond b (Some x) (find p xs)) (length (cond b (x ∷ filter p xs) (filter p xs)))
step p x xs true rest = several x (filter p xs)
step p x xs false rest = rest

pub one_from : (p : Equality → Bool) (xs : List Equality) → one_equality (filter p xs) ≡ by_count (find p xs) (length (filter p xs))
one_from p [] = refl
one_from p (x ∷ xs) = step p x xs (p x) (one_from p xs)
