-- The one element that passes a test, found by the first that does and by how many do.
use Rattle.std.proofs.Common.{◌≡◌, ℕ, Bool, true, false, List, [], ◌∷◌, length, find, filter, Option, Some, None, Result, Ok, Err, cond, ◌==◌, refl, arith}
use Rattle.planner_expressions.specs.declared.fault.PlanFault.{PlanFault}
use Rattle.planner_expressions.specs.declared.fault.PlanFault.TheVariants as fault
use Rattle.planner_expressions.specs.declared.scope.ScopeColumn.{ScopeColumn}
use Rattle.planner_expressions.specs.Scope.{one_of}

-- by the first and the count
abbrev pub by_count : Option ScopeColumn → ℕ → Result ScopeColumn PlanFault
by_count None n = Err fault.ColumnUnknown
by_count (Some x) n = cond (n == 1) (Ok x) (Err fault.Ambiguous)

several : (x : ScopeColumn) (ys : List ScopeColumn) → one_of (x ∷ ys) ≡ cond (length (x ∷ ys) == 1) (Ok x) (Err fault.Ambiguous)
several x [] = refl
several x (y ∷ ys) = grind arith

step : (p : ScopeColumn → Bool) (x : ScopeColumn) (xs : List ScopeColumn) (b : Bool) → p x ≡ b → one_of (filter p xs) ≡ by_count (find p xs) (length (filter p xs))
    → one_of (cond b (x ∷ filter p xs) (filter p xs)) ≡ by_count (cond b (Some x) (find p xs)) (length (cond b (x ∷ filter p xs) (filter p xs)))
step p x xs true is rest = several x (filter p xs)
step p x xs false is rest = rest

pub one_from : (p : ScopeColumn → Bool) (xs : List ScopeColumn) → one_of (filter p xs) ≡ by_count (find p xs) (length (filter p xs))
one_from p [] = refl
one_from p (x ∷ xs) = step p x xs (p x) refl (one_from p xs)
