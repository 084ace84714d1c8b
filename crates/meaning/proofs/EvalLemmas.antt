-- OR, from the left and from the right.
use Rattle.std.proofs.Common.{◌≡◌, List, [], ◌∷◌, Option, Some, None, Result, Ok, Err, IfOk, arith, refl}
use Rattle.std.specs.Option.{unwrap_or}
use Rattle.meaning.specs.declared.outcome.Truth.TheVariants.{False}
use Rattle.meaning.specs.declared.outcome.Outcome.{Outcome}
use Rattle.meaning.specs.declared.outcome.Outcome.TheVariants as gives
use Rattle.meaning.specs.declared.expr.ComparisonOperator.TheVariants.{Equal}
use Rattle.meaning.specs.Operators.{or_of, compare_of, one_of, cases_of}

pub or_of-or_of : (a b c : Outcome) → or_of (or_of a b) c ≡ or_of a (or_of b c)
or_of-or_of a b c = grind arith

or_of-False : (a b : Outcome) → or_of (gives.Truth False) (or_of a b) ≡ or_of a b
or_of-False a b = grind arith

-- what IN gives is a truth or a fault
pub one_of-truth : (x : Outcome) (list : List Outcome) → or_of (gives.Truth False) (one_of x list) ≡ one_of x list
one_of-truth x [] = refl
one_of-truth x (a ∷ more) = or_of-False (compare_of Equal x a) (one_of x more)

-- where no arm was taken, the rest decides
pub no_arm : {E : Type 0} (r : Result (Option Outcome) E) (f : Option Outcome) (arms : List (Outcome × Outcome))
    (b : Outcome) → r ≡ Ok f → f ≡ None
    → IfOk r (λ found. (otherwise : Outcome) → unwrap_or found otherwise ≡ cases_of arms otherwise) → b
    ≡ cases_of arms b
no_arm (Ok None) f arms b is none says = says b
no_arm (Ok (Some o)) f arms b is none says = absurd cc
no_arm (Err e) f arms b is none says = absurd cc
