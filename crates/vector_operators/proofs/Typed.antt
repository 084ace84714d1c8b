-- Of which type lanes are.
use Rattle.std.specs.Prelude.{◌≡◌, ℕ, suc, true, List, [], ◌∷◌, get_or, Result, Ok, Err, IfOk}
use Rattle.std.specs.List.{AllByRecursion}
use Rattle.std.proofs.Common.{refl, subst, inr}
use Rattle.std.proofs.lemmas.List.Elements.{All-from_recursion}
use Rattle.meaning.specs.declared.value.Value.TheVariants.{Null}
use Rattle.meaning.specs.declared.outcome.Outcome.{Outcome}
use Rattle.meaning.specs.declared.outcome.Outcome.TheVariants as gives
use Rattle.meaning.specs.Typing.{ExprType, Valued, Boolean, is_valued}
use Rattle.vectors.specs.declared.vector.Vector.{Vector}
use Rattle.vectors.specs.Vector.{outcomes_of}
use Rattle.vector_operators.specs.declared.given.Given.{Given}
use Rattle.vector_operators.specs.declared.given.Given.TheVariants as given
use Rattle.vector_operators.specs.Evaluated.{lane_of}
use Rattle.vector_operators.specs.Given.{IsOfType, given_at, is_of_kind}

all_null : (os : List Outcome) → ((i : ℕ) → get_or os i (gives.Value Null) ≡ gives.Value Null) → AllByRecursion (λ o. o ≡ gives.Value Null) os
all_null [] null = tt
all_null (o ∷ os) null = (null 0, all_null os (λ i. null (suc i)))

null_kind : (type : ExprType) → is_of_kind type given.Null ≡ true → is_valued type ≡ true
null_kind (Valued kind) h = refl
null_kind Boolean h = absurd cc

-- NULL in each lane is of any type of values
pub null_typed : {E : Type 0} (type : ExprType) (g : Given) (r : Result Vector E) → g ≡ given.Null → is_of_kind type g ≡ true
    → IfOk r (λ v. (i : ℕ) → lane_of v i ≡ given_at given.Null i) → IfOk r (IsOfType type)
null_typed type g (Err e) is kind null = tt
null_typed type g (Ok v) is kind null = inr (
  null_kind type (subst (λ (x : Given). is_of_kind type x ≡ true) is kind),
  All-from_recursion (λ o. o ≡ gives.Value Null) (outcomes_of v) (all_null (outcomes_of v) null),
)
