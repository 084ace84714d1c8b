-- IN and COALESCE over one item more.
use Rattle.std.specs.Prelude.{◌≡◌, List, [], ◌∷◌, ◌++◌}
use Rattle.std.proofs.Common.{refl, sym, ◌∙◌, ap}
use Rattle.meaning.specs.declared.value.Value.TheVariants.{Null, Int, Text}
use Rattle.meaning.specs.declared.outcome.Truth.TheVariants.{True, False, Unknown}
use Rattle.meaning.specs.declared.outcome.Outcome.{Outcome}
use Rattle.meaning.specs.declared.outcome.Outcome.TheVariants as gives
use Rattle.meaning.specs.declared.expr.ComparisonOperator.TheVariants.{Equal}
use Rattle.meaning.specs.Operators.{coalesce_of, compare_of, first_of, one_of, or_of}
use Rattle.meaning.proofs.EvalLemmas.{or_of-or_of}
use Rattle.primitives.specs.Nodes.{one_of_subject}

coalesce_null : (o : Outcome) → coalesce_of o (gives.Value Null) ≡ o
coalesce_null (gives.Value Null) = refl
coalesce_null (gives.Value (Int n)) = refl
coalesce_null (gives.Value (Text t)) = refl
coalesce_null (gives.Truth t) = refl
coalesce_null (gives.Fault e) = refl

coalesce_thrice : (a b c : Outcome) → coalesce_of a (coalesce_of b c) ≡ coalesce_of (coalesce_of a b) c
coalesce_thrice (gives.Value Null) b c = refl
coalesce_thrice (gives.Value (Int n)) b c = refl
coalesce_thrice (gives.Value (Text t)) b c = refl
coalesce_thrice (gives.Truth t) b c = refl
coalesce_thrice (gives.Fault e) b c = refl

pub first_of_more : (os : List Outcome) (o : Outcome) → first_of (os ++ o ∷ []) ≡ coalesce_of (first_of os) o
first_of_more [] o = coalesce_null o
first_of_more (a ∷ os) o = ap (coalesce_of a) (first_of_more os o) ∙ coalesce_thrice a (first_of os) o

or_false : (c : Outcome) → or_of c (gives.Truth False) ≡ or_of (gives.Truth False) c
or_false (gives.Value v) = refl
or_false (gives.Truth True) = refl
or_false (gives.Truth False) = refl
or_false (gives.Truth Unknown) = refl
or_false (gives.Fault e) = refl

one_of_more : (x : Outcome) (os : List Outcome) (o : Outcome) → one_of x (os ++ o ∷ []) ≡ or_of (one_of x os) (compare_of Equal x o)
one_of_more x [] o = or_false (compare_of Equal x o)
one_of_more x (a ∷ os) o = ap (or_of (compare_of Equal x a)) (one_of_more x os o) ∙ sym (or_of-or_of (compare_of Equal x a) (one_of x os) (compare_of Equal x o))

pub one_of_subject_more : (x : Outcome) (os : List Outcome) (o : Outcome) → one_of_subject x (os ++ o ∷ []) ≡ or_of (one_of_subject x os) (compare_of Equal x o)
one_of_subject_more (gives.Fault e) os o = refl
one_of_subject_more (gives.Value v) os o = one_of_more (gives.Value v) os o
one_of_subject_more (gives.Truth t) os o = one_of_more (gives.Truth t) os o

-- of a list that isn't empty this is IN
pub one_of_subject_is : (x a : Outcome) (os : List Outcome) → one_of_subject x (a ∷ os) ≡ one_of x (a ∷ os)
one_of_subject_is (gives.Fault e) a os = refl
one_of_subject_is (gives.Value v) a os = refl
one_of_subject_is (gives.Truth t) a os = refl
