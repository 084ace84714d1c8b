-- What lanes hold, operator by operator.
use Rattle.std.specs.Prelude.{◌≡◌, ℤ, pos, ◌+ℤ◌, ◌-ℤ◌, ◌*ℤ◌, neg_ℤ, int_div, Bool, true, false, if◌then◌else◌}
use Rattle.std.proofs.Common.{refl, ap, ◌∙◌}
use Rattle.std.specs.Int.{from_bool, int_wrap, w64}
use Rattle.std.specs.declared.cmp.Ordering.{Ordering}
use Rattle.std.specs.declared.cmp.Ordering.TheVariants.{Less, Equal, Greater}
use Rattle.std.specs.Ordering.{int_cmp, int_eq, nat_cmp, ordering_then}
use Rattle.std.specs.Cmp.Lexicographic.{slice_cmp}
use Rattle.std.proofs.lemmas.Int.{int_wrap_fits}
use Rattle.meaning.specs.declared.value.Value.{Value}
use Rattle.meaning.specs.declared.value.Value.TheVariants.{Int, Text}
use Rattle.meaning.specs.declared.outcome.Truth.{Truth}
use Rattle.meaning.specs.declared.outcome.Truth.TheVariants.{True, False, Unknown}
use Rattle.meaning.specs.declared.outcome.Outcome.{Outcome}
use Rattle.meaning.specs.declared.outcome.Outcome.TheVariants as gives
use Rattle.meaning.specs.declared.expr.ArithmeticOperator.TheVariants.{Divide}
use Rattle.meaning.specs.declared.expr.ComparisonOperator.{ComparisonOperator}
use Rattle.meaning.specs.Order.{value_cmp}
use Rattle.meaning.specs.Truth.{is_true, known}
use Rattle.meaning.specs.Operators.{fitted, fits_i64, of_integers, test, case_of, coalesce_of}
use Rattle.meaning.proofs.Words.{fits_word}
use Rattle.vectors.specs.Lanes.{lane_value}
use Rattle.lane_loops.specs.Lanes.{fault_code, overflow_bit, quotient}
use Rattle.lane_loops.specs.Outcomes.{returned_outcome, returned_truth, ArithmeticIsReturned, TestsAreReturned, ChoicesAreReturned, LanesAreReturned}

fitted_returned : (z : ℤ) → fitted z ≡ returned_outcome false (overflow_bit z) (int_wrap w64 z)
fitted_returned z =
    elim (fits_i64 z) as (λ b. fits_i64 z ≡ b → fitted z ≡ returned_outcome false (overflow_bit z) (int_wrap w64 z)) [
      | true ↦ λ e. rw (int_wrap_fits w64 z (fits_word z e), e)
      | false ↦ λ e. rw e
    ] refl

divided_returned : (m n : ℤ) → of_integers Divide m n ≡ returned_outcome false (fault_code (of_integers Divide m n)) (quotient m n)
divided_returned m n =
    elim (int_eq n (pos 0)) as (λ b. int_eq n (pos 0) ≡ b → of_integers Divide m n ≡ returned_outcome false (fault_code (of_integers Divide m n)) (quotient m n)) [
      | true ↦ λ e. rw e
      | false ↦ λ e. elim (fits_i64 (int_div m n)) as (λ b. fits_i64 (int_div m n) ≡ b → of_integers Divide m n ≡ returned_outcome false (fault_code (of_integers Divide m n)) (quotient m n)) [
        | true ↦ λ f. rw (e, f)
        | false ↦ λ f. rw (e, f)
      ] refl
    ] refl

arithmetic : (l r : Bool) (m n : ℤ) → ArithmeticIsReturned l r m n
arithmetic true r m n = record { add = refl; subtract = refl; multiply = refl; divide = refl; negate = refl }
arithmetic false true m n = record { add = refl; subtract = refl; multiply = refl; divide = refl; negate = fitted_returned (neg_ℤ m) }
arithmetic false false m n = record {
  add = fitted_returned (m +ℤ n);
  subtract = fitted_returned (m -ℤ n);
  multiply = fitted_returned (m *ℤ n);
  divide = divided_returned m n;
  negate = fitted_returned (neg_ℤ m);
}

bit_returned : (b : Bool) → known b ≡ returned_truth false (from_bool b)
bit_returned true = refl
bit_returned false = refl

ints_cmp : (m n : ℤ) → value_cmp (Int m) (Int n) ≡ int_cmp m n
ints_cmp m n = elim (int_cmp m n) as (λ o. ordering_then o Equal ≡ o) [ Less ↦ refl | Equal ↦ refl | Greater ↦ refl ]

tests : (op : ComparisonOperator) (l r : Bool) → TestsAreReturned op l r
tests op true r = record { ints = λ m n. refl; texts = λ a b. refl; like = λ pattern a. refl; null_ints = λ m. refl; null_texts = λ a. refl }
tests op false true = record { ints = λ m n. refl; texts = λ a b. refl; like = λ pattern a. ap gives.Truth (bit_returned _); null_ints = λ m. refl; null_texts = λ a. refl }
tests op false false = record { ints = λ m n. ap (λ (o : Ordering). known (test op o)) (ints_cmp m n) ∙ bit_returned (test op (int_cmp m n)); texts = λ a b. bit_returned (test op (slice_cmp nat_cmp a b)); like = λ pattern a. ap gives.Truth (bit_returned _); null_ints = λ m. refl; null_texts = λ a. refl }

module _ {X : Type 0} (value : X → Value) where
  case_returned : (t : Truth) (these those : Bool × X) → case_of (gives.Truth t) (gives.Value (lane_value value these)) (gives.Value (lane_value value those))
      ≡ gives.Value (lane_value value ((if is_true t then these.0 else those.0), (if is_true t then these.1 else those.1)))
  case_returned True these those = refl
  case_returned False these those = refl
  case_returned Unknown these those = refl

  coalesce_returned : ((x : X) (b : Outcome) → coalesce_of (gives.Value (value x)) b ≡ gives.Value (value x)) → (l : Bool) (x : X) (those : Bool × X)
      → coalesce_of (gives.Value (lane_value value (l, x))) (gives.Value (lane_value value those))
      ≡ gives.Value (lane_value value ((if l then those.0 else l), (if l then those.1 else x)))
  coalesce_returned present true x those = refl
  coalesce_returned present false x those = present x (gives.Value (lane_value value those))

  choices_returned : ((x : X) (b : Outcome) → coalesce_of (gives.Value (value x)) b ≡ gives.Value (value x)) → ChoicesAreReturned value
  choices_returned present = record { case = case_returned; coalesce = coalesce_returned present }

pub lanes_returned : LanesAreReturned
lanes_returned = record { arithmetic = arithmetic; tests = tests; ints = choices_returned Int (λ x b. refl); texts = choices_returned Text (λ x b. refl) }
