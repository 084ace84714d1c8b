-- What the lanes of operands and of loops say together, in the words of evaluation.
use Rattle.std.specs.Prelude.{◌≡◌, ℕ, ◌==◌, ℤ, ◌+ℤ◌, ◌-ℤ◌, ◌*ℤ◌, neg_ℤ, Bool, true, false, ◌||◌, if◌then◌else◌, List}
use Rattle.std.specs.Int.{from_bool, int_wrap, w64}
use Rattle.std.specs.Ordering.{int_cmp, nat_cmp}
use Rattle.std.specs.Cmp.Lexicographic.{slice_cmp}
use Rattle.meaning.specs.declared.value.Value.{Value}
use Rattle.meaning.specs.declared.value.Value.TheVariants.{Null, Int, Text}
use Rattle.meaning.specs.declared.outcome.Truth.{Truth}
use Rattle.meaning.specs.declared.outcome.Truth.TheVariants.{Unknown}
use Rattle.meaning.specs.declared.outcome.Fault.TheVariants.{Overflow, DivisionByZero}
use Rattle.meaning.specs.declared.outcome.Outcome.{Outcome}
use Rattle.meaning.specs.declared.outcome.Outcome.TheVariants as gives
use Rattle.meaning.specs.declared.expr.ArithmeticOperator.TheVariants.{Add, Subtract, Multiply, Divide}
use Rattle.meaning.specs.declared.expr.ComparisonOperator.{ComparisonOperator}
use Rattle.meaning.specs.Truth.{is_true, known}
use Rattle.meaning.specs.Like.{is_like}
use Rattle.meaning.specs.Operators.{arith_values, minus_value, of_integers, test, compared, is_null_value, like_value, case_of, coalesce_of}
use Rattle.vectors.specs.Lanes.{lane_value}
use Rattle.lane_loops.specs.Lanes.{fault_code, is_flag, overflow_bit, quotient}

-- the outcome that is given by whether an operand is NULL, by the code of a fault, and by an integer
abbrev pub returned_outcome : Bool → ℕ → ℤ → Outcome
returned_outcome true code n = gives.Value Null
returned_outcome false code n = if code == 0 then gives.Value (Int n) else if code == 1 then gives.Fault Overflow else gives.Fault DivisionByZero

-- the outcome that is given by whether an operand is NULL, and by a bit
abbrev pub returned_truth : Bool → ℕ → Truth
returned_truth true bit = Unknown
returned_truth false bit = known (is_flag bit)

-- arithmetic: NULL where an operand is NULL, whatever stands in its lane, also over a divisor of 0
pub record ArithmeticIsReturned (l r : Bool) (m n : ℤ) : Type 0 where
  pub add : arith_values Add (lane_value Int (l, m)) (lane_value Int (r, n)) ≡ returned_outcome (l || r) (overflow_bit (m +ℤ n)) (int_wrap w64 (m +ℤ n))
  pub subtract : arith_values Subtract (lane_value Int (l, m)) (lane_value Int (r, n)) ≡ returned_outcome (l || r) (overflow_bit (m -ℤ n)) (int_wrap w64 (m -ℤ n))
  pub multiply : arith_values Multiply (lane_value Int (l, m)) (lane_value Int (r, n)) ≡ returned_outcome (l || r) (overflow_bit (m *ℤ n)) (int_wrap w64 (m *ℤ n))
  pub divide : arith_values Divide (lane_value Int (l, m)) (lane_value Int (r, n)) ≡ returned_outcome (l || r) (fault_code (of_integers Divide m n)) (quotient m n)
  pub negate : minus_value (lane_value Int (l, m)) ≡ returned_outcome l (overflow_bit (neg_ℤ m)) (int_wrap w64 (neg_ℤ m))

-- tests: UNKNOWN where an operand is NULL, but for IS NULL
pub record TestsAreReturned (op : ComparisonOperator) (l r : Bool) : Type 0 where
  pub ints : (m n : ℤ) → compared op (lane_value Int (l, m)) (lane_value Int (r, n)) ≡ returned_truth (l || r) (from_bool (test op (int_cmp m n)))
  pub texts : (a b : List ℕ) → compared op (lane_value Text (l, a)) (lane_value Text (r, b)) ≡ returned_truth (l || r) (from_bool (test op (slice_cmp nat_cmp a b)))
  pub like : (pattern a : List ℕ) → like_value pattern (lane_value Text (l, a)) ≡ gives.Truth (returned_truth l (from_bool (is_like pattern a)))
  pub null_ints : (m : ℤ) → is_null_value (lane_value Int (l, m)) ≡ gives.Truth (known l)
  pub null_texts : (a : List ℕ) → is_null_value (lane_value Text (l, a)) ≡ gives.Truth (known l)

-- choices: the first where the condition is TRUE; the second where the first is NULL
pub record ChoicesAreReturned {X : Type 0} (value : X → Value) : Type 0 where
  pub case : (t : Truth) (these those : Bool × X) → case_of (gives.Truth t) (gives.Value (lane_value value these)) (gives.Value (lane_value value those))
      ≡ gives.Value (lane_value value ((if is_true t then these.0 else those.0), (if is_true t then these.1 else those.1)))
  pub coalesce : (l : Bool) (x : X) (those : Bool × X)
      → coalesce_of (gives.Value (lane_value value (l, x))) (gives.Value (lane_value value those))
      ≡ gives.Value (lane_value value ((if l then those.0 else l), (if l then those.1 else x)))

-- of all operators
pub record LanesAreReturned : Type 0 where
  pub arithmetic : (l r : Bool) (m n : ℤ) → ArithmeticIsReturned l r m n
  pub tests : (op : ComparisonOperator) (l r : Bool) → TestsAreReturned op l r
  pub ints : ChoicesAreReturned Int
  pub texts : ChoicesAreReturned Text
