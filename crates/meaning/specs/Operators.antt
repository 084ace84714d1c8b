-- What each operator makes of the outcomes of its operands.
use Rattle.std.specs.Prelude.{ℕ, ℤ, pos, negsuc, neg_ℤ, ◌+ℤ◌, ◌-ℤ◌, ◌*ℤ◌, ◌^◌, int_div, nat_lt, Bool, if◌then◌else◌, List, [], ◌∷◌, Option, Some, None}
use Rattle.std.specs.declared.cmp.Ordering.{Ordering}
use Rattle.std.specs.Ordering.{is_eq, is_ne, is_lt, is_le, is_gt, is_ge, int_eq}
use Rattle.meaning.specs.declared.value.Value.{Value}
use Rattle.meaning.specs.declared.value.Value.TheVariants.{Null, Int, Text}
use Rattle.meaning.specs.declared.outcome.Truth.{Truth}
use Rattle.meaning.specs.declared.outcome.Truth.TheVariants.{True, False, Unknown}
use Rattle.meaning.specs.declared.outcome.Fault.{Fault}
use Rattle.meaning.specs.declared.outcome.Fault.TheVariants.{Overflow, DivisionByZero}
use Rattle.meaning.specs.declared.outcome.Outcome.{Outcome}
use Rattle.meaning.specs.declared.outcome.Outcome.TheVariants as gives
use Rattle.meaning.specs.declared.expr.ArithmeticOperator.{ArithmeticOperator}
use Rattle.meaning.specs.declared.expr.ArithmeticOperator.TheVariants.{Add, Subtract, Multiply, Divide}
use Rattle.meaning.specs.declared.expr.ComparisonOperator.{ComparisonOperator}
use Rattle.meaning.specs.declared.expr.ComparisonOperator.TheVariants.{Equal, NotEqual, Less, LessOrEqual, Greater, GreaterOrEqual}
use Rattle.meaning.specs.Order.{value_cmp}
use Rattle.meaning.specs.Truth.{not3, and3, or3, known}
use Rattle.meaning.specs.Like.{is_like}

-- ---- faults

-- the code of an arithmetic fault in answers and refusals
abbrev pub code_of : Fault → ℕ
code_of Overflow = 1
code_of DivisionByZero = 2

-- the third fault, which only a final sum has
abbrev pub sum_out_of_range : ℕ
sum_out_of_range = 3

-- ---- which operand counts first
-- An operand of the wrong sort, which typing rules out, reads as NULL or UNKNOWN.

abbrev pub value_of : Outcome → Value
value_of (gives.Value v) = v
value_of _ = Null

abbrev pub truth_of : Outcome → Truth
truth_of (gives.Truth t) = t
truth_of _ = Unknown

-- the fault, else f of the value
abbrev pub on_value : (Value → Outcome) → Outcome → Outcome
on_value f (gives.Fault e) = gives.Fault e
on_value f a = f (value_of a)

-- the left's fault, else the right's, else f of both values
abbrev pub on_values : (Value → Value → Outcome) → Outcome → Outcome → Outcome
on_values f (gives.Fault e) b = gives.Fault e
on_values f a (gives.Fault e) = gives.Fault e
on_values f a b = f (value_of a) (value_of b)

-- ---- truth

-- the fault, else NOT
abbrev pub not_of : Outcome → Outcome
not_of (gives.Fault e) = gives.Fault e
not_of a = gives.Truth (not3 (truth_of a))

-- the left's fault; FALSE if the left is FALSE; else the right's fault; else AND
abbrev pub and_of : Outcome → Outcome → Outcome
and_of (gives.Fault e) b = gives.Fault e
and_of (gives.Truth False) b = gives.Truth False
and_of a (gives.Fault e) = gives.Fault e
and_of a b = gives.Truth (and3 (truth_of a) (truth_of b))

-- the left's fault; TRUE if the left is TRUE; else the right's fault; else OR
abbrev pub or_of : Outcome → Outcome → Outcome
or_of (gives.Fault e) b = gives.Fault e
or_of (gives.Truth True) b = gives.Truth True
or_of a (gives.Fault e) = gives.Fault e
or_of a b = gives.Truth (or3 (truth_of a) (truth_of b))

-- NOT IN, NOT BETWEEN, NOT LIKE and IS NOT NULL are the NOT of the others
abbrev pub not_if : Bool → Outcome → Outcome
not_if negated a = if negated then not_of a else a

-- ---- integers

-- 64 bits hold it
abbrev pub fits_i64 : ℤ → Bool
fits_i64 (pos n) = nat_lt n (2 ^ 63)
fits_i64 (negsuc n) = nat_lt n (2 ^ 63)

-- the integer, or fault 1 where there is none
abbrev pub or_overflow : Option ℤ → Outcome
or_overflow (Some n) = gives.Value (Int n)
or_overflow None = gives.Fault Overflow

-- the integer, or fault 1 outside 64 bits
abbrev pub fitted : ℤ → Outcome
fitted n = or_overflow (if fits_i64 n then Some n else None)

abbrev pub of_integers : ArithmeticOperator → ℤ → ℤ → Outcome
of_integers Add m n = fitted (m +ℤ n)
of_integers Subtract m n = fitted (m -ℤ n)
of_integers Multiply m n = fitted (m *ℤ n)
of_integers Divide m n = if int_eq n (pos 0) then gives.Fault DivisionByZero else fitted (int_div m n)

-- NULL where an operand is NULL
abbrev pub arith_values : ArithmeticOperator → Value → Value → Outcome
arith_values op (Int m) (Int n) = of_integers op m n
arith_values op _ _ = gives.Value Null

abbrev pub minus_value : Value → Outcome
minus_value (Int n) = fitted (neg_ℤ n)
minus_value _ = gives.Value Null

abbrev pub arith_of : ArithmeticOperator → Outcome → Outcome → Outcome
arith_of op = on_values (arith_values op)

abbrev pub minus_of : Outcome → Outcome
minus_of = on_value minus_value

-- ---- tests of values

abbrev pub test : ComparisonOperator → Ordering → Bool
test Equal = is_eq
test NotEqual = is_ne
test Less = is_lt
test LessOrEqual = is_le
test Greater = is_gt
test GreaterOrEqual = is_ge

-- UNKNOWN where an operand is NULL
abbrev pub compared : ComparisonOperator → Value → Value → Truth
compared op Null y = Unknown
compared op x Null = Unknown
compared op x y = known (test op (value_cmp x y))

abbrev pub compare_values : ComparisonOperator → Value → Value → Outcome
compare_values op x y = gives.Truth (compared op x y)

abbrev pub is_null_value : Value → Outcome
is_null_value Null = gives.Truth True
is_null_value _ = gives.Truth False

abbrev pub like_value : List ℕ → Value → Outcome
like_value pattern (Text t) = gives.Truth (known (is_like pattern t))
like_value pattern _ = gives.Truth Unknown

abbrev pub compare_of : ComparisonOperator → Outcome → Outcome → Outcome
compare_of op = on_values (compare_values op)

-- x BETWEEN a AND b is x >= a AND x <= b
abbrev pub between_of : Outcome → Outcome → Outcome → Outcome
between_of x a b = and_of (compare_of GreaterOrEqual x a) (compare_of LessOrEqual x b)

-- x IN (a, b) is x = a OR x = b
abbrev pub one_of : Outcome → List Outcome → Outcome
one_of x [] = gives.Truth False
one_of x (a ∷ more) = or_of (compare_of Equal x a) (one_of x more)

abbrev pub is_null_of : Outcome → Outcome
is_null_of = on_value is_null_value

abbrev pub like_of : List ℕ → Outcome → Outcome
like_of pattern = on_value (like_value pattern)

-- ---- choices

-- COALESCE (a, b): the first that isn't NULL
abbrev pub coalesce_of : Outcome → Outcome → Outcome
coalesce_of (gives.Value Null) b = b
coalesce_of a b = a

abbrev pub first_of : List Outcome → Outcome
first_of [] = gives.Value Null
first_of (a ∷ more) = coalesce_of a (first_of more)

-- CASE WHEN c THEN a ELSE b END: the fault of c; a if c is TRUE; else b
abbrev pub case_of : Outcome → Outcome → Outcome → Outcome
case_of (gives.Fault e) a b = gives.Fault e
case_of (gives.Truth True) a b = a
case_of c a b = b

abbrev pub cases_of : List (Outcome × Outcome) → Outcome → Outcome
cases_of [] b = b
cases_of (arm ∷ more) b = case_of arm.0 arm.1 (cases_of more b)
