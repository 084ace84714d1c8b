-- Expressions on rows of the table sales (id, s, q, p, t), computed from the definitions.
use Rattle.std.proofs.Common.{rules, ◌≡◌, ℤ, pos, negsuc, true, false, List, [], ◌∷◌, map, replicate, codes, refl}
use Rattle.meaning.specs.declared.value.Value.{Value}
use Rattle.meaning.specs.declared.value.Value.TheVariants.{Null, Int, Text}
use Rattle.meaning.specs.declared.outcome.Truth.TheVariants.{True, False, Unknown}
use Rattle.meaning.specs.declared.outcome.Fault.TheVariants.{Overflow, DivisionByZero}
use Rattle.meaning.specs.declared.outcome.Outcome.TheVariants as gives
use Rattle.meaning.specs.declared.outcome.Truth.{Truth}
use Rattle.std.specs.declared.cmp.Ordering.TheVariants as ordering
use Rattle.meaning.specs.Truth.{not3, and3, or3}
use Rattle.meaning.specs.Operators.{compared}
use Rattle.meaning.specs.declared.expr.ArithmeticOperator.TheVariants.{Add, Subtract, Divide, Multiply}
use Rattle.meaning.specs.declared.expr.ComparisonOperator.TheVariants.{Equal, NotEqual, Less, LessOrEqual, Greater, GreaterOrEqual}
use Rattle.meaning.specs.declared.expr.Expr.{Expr}
use Rattle.meaning.specs.declared.expr.Expr.TheVariants.{Column, Literal, Minus, Arithmetic, Compare, Joined, Key, Aggregate, Not, And, Or, IsNull, Between, In, Coalesce, Case}
use Rattle.meaning.specs.declared.expr.Expr.TheFolds.{the_lemmas}
use Rattle.meaning.specs.Order.{Row, value_cmp}
use Rattle.meaning.specs.declared.joined_row.JoinedRow.{JoinedRow}
use Rattle.meaning.specs.Expr.{eval, outcomes}
use Rattle.meaning.proofs.Evaluation.{evaluation}

abbrev fact : Row → JoinedRow
fact row = record { fact = row; joins = []; key = []; aggregates = [] }

-- (2, 10, NULL, 7, b)
abbrev row_1 : JoinedRow
row_1 = fact (Int (pos 2) ∷ Int (pos 10) ∷ Null ∷ Int (pos 7) ∷ Text (codes "b") ∷ [])

-- (3, 20, 0, 9, a)
abbrev row_2 : JoinedRow
row_2 = fact (Int (pos 3) ∷ Int (pos 20) ∷ Int (pos 0) ∷ Int (pos 9) ∷ Text (codes "a") ∷ [])

-- (5, 30, 1, greatest, a)
abbrev row_4 : JoinedRow
row_4 = fact (Int (pos 5) ∷ Int (pos 30) ∷ Int (pos 1) ∷ Int (pos 9223372036854775807) ∷ Text (codes "a") ∷ [])

abbrev q : Expr
q = Column 2

abbrev p : Expr
p = Column 3

abbrev t : Expr
t = Column 4

abbrev int : ℤ → Expr
int n = Literal (Int n)

-- 1 / 0
abbrev divided : Expr
divided = Arithmetic Divide (int (pos 1)) (int (pos 0))

-- 1 / 0 = 1
abbrev faulty : Expr
faulty = Compare Equal divided (int (pos 1))

-- NOT (q = 2) where q is NULL
not_null : eval (Not (Compare Equal q (int (pos 2)))) row_1 ≡ gives.Truth Unknown
not_null = search (rules, the_lemmas)

not_zero : eval (Not (Compare Equal q (int (pos 2)))) row_2 ≡ gives.Truth True
not_zero = search (rules, the_lemmas)

-- division rounds towards zero
seven_halves : eval (Arithmetic Divide p (int (pos 2))) row_1 ≡ gives.Value (Int (pos 3))
seven_halves = search (rules, the_lemmas)

minus_seven_halves : eval (Arithmetic Divide (Minus p) (int (pos 2))) row_1 ≡ gives.Value (Int (negsuc 2))
minus_seven_halves = search (rules, the_lemmas)

-- p / q
divided_by_null : eval (Arithmetic Divide p q) row_1 ≡ gives.Value Null
divided_by_null = search (rules, the_lemmas)

divided_by_zero : eval (Arithmetic Divide p q) row_2 ≡ gives.Fault DivisionByZero
divided_by_zero = search (rules, the_lemmas)

-- NULL / 0
null_by_zero : eval (Arithmetic Divide q (int (pos 0))) row_1 ≡ gives.Value Null
null_by_zero = search (rules, the_lemmas)

-- p * 2 where p is the greatest integer
doubled : eval (Arithmetic Multiply p (int (pos 2))) row_4 ≡ gives.Fault Overflow
doubled = search (rules, the_lemmas)

-- the least integer, negated and divided by -1
least_negated : eval (Minus (int (negsuc 9223372036854775807))) row_4 ≡ gives.Fault Overflow
least_negated = search (rules, the_lemmas)

least_divided : eval (Arithmetic Divide (int (negsuc 9223372036854775807)) (int (negsuc 0))) row_4
    ≡ gives.Fault Overflow
least_divided = search (rules, the_lemmas)

-- FALSE AND 1 / 0 = 1, UNKNOWN AND 1 / 0 = 1, TRUE OR 1 / 0 = 1
false_and_fault : eval (And (Compare Equal p (int (pos 8))) faulty) row_1 ≡ gives.Truth False
false_and_fault = search (rules, the_lemmas)

unknown_and_fault : eval (And (Compare Equal q (int (pos 2))) faulty) row_1 ≡ gives.Fault DivisionByZero
unknown_and_fault = search (rules, the_lemmas)

true_or_fault : eval (Or (Compare Equal p (int (pos 7))) faulty) row_1 ≡ gives.Truth True
true_or_fault = search (rules, the_lemmas)

-- the left's fault comes before the right's
left_first : eval (Arithmetic Add (Arithmetic Multiply p (int (pos 2))) (Arithmetic Divide p (int (pos 0)))) row_4
    ≡ gives.Fault Overflow
left_first = search (rules, the_lemmas)

-- p BETWEEN 8 AND q, where q is NULL: p >= 8 is FALSE
between_null : eval (Between false p (int (pos 8)) q) row_1 ≡ gives.Truth False
between_null = search (rules, the_lemmas)

-- p IN (q, 7), p IN (q, 8), p IN (7, 1 / 0)
in_null : eval (In false p (q ∷ int (pos 7) ∷ [])) row_1 ≡ gives.Truth True
in_null = search (rules, the_lemmas)

not_in_null : eval (In true p (q ∷ int (pos 8) ∷ [])) row_1 ≡ gives.Truth Unknown
not_in_null = search (rules, the_lemmas)

in_stops : eval (In false p (int (pos 7) ∷ Arithmetic Divide p (int (pos 0)) ∷ [])) row_1 ≡ gives.Truth True
in_stops = search (rules, the_lemmas)

-- COALESCE (q, p, 1 / 0)
coalesce_stops : eval (Coalesce (q ∷ p ∷ Arithmetic Divide p (int (pos 0)) ∷ [])) row_1 ≡ gives.Value (Int (pos 7))
coalesce_stops = search (rules, the_lemmas)

-- CASE WHEN q <> 0 THEN p / q ELSE 0 END
case_else : eval (Case (record { when = Compare NotEqual q (int (pos 0)); then = Arithmetic Divide p q } ∷ [])
    (int (pos 0))) row_2 ≡ gives.Value (Int (pos 0))
case_else = search (rules, the_lemmas)

-- ---- three-valued truth

abbrev truths : List Truth
truths = False ∷ Unknown ∷ True ∷ []

table_of_not : map not3 truths ≡ True ∷ Unknown ∷ False ∷ []
table_of_not = refl

table_of_and : map (λ l. map (and3 l) truths) truths
    ≡ (False ∷ False ∷ False ∷ []) ∷ (False ∷ Unknown ∷ Unknown ∷ []) ∷ (False ∷ Unknown ∷ True ∷ []) ∷ []
table_of_and = refl

table_of_or : map (λ l. map (or3 l) truths) truths
    ≡ (False ∷ Unknown ∷ True ∷ []) ∷ (Unknown ∷ Unknown ∷ True ∷ []) ∷ (True ∷ True ∷ True ∷ []) ∷ []
table_of_or = refl

-- ---- comparisons

-- each operator on less, equal and greater
table_of_tests : map (λ op. map (λ n. compared op (Int (pos n)) (Int (pos 2))) (1 ∷ 2 ∷ 3 ∷ []))
    (Equal ∷ NotEqual ∷ Less ∷ LessOrEqual ∷ Greater ∷ GreaterOrEqual ∷ [])
    ≡ (False ∷ True ∷ False ∷ [])
    ∷ (True ∷ False ∷ True ∷ [])
    ∷ (True ∷ False ∷ False ∷ [])
    ∷ (True ∷ True ∷ False ∷ [])
    ∷ (False ∷ False ∷ True ∷ [])
    ∷ (False ∷ True ∷ True ∷ [])
    ∷ []
table_of_tests = refl

-- NULL on either side, and on both
compared_with_null : map (λ op. compared op Null (Int (pos 1)) ∷ compared op (Int (pos 1)) Null ∷ compared op Null Null
    ∷ []) (Equal ∷ NotEqual ∷ LessOrEqual ∷ [])
    ≡ (Unknown ∷ Unknown ∷ Unknown ∷ []) ∷ (Unknown ∷ Unknown ∷ Unknown ∷ []) ∷ (Unknown ∷ Unknown ∷ Unknown ∷ []) ∷ []
compared_with_null = refl

-- integers by number, texts by their bytes: '' < 'a' < 'ab' < 'b' < 'é', 'Z' < 'a'
whole_order : map (λ (p : Value × Value). value_cmp p.0 p.1)
    ((Null, Int (negsuc 9)) ∷ (Int (negsuc 9), Int (negsuc 1)) ∷ (Int (negsuc 1), Int (pos 0)) ∷ (Int (pos 9), Text [])
    ∷ (Text [], Text (codes "a")) ∷ (Text (codes "a"), Text (codes "ab")) ∷ (Text (codes "ab"), Text (codes "b"))
    ∷ (Text (codes "b"), Text (195 ∷ 169 ∷ [])) ∷ (Text (codes "Z"), Text (codes "a")) ∷ [])
    ≡ replicate 9 ordering.Less
whole_order = refl

-- (p * 2 = 1 / 0) where p is the greatest integer
compared_left_first : eval (Compare Equal (Arithmetic Multiply p (int (pos 2))) divided) row_4 ≡ gives.Fault Overflow
compared_left_first = simp evaluation

-- q = 1 / 0 where q is NULL
null_with_fault : eval (Compare Equal q divided) row_1 ≡ gives.Fault DivisionByZero
null_with_fault = simp evaluation

-- ---- arithmetic

-- 7 - 9, 7 + 9, 7 * 9, -7 / 2, 7 / -2
differences : eval (Arithmetic Subtract p (int (pos 9))) row_1 ≡ gives.Value (Int (negsuc 1))
differences = simp evaluation

sums : eval (Arithmetic Add p (int (pos 9))) row_1 ≡ gives.Value (Int (pos 16))
sums = simp evaluation

products : eval (Arithmetic Multiply p (int (negsuc 8))) row_1 ≡ gives.Value (Int (negsuc 62))
products = simp evaluation

seven_by_minus_two : eval (Arithmetic Divide p (int (negsuc 1))) row_1 ≡ gives.Value (Int (negsuc 2))
seven_by_minus_two = simp evaluation

-- NULL on the left, on the right, and under a minus
null_and_number : eval (Arithmetic Add q p) row_1 ≡ gives.Value Null
null_and_number = simp evaluation

number_and_null : eval (Arithmetic Multiply p q) row_1 ≡ gives.Value Null
number_and_null = simp evaluation

minus_null : eval (Minus q) row_1 ≡ gives.Value Null
minus_null = simp evaluation

-- NULL + 1 / 0: a fault comes before NULL
null_and_fault : eval (Arithmetic Add q divided) row_1 ≡ gives.Fault DivisionByZero
null_and_fault = simp evaluation

-- the limits of 64 bits, from both sides
greatest_sum : eval (Arithmetic Add (int (pos 9223372036854775806)) (int (pos 1))) row_1
    ≡ gives.Value (Int (pos 9223372036854775807))
greatest_sum = simp evaluation

sum_past_the_greatest : eval (Arithmetic Add p (int (pos 1))) row_4 ≡ gives.Fault Overflow
sum_past_the_greatest = simp evaluation

least_difference : eval (Arithmetic Subtract (Minus p) (int (pos 1))) row_4
    ≡ gives.Value (Int (negsuc 9223372036854775807))
least_difference = simp evaluation

difference_past_the_least : eval (Arithmetic Subtract (Minus p) (int (pos 2))) row_4 ≡ gives.Fault Overflow
difference_past_the_least = simp evaluation

-- ---- AND, OR, NOT

-- NOT (1 / 0 = 1)
not_fault : eval (Not faulty) row_1 ≡ gives.Fault DivisionByZero
not_fault = simp evaluation

-- 1 / 0 = 1 AND FALSE, 1 / 0 = 1 OR TRUE
fault_and_false : eval (And faulty (Compare Equal p (int (pos 8)))) row_1 ≡ gives.Fault DivisionByZero
fault_and_false = simp evaluation

fault_or_true : eval (Or faulty (Compare Equal p (int (pos 7)))) row_1 ≡ gives.Fault DivisionByZero
fault_or_true = simp evaluation

-- TRUE AND 1 / 0 = 1, FALSE OR 1 / 0 = 1, UNKNOWN OR 1 / 0 = 1
true_and_fault : eval (And (Compare Equal p (int (pos 7))) faulty) row_1 ≡ gives.Fault DivisionByZero
true_and_fault = simp evaluation

false_or_fault : eval (Or (Compare Equal p (int (pos 8))) faulty) row_1 ≡ gives.Fault DivisionByZero
false_or_fault = simp evaluation

unknown_or_fault : eval (Or (Compare Equal q (int (pos 2))) faulty) row_1 ≡ gives.Fault DivisionByZero
unknown_or_fault = simp evaluation

-- UNKNOWN AND FALSE, UNKNOWN OR TRUE
unknown_and_false : eval (And (Compare Equal q (int (pos 2))) (Compare Equal p (int (pos 8)))) row_1 ≡ gives.Truth False
unknown_and_false = simp evaluation

unknown_or_true : eval (Or (Compare Equal q (int (pos 2))) (Compare Equal p (int (pos 7)))) row_1 ≡ gives.Truth True
unknown_or_true = simp evaluation

-- ---- IS NULL, BETWEEN, IN

-- q IS NULL, q IS NOT NULL, '' IS NULL, 1 / 0 IS NULL
null_is_null : eval (IsNull false q) row_1 ≡ gives.Truth True
null_is_null = simp evaluation

null_is_not_null : eval (IsNull true q) row_1 ≡ gives.Truth False
null_is_not_null = simp evaluation

zero_is_not_null : eval (IsNull true q) row_2 ≡ gives.Truth True
zero_is_not_null = simp evaluation

empty_is_null : eval (IsNull false (Literal (Text []))) row_1 ≡ gives.Truth False
empty_is_null = simp evaluation

fault_is_null : eval (IsNull false divided) row_1 ≡ gives.Fault DivisionByZero
fault_is_null = simp evaluation

-- p BETWEEN 7 AND 7, p BETWEEN 8 AND 6, p NOT BETWEEN 8 AND 9
between_its_bounds : eval (Between false p (int (pos 7)) (int (pos 7))) row_1 ≡ gives.Truth True
between_its_bounds = simp evaluation

between_turned : eval (Between false p (int (pos 8)) (int (pos 6))) row_1 ≡ gives.Truth False
between_turned = simp evaluation

not_between : eval (Between true p (int (pos 8)) (int (pos 9))) row_1 ≡ gives.Truth True
not_between = simp evaluation

-- p BETWEEN 8 AND 1 / 0: p >= 8 is FALSE; p BETWEEN q AND 1 / 0: p >= q is UNKNOWN
between_stops : eval (Between false p (int (pos 8)) divided) row_1 ≡ gives.Truth False
between_stops = simp evaluation

between_goes_on : eval (Between false p q divided) row_1 ≡ gives.Fault DivisionByZero
between_goes_on = simp evaluation

-- 5 BETWEEN p * 2 AND 1 / 0, where p is the greatest integer
between_low_first : eval (Between false (int (pos 5)) (Arithmetic Multiply p (int (pos 2))) divided) row_4
    ≡ gives.Fault Overflow
between_low_first = simp evaluation

-- q IN (7, 8), q NOT IN (7, 8), p IN (8, 9), p NOT IN (7, q), where q is NULL
null_in : eval (In false q (int (pos 7) ∷ int (pos 8) ∷ [])) row_1 ≡ gives.Truth Unknown
null_in = simp evaluation

null_not_in : eval (In true q (int (pos 7) ∷ int (pos 8) ∷ [])) row_1 ≡ gives.Truth Unknown
null_not_in = simp evaluation

in_none : eval (In false p (int (pos 8) ∷ int (pos 9) ∷ [])) row_1 ≡ gives.Truth False
in_none = simp evaluation

not_in_one : eval (In true p (int (pos 7) ∷ q ∷ [])) row_1 ≡ gives.Truth False
not_in_one = simp evaluation

-- q IN (7, 1 / 0), p IN (q, 1 / 0), p IN (1 / 0, 7)
null_in_fault : eval (In false q (int (pos 7) ∷ divided ∷ [])) row_1 ≡ gives.Fault DivisionByZero
null_in_fault = simp evaluation

in_goes_on : eval (In false p (q ∷ divided ∷ [])) row_1 ≡ gives.Fault DivisionByZero
in_goes_on = simp evaluation

in_fault_first : eval (In false p (divided ∷ int (pos 7) ∷ [])) row_1 ≡ gives.Fault DivisionByZero
in_fault_first = simp evaluation

-- ---- COALESCE and CASE

-- COALESCE (q, q), COALESCE (1 / 0, p), COALESCE (q, 1 / 0)
coalesce_of_nulls : eval (Coalesce (q ∷ q ∷ [])) row_1 ≡ gives.Value Null
coalesce_of_nulls = simp evaluation

coalesce_fault : eval (Coalesce (divided ∷ p ∷ [])) row_1 ≡ gives.Fault DivisionByZero
coalesce_fault = simp evaluation

coalesce_goes_on : eval (Coalesce (q ∷ divided ∷ [])) row_1 ≡ gives.Fault DivisionByZero
coalesce_goes_on = simp evaluation

-- CASE WHEN q = 2 THEN 1 WHEN p = 7 THEN 2 WHEN p = 7 THEN 3 ELSE 1 / 0 END: the first that is TRUE
case_first_true : eval (Case (record { when = Compare Equal q (int (pos 2)); then = int (pos 1) }
    ∷ record { when = Compare Equal p (int (pos 7)); then = int (pos 2) }
    ∷ record { when = Compare Equal p (int (pos 7)); then = int (pos 3) } ∷ []) divided) row_1
    ≡ gives.Value (Int (pos 2))
case_first_true = simp evaluation

-- CASE WHEN p = 7 THEN 1 WHEN 1 / 0 = 1 THEN 2 END: no condition behind the first that is TRUE
case_stops : eval (Case (record { when = Compare Equal p (int (pos 7)); then = int (pos 1) }
    ∷ record { when = faulty; then = int (pos 2) } ∷ []) (Literal Null)) row_1 ≡ gives.Value (Int (pos 1))
case_stops = simp evaluation

-- CASE WHEN 1 / 0 = 1 THEN 1 ELSE 2 END, WHEN p = 7 THEN 1 / 0, ELSE 1 / 0
case_fault_of_when : eval (Case (record { when = faulty; then = int (pos 1) } ∷ []) (int (pos 2))) row_1
    ≡ gives.Fault DivisionByZero
case_fault_of_when = simp evaluation

case_fault_of_then : eval (Case (record { when = Compare Equal p (int (pos 7)); then = divided } ∷ [])
    (int (pos 2))) row_1 ≡ gives.Fault DivisionByZero
case_fault_of_then = simp evaluation

case_fault_of_else : eval (Case
    (record { when = Compare Equal p (int (pos 8)); then = int (pos 1) } ∷ []) divided) row_1
    ≡ gives.Fault DivisionByZero
case_fault_of_else = simp evaluation

-- ---- what is read

-- a join's row, a group's key and aggregate, and NULL past the end
abbrev joined : JoinedRow
joined = record {
  fact = [];
  joins = (Int (pos 1) ∷ Int (pos 2) ∷ []) ∷ (Int (pos 3) ∷ Int (pos 4) ∷ []) ∷ [];
  key =
      Int (pos 5) ∷ Int (pos 6) ∷ [];
  aggregates = Int (pos 7) ∷ Int (pos 8) ∷ [];
}

what_is_read : outcomes (Joined 1 0 ∷ Joined 0 1 ∷ Key 1 ∷ Aggregate 0 ∷ Column 0 ∷ Joined 2 0 ∷ Key 2 ∷ []) joined
    ≡ map (λ v. gives.Value v) (Int (pos 3) ∷ Int (pos 2) ∷ Int (pos 6) ∷ Int (pos 7) ∷ Null ∷ Null ∷ Null ∷ [])
what_is_read = simp evaluation
