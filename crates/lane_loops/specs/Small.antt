-- Arithmetic lane by lane: what an operator leaves in a lane, its code, and operands of which 64 bits hold the result.
use Rattle.std.specs.Prelude.{◌≡◌, ℕ, ◌<◌, ℤ, pos, negsuc, ◌+ℤ◌, ◌-ℤ◌, ◌*ℤ◌, ◌≤ℤ◌, List, length, get_or}
use Rattle.std.specs.Int.{int_wrap, w64}
use Rattle.meaning.specs.declared.expr.ArithmeticOperator.{ArithmeticOperator}
use Rattle.meaning.specs.declared.expr.ArithmeticOperator.TheVariants.{Add, Subtract, Multiply, Divide}
use Rattle.meaning.specs.Operators.{of_integers}
use Rattle.lane_loops.specs.Lanes.{fault_code, overflow_bit, quotient}

-- the code of the fault, or 0
abbrev pub arith_code : ArithmeticOperator → ℤ → ℤ → ℕ
arith_code Add m n = overflow_bit (m +ℤ n)
arith_code Subtract m n = overflow_bit (m -ℤ n)
arith_code Multiply m n = overflow_bit (m *ℤ n)
arith_code Divide m n = fault_code (of_integers Divide m n)

-- what stands in the lane
abbrev pub arith_int : ArithmeticOperator → ℤ → ℤ → ℤ
arith_int Add m n = int_wrap w64 (m +ℤ n)
arith_int Subtract m n = int_wrap w64 (m -ℤ n)
arith_int Multiply m n = int_wrap w64 (m *ℤ n)
arith_int Divide m n = quotient m n

-- it lies within 2 ^ 62 of zero
abbrev pub IsSmall : ℤ → Type 0
IsSmall n = (negsuc 4611686018427387903 ≤ℤ n) × (n ≤ℤ pos 4611686018427387903)

-- 32 bits hold it
abbrev pub IsShort : ℤ → Type 0
IsShort n = (negsuc 2147483647 ≤ℤ n) × (n ≤ℤ pos 2147483647)

-- so small that 64 bits hold the result. No quotient counts as small
abbrev pub AreSmall : ArithmeticOperator → ℤ → ℤ → Type 0
AreSmall Add m n = IsSmall m × IsSmall n
AreSmall Subtract m n = IsSmall m × IsSmall n
AreSmall Multiply m n = IsShort m × IsShort n
AreSmall Divide m n = ⊥

-- the bits of how far such operands are stay below it
abbrev pub limit_of : ArithmeticOperator → ℕ
limit_of Add = 9223372036854775808
limit_of Subtract = 9223372036854775808
limit_of Multiply = 4294967296
limit_of Divide = 0

-- the first `i` of so many lanes are the operator's results, none of which is a fault
pub record AreResults (op : ArithmeticOperator) (n i : ℕ) (left right : ℕ → ℤ) (lanes : List ℤ) : Type 0 where
  pub long : length lanes ≡ n
  pub each : (j : ℕ) → j < i → get_or lanes j (pos 0) ≡ arith_int op (left j) (right j)
  pub held : (j : ℕ) → j < i → arith_code op (left j) (right j) ≡ 0
