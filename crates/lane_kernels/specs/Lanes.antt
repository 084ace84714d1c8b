-- What loops over lanes of integers compute, lane by lane.
use Rattle.std.specs.Prelude.{◌≡◌, ℕ, ◌<◌, ℤ, pos, not, List, length, get_or}
use Rattle.std.specs.Int.{from_bool}
use Rattle.std.specs.Ordering.{int_cmp}
use Rattle.meaning.specs.declared.expr.ComparisonOperator.{ComparisonOperator}
use Rattle.meaning.specs.Operators.{test, fits_i64}

-- so many lanes, each what is meant there
pub record AreLanes {X : Type 0} (blank : X) (n : ℕ) (meant : ℕ → X) (lanes : List X) : Type 0 where
  pub long : length lanes ≡ n
  pub each : (i : ℕ) → i < n → get_or lanes i blank ≡ meant i

-- the first `i` of so many lanes are what is meant there
pub record AreFilled {X : Type 0} (blank : X) (n i : ℕ) (meant : ℕ → X) (lanes : List X) : Type 0 where
  pub long : length lanes ≡ n
  pub each : (j : ℕ) → j < i → get_or lanes j blank ≡ meant j

-- the integer of a lane
abbrev pub int_at : List ℤ → ℕ → ℤ
int_at ints i = get_or ints i (pos 0)

-- 1 where the comparison holds, else 0
abbrev pub compared_bit : ComparisonOperator → List ℤ → List ℤ → ℕ → ℕ
compared_bit op left right i = from_bool (test op (int_cmp (int_at left i) (int_at right i)))

-- the same against one integer
abbrev pub compared_to_bit : ComparisonOperator → List ℤ → ℤ → ℕ → ℕ
compared_to_bit op left right i = from_bool (test op (int_cmp (int_at left i) right))

-- 1 where 64 bits don't hold the integer, else 0
abbrev pub overflow_bit : ℤ → ℕ
overflow_bit n = from_bool (not (fits_i64 n))
