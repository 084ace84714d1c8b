-- Cells one by one, and which lanes of two operands are NULL.
use Rattle.std.specs.Prelude.{◌≡◌, ℕ, ◌<◌, ◌||◌, Bool, false, List, [], length, get_or}
use Rattle.std.specs.Int.{from_bool}
use Rattle.std.specs.Ordering.{nat_cmp}
use Rattle.std.specs.Cmp.Lexicographic.{slice_cmp}
use Rattle.meaning.specs.declared.expr.ComparisonOperator.{ComparisonOperator}
use Rattle.meaning.specs.Operators.{test}
use Rattle.meaning.specs.declared.value.Value.{Value}
use Rattle.meaning.specs.declared.value.Value.TheVariants.{Null}
use Rattle.vectors.specs.declared.nulls.Nulls.{Nulls}
use Rattle.vectors.specs.Lanes.{lane_value, nulls_of}
use Rattle.lane_loops.specs.Lanes.{null_at}
use Rattle.vector_operators.specs.declared.broadcast.Broadcast.{Broadcast}
use Rattle.vector_operators.specs.declared.broadcast.Broadcast.TheVariants as broadcast

abbrev pub broadcast_cells : {X : Type 0} → Broadcast X → List X
broadcast_cells (broadcast.Lent cells) = cells.now
broadcast_cells (broadcast.Owned cells) = cells.items

-- the cells of the lanes, and which of these are NULL
pub record AreParts {X : Type 0} (value : X → Value) (blank : X) (lanes : List Value) (cells : List X) (nulls : Nulls) : Type 0 where
  pub long : length cells ≡ length lanes
  pub nulls_long : length (nulls_of (length lanes) nulls) ≡ length lanes
  pub each : (i : ℕ) → i < length lanes → get_or lanes i Null ≡ lane_value value (null_at (nulls_of (length lanes) nulls) i, get_or cells i blank)

-- so many lanes, each NULL where it is in either
pub record AreEither (left right : List Bool) (lanes : ℕ) (nulls : Nulls) : Type 0 where
  pub long : length (nulls_of lanes nulls) ≡ lanes
  pub each : (i : ℕ) → i < lanes → null_at (nulls_of lanes nulls) i ≡ (null_at left i || null_at right i)

-- 1 where the comparison of the bytes holds, else 0
abbrev pub text_bit : ComparisonOperator → List (List ℕ) → List (List ℕ) → ℕ → ℕ
text_bit op left right i = from_bool (test op (slice_cmp nat_cmp (get_or left i []) (get_or right i [])))

-- no lane is, however many there are
abbrev pub IsNeverNull : Nulls → Type 0
IsNeverNull nulls = (lanes i : ℕ) → i < lanes → null_at (nulls_of lanes nulls) i ≡ false
