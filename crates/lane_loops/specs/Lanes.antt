-- What loops over lanes compute, lane by lane.
use Rattle.std.specs.Prelude.{◌≡◌, ℕ, ◌<◌, ◌==◌, ℤ, pos, int_div, Bool, false, not, if◌then◌else◌, List, [], map, length, get_or}
use Rattle.std.specs.Borrow.{Bor}
use Rattle.std.specs.Int.{from_bool}
use Rattle.std.specs.Ordering.{nat_cmp}
use Rattle.std.specs.Cmp.Lexicographic.{slice_cmp}
use Rattle.meaning.specs.declared.outcome.Truth.{Truth}
use Rattle.meaning.specs.declared.outcome.Truth.TheVariants.{Unknown}
use Rattle.meaning.specs.declared.outcome.Outcome.{Outcome}
use Rattle.meaning.specs.declared.outcome.Outcome.TheVariants as gives
use Rattle.meaning.specs.declared.expr.ComparisonOperator.{ComparisonOperator}
use Rattle.meaning.specs.declared.expr.ArithmeticOperator.TheVariants.{Divide}
use Rattle.meaning.specs.Truth.{is_true, known, not3}
use Rattle.meaning.specs.Like.{is_like}
use Rattle.meaning.specs.Operators.{test, code_of, of_integers}
pub use Rattle.lane_kernels.specs.Lanes.{AreLanes, AreFilled, int_at, compared_bit, compared_to_bit, overflow_bit}

-- so many lanes, each what is meant there where the premise holds; elsewhere it is open
pub record AreLanesWhere {X : Type 0} (blank : X) (n : ℕ) (Premise : ℕ → Type 0) (meant : ℕ → X) (lanes : List X) : Type 0 where
  pub long : length lanes ≡ n
  pub each : (i : ℕ) → i < n → Premise i → get_or lanes i blank ≡ meant i

-- each lane at one of the positions is what is meant there; the others are open
abbrev pub AreLanesAt : {X : Type 0} → X → List ℕ → (ℕ → X) → List X → Type 0
AreLanesAt blank positions meant lanes = (k : ℕ) → k < length positions → get_or lanes (get_or positions k 0) blank ≡ meant (get_or positions k 0)

-- the same where the premise holds
abbrev pub AreLanesAtWhere : {X : Type 0} → X → List ℕ → (ℕ → Type 0) → (ℕ → X) → List X → Type 0
AreLanesAtWhere blank positions Premise meant lanes = (k : ℕ) → k < length positions → Premise (get_or positions k 0) → get_or lanes (get_or positions k 0) blank ≡ meant (get_or positions k 0)

-- the truth of a lane
abbrev pub truth_at : List Truth → ℕ → Truth
truth_at truths i = get_or truths i Unknown

-- the truth of a lane isn't FALSE
abbrev pub not_false_at : List Truth → ℕ → Bool
not_false_at truths i = not (is_true (not3 (truth_at truths i)))

-- the truth of a lane isn't TRUE
abbrev pub not_true_at : List Truth → ℕ → Bool
not_true_at truths i = not (is_true (truth_at truths i))

-- ---- texts

-- the text of a lane
abbrev pub text_at : List (Bor (List ℕ)) → ℕ → List ℕ
text_at texts i = get_or (map (λ t. t.now) texts) i []

-- 1 where the comparison of the bytes holds, else 0
abbrev pub compared_text_bit : ComparisonOperator → List (Bor (List ℕ)) → List (Bor (List ℕ)) → ℕ → ℕ
compared_text_bit op left right i = from_bool (test op (slice_cmp nat_cmp (text_at left i) (text_at right i)))

-- the same against one text
abbrev pub compared_text_to_bit : ComparisonOperator → List (Bor (List ℕ)) → List ℕ → ℕ → ℕ
compared_text_to_bit op left right i = from_bool (test op (slice_cmp nat_cmp (text_at left i) right))

-- 1 where the text is like the pattern, else 0
abbrev pub like_bit : List ℕ → List (Bor (List ℕ)) → ℕ → ℕ
like_bit pattern texts i = from_bool (is_like pattern (text_at texts i))

-- ---- faults

-- the fault's code, or 0 where there is none
abbrev pub fault_code : Outcome → ℕ
fault_code (gives.Fault f) = code_of f
fault_code _ = 0

-- the quotient, or the dividend where there is none
abbrev pub quotient : ℤ → ℤ → ℤ
quotient m n = if fault_code (of_integers Divide m n) == 0 then int_div m n else m

abbrev pub is_flag : ℕ → Bool
is_flag flag = not (flag == 0)

-- the lane has a flag
abbrev pub is_flagged : List ℕ → ℕ → Bool
is_flagged flags i = is_flag (get_or flags i 0)

-- the lane is NULL
abbrev pub null_at : List Bool → ℕ → Bool
null_at nulls i = get_or nulls i false

-- the lane's flag, or 0 where the lane is NULL
abbrev pub cleared_flag : List Bool → List ℕ → ℕ → ℕ
cleared_flag nulls flags i = if null_at nulls i then 0 else get_or flags i 0

-- the lane's flag, or 0 where the mask doesn't mark the lane
abbrev pub kept_flag : List Bool → List ℕ → ℕ → ℕ
kept_flag mask flags i = if get_or mask i false then get_or flags i 0 else 0

-- ---- choices

abbrev pub chosen_lane : {X : Type 0} → X → List Bool → List X → List X → ℕ → X
chosen_lane blank mask these those i = if get_or mask i false then get_or these i blank else get_or those i blank

-- each lane is that of the first list where the mask marks it, else that of the second
pub record AreChosen {X : Type 0} (n : ℕ) (mask : List Bool) (these those lanes : List X) : Type 0 where
  pub long : length lanes ≡ n
  pub each : (i : ℕ) (blank : X) → i < n → get_or lanes i blank ≡ chosen_lane blank mask these those i

-- TRUE where the bit isn't 0, else FALSE
abbrev pub truth_of_bit : List ℕ → ℕ → Truth
truth_of_bit bits i = known (is_flagged bits i)

-- UNKNOWN where the lane is NULL, else the truth of the bit
abbrev pub truth_or_unknown : List Bool → List ℕ → ℕ → Truth
truth_or_unknown nulls bits i = if null_at nulls i then Unknown else truth_of_bit bits i
