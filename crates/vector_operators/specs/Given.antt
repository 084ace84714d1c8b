-- What a part of an expression gives in each lane.
use Rattle.std.specs.Prelude.{◌≡◌, ℕ, ◌<◌, ◌⊎◌, Bool, true, false, List, All, length, get_or, Option, Some, None, Result, Ok, Err, if◌then◌else◌}
use Rattle.std.specs.Str.{is_utf8}
use Rattle.meaning.specs.declared.value.ColType.TheVariants as of_type
use Rattle.meaning.specs.declared.value.Value.{Value}
use Rattle.meaning.specs.declared.value.Value.TheVariants.{Null, Int, Text}
use Rattle.meaning.specs.declared.outcome.Truth.TheVariants.{True, False, Unknown}
use Rattle.meaning.specs.declared.outcome.Outcome.{Outcome}
use Rattle.meaning.specs.declared.outcome.Outcome.TheVariants as gives
use Rattle.meaning.specs.Operators.{not_if, truth_of, value_of}
use Rattle.meaning.specs.Order.{is_null}
use Rattle.meaning.specs.Truth.{is_true}
use Rattle.meaning.specs.Typing.{ExprType, Valued, Boolean, is_valued}
use Rattle.vectors.specs.declared.vector.Vector.{Vector}
use Rattle.vectors.specs.declared.vector.Vector.TheVariants as vector
use Rattle.vectors.specs.declared.nulls.Nulls.{Nulls}
use Rattle.vectors.specs.Lanes.{lane_value, nulls_of}
use Rattle.vectors.specs.Selection.{Positions, is_among}
use Rattle.lane_loops.specs.Lanes.{AreLanes, null_at}
use Rattle.vectors.specs.Vector.{outcomes_of}
use Rattle.vector_operators.specs.Evaluated.{IsWithin}
use Rattle.vector_operators.specs.declared.given.Given.{Given}
use Rattle.vector_operators.specs.declared.given.Given.TheVariants as given

-- ---- lane by lane

abbrev pub given_at : Given → ℕ → Outcome
given_at given.Null i = gives.Value Null
given_at (given.Ints lanes) i = gives.Value (get_or lanes i Null)
given_at (given.Texts lanes) i = gives.Value (get_or lanes i Null)
given_at (given.Truths lanes) i = gives.Truth (get_or lanes i Unknown)

-- there are so many lanes, or NULL in each
abbrev pub IsLong : ℕ → Given → Type 0
IsLong n given.Null = Unit {0}
IsLong n (given.Ints lanes) = length lanes ≡ n
IsLong n (given.Texts lanes) = length lanes ≡ n
IsLong n (given.Truths lanes) = length lanes ≡ n

-- the same lanes, of values alone
abbrev pub given_of : Option Vector → Given
given_of None = given.Null
given_of (Some (vector.Ints lanes)) = given.Ints lanes
given_of (Some (vector.Texts lanes)) = given.Texts lanes
given_of (Some (vector.Truths lanes)) = given.Null

-- ---- kinds

-- lanes of the type's kind; NULL in each is of any type of values
abbrev pub is_of_kind : ExprType → Given → Bool
is_of_kind (Valued kind) given.Null = true
is_of_kind (Valued of_type.Int) (given.Ints lanes) = true
is_of_kind (Valued of_type.Text) (given.Texts lanes) = true
is_of_kind Boolean (given.Truths lanes) = true
is_of_kind (Valued of_type.Text) (given.Ints lanes) = false
is_of_kind (Valued of_type.Int) (given.Texts lanes) = false
is_of_kind (Valued kind) (given.Truths lanes) = false
is_of_kind Boolean given.Null = false
is_of_kind Boolean (given.Ints lanes) = false
is_of_kind Boolean (given.Texts lanes) = false

-- of which type the lanes of a vector are
abbrev pub type_of_lanes : Vector → ExprType
type_of_lanes (vector.Ints lanes) = Valued of_type.Int
type_of_lanes (vector.Texts lanes) = Valued of_type.Text
type_of_lanes (vector.Truths lanes) = Boolean

-- lanes of the type, or NULL in each, which is of any type of values
abbrev pub IsOfType : ExprType → Vector → Type 0
IsOfType type v = (type_of_lanes v ≡ type) ⊎ ((is_valued type ≡ true) × All (λ lane. lane ≡ gives.Value Null) (outcomes_of v))

-- of lanes that there are, those of NOT where it is negated
abbrev pub AreNegatedIf : {E : Type 0} → Bool → ℕ → Result Given E → Given → Type 0
AreNegatedIf negated n (Ok a) g = (i : ℕ) → i < n → given_at g i ≡ not_if negated (given_at a i)
AreNegatedIf negated n (Err e) g = ⊥

-- not integers beside texts
abbrev pub are_alike : Given → Given → Bool
are_alike (given.Ints l) (given.Texts r) = false
are_alike (given.Texts l) (given.Ints r) = false
are_alike given.Null b = true
are_alike (given.Truths l) b = true
are_alike (given.Ints l) given.Null = true
are_alike (given.Ints l) (given.Ints r) = true
are_alike (given.Ints l) (given.Truths r) = true
are_alike (given.Texts l) given.Null = true
are_alike (given.Texts l) (given.Texts r) = true
are_alike (given.Texts l) (given.Truths r) = true

-- ---- tests of lanes

-- a text is in UTF-8
abbrev pub IsSpelled : Value → Type 0
IsSpelled Null = Unit {0}
IsSpelled (Int n) = Unit {0}
IsSpelled (Text t) = is_utf8 t ≡ true

abbrev pub IsSpelledIn : Given → ℕ → Type 0
IsSpelledIn (given.Texts lanes) i = IsSpelled (get_or lanes i Null)
IsSpelledIn given.Null i = Unit {0}
IsSpelledIn (given.Ints lanes) i = Unit {0}
IsSpelledIn (given.Truths lanes) i = Unit {0}

-- NULL, as what is no value reads
abbrev pub is_null_lane : Outcome → Bool
is_null_lane o = is_null (value_of o)

-- what leaves the right of AND, and of OR, to be evaluated
abbrev pub is_not_false : Outcome → Bool
is_not_false (gives.Truth False) = false
is_not_false (gives.Truth Unknown) = true
is_not_false (gives.Truth True) = true
is_not_false (gives.Value v) = true
is_not_false (gives.Fault f) = true

abbrev pub is_not_true : Outcome → Bool
is_not_true (gives.Truth True) = false
is_not_true (gives.Truth Unknown) = true
is_not_true (gives.Truth False) = true
is_not_true (gives.Value v) = true
is_not_true (gives.Fault f) = true

abbrev pub is_true_lane : Outcome → Bool
is_true_lane o = is_true (truth_of o)

-- ---- lanes that are narrowed

-- of the old positions those at which the test passes
pub record AreNarrowed (test : ℕ → Bool) (old new : Positions) : Type 0 where
  pub below : new.below ≡ old.below
  pub stays : (i : ℕ) → IsWithin old i → test i ≡ true → IsWithin new i
  pub stood : (i : ℕ) → IsWithin new i → IsWithin old i × (test i ≡ true)

-- ---- lanes that are put together

-- the lanes of the first at the selected positions, elsewhere those of the second
abbrev pub ArePut : Positions → Given → Given → Given → Type 0
ArePut s these those g = (i : ℕ) → i < s.below → given_at g i ≡ (if is_among s.list i then given_at these i else given_at those i)

-- ---- cells of lanes

-- with which lanes are NULL, the cells are the lanes
abbrev pub AreCellsOf : {X : Type 0} → (X → Value) → X → List Value → List X → Type 0
AreCellsOf value blank lanes cells = (length cells ≡ length lanes)
    × ((i : ℕ) → i < length lanes → get_or lanes i Null ≡ lane_value value (is_null (get_or lanes i Null), get_or cells i blank))

abbrev pub AreGivenCells : {X : Type 0} → (X → Value) → X → ℕ → Given → List X → Type 0
AreGivenCells value blank n g cells = (i : ℕ) → i < n
    → given_at g i ≡ gives.Value (lane_value value (is_null_lane (given_at g i), get_or cells i blank))

-- the lane of the first where the mask marks it, else that of the second
abbrev pub chosen_at : List Bool → Given → Given → ℕ → Outcome
chosen_at mask these those i = if null_at mask i then given_at these i else given_at those i

abbrev pub AreChosenCells : {X : Type 0} → (X → Value) → X → List Bool → Given → Given → List X → Type 0
AreChosenCells value blank mask these those cells = (i : ℕ) → i < length mask
    → chosen_at mask these those i ≡ gives.Value (lane_value value (is_null_lane (chosen_at mask these those i), get_or cells i blank))

abbrev pub AreChosenLanes : List Bool → Given → Given → (ℕ → Outcome) → Type 0
AreChosenLanes mask these those lanes = (i : ℕ) → i < length mask → lanes i ≡ chosen_at mask these those i

-- so many lanes are given, each NULL where the lane chosen is
abbrev pub AreChosenNulls : List Bool → Given → Given → Nulls → Type 0
AreChosenNulls mask these those nulls = AreLanes false (length mask) (λ i. is_null_lane (chosen_at mask these those i)) (nulls_of (length mask) nulls)
