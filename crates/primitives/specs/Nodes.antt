-- What the nodes of an expression give, on the lanes on which they are evaluated.
use Rattle.std.specs.Prelude.{◌≡◌, ℕ, ◌<◌, ◌⊎◌, Bool, true, false, List}
use Rattle.meaning.specs.declared.value.ColType.{ColType}
use Rattle.meaning.specs.declared.outcome.Truth.TheVariants.{True, False, Unknown}
use Rattle.meaning.specs.declared.outcome.Outcome.{Outcome}
use Rattle.meaning.specs.declared.outcome.Outcome.TheVariants as gives
use Rattle.meaning.specs.declared.expr.Arm.{Arm}
use Rattle.meaning.specs.declared.expr.Expr.{Expr}
use Rattle.meaning.specs.declared.joined_row.JoinedRow.{JoinedRow}
use Rattle.meaning.specs.Operators.{one_of}
use Rattle.meaning.specs.Typing.{ExprType, RowTypes, Valued, Boolean}
use Rattle.vectors.specs.Selection.{Positions, is_among}
use Rattle.vectors.specs.Vector.{BatchSpec}
use Rattle.vectors.specs.declared.batch.BatchColumn.{BatchColumn}
use Rattle.vector_operators.specs.Evaluated.{Evaluates, Finds, Held, IsBefore, IsWithin}
use Rattle.primitives.specs.Fitting.{AreTypedRows, Fits}
use Rattle.primitives.specs.Meant.{meant_at}
use Rattle.vector_operators.specs.Given.{given_at, is_of_kind}
use Rattle.vector_operators.specs.declared.given.Given.{Given}

-- lanes of the type's kind, and what they are
pub record Gives (type : ExprType) (meant : ℕ → Outcome) (Selected : ℕ → Type 0) (held new : Held) (g : Given) : Type 0 where
  pub evaluates : Evaluates meant Selected held new (given_at g)
  pub kind : is_of_kind type g ≡ true

-- an expression's lanes, in a batch that it fits: of its type, and what it means
abbrev pub ExprGives : BatchSpec → Expr → (ℕ → Type 0) → Held → Held → Given → Type 0
ExprGives batch e S old new g = (types : RowTypes) (type : ExprType) (rows : List JoinedRow)
    → AreTypedRows types batch rows → Fits types batch.columns e type → Gives type (meant_at e rows) S old new g

-- the lanes are what is meant, on selected lanes before the fault that is held
abbrev pub IsExact : (ℕ → Outcome) → (ℕ → Type 0) → Held → (ℕ → Outcome) → Type 0
IsExact meant Selected held lanes = (i : ℕ) → Selected i → IsBefore i held → lanes i ≡ meant i

-- what lies before the new fault lies before the old one
abbrev pub IsNoLater : Held → Held → Type 0
IsNoLater old new = (i : ℕ) → IsBefore i new → IsBefore i old

-- selected, and the test passes
abbrev pub IsWhere : (ℕ → Bool) → Positions → ℕ → Type 0
IsWhere test s i = IsWithin s i × (test i ≡ true)

-- ---- IN

-- the subject's fault, else whether it is one of the list
abbrev pub one_of_subject : Outcome → List Outcome → Outcome
one_of_subject (gives.Fault e) list = gives.Fault e
one_of_subject (gives.Value v) list = one_of (gives.Value v) list
one_of_subject (gives.Truth t) list = one_of (gives.Truth t) list

-- ---- CASE

pub record FitsArm (types : RowTypes) (columns : List BatchColumn) (kind : ColType) (arm : Arm) : Type 0 where
  pub condition : Fits types columns arm.when Boolean
  pub value : Fits types columns arm.then (Valued kind)

-- neither a fault nor TRUE
abbrev pub IsPassedOver : Outcome → Type 0
IsPassedOver (gives.Fault e) = ⊥
IsPassedOver (gives.Truth True) = ⊥
IsPassedOver (gives.Truth False) = Unit {0}
IsPassedOver (gives.Truth Unknown) = Unit {0}
IsPassedOver (gives.Value v) = Unit {0}

-- the lanes that are left are those on which the condition is TRUE
pub record Passes (condition : ℕ → Outcome) (old new : Positions) (held now : Held) : Type 0 where
  pub stood : (i : ℕ) → IsWithin new i → IsWithin old i
  pub true_there : (i : ℕ) → IsWithin new i → IsBefore i now → condition i ≡ gives.Truth True
  pub passed_over : (i : ℕ) → IsWithin old i → IsBefore i now → is_among new.list i ≡ false → IsPassedOver (condition i)
  pub origin : (now ≡ held) ⊎ Finds condition (IsWithin old) held now

-- the arm takes the lanes on which its condition is TRUE, and gives its value there
pub record IsTaken (kind : ColType) (condition value : ℕ → Outcome) (old new : Positions) (held now : Held) (g : Given) : Type 0 where
  pub between : Held
  pub passes : Passes condition old new held between
  pub gives : Gives (Valued kind) value (IsWithin new) between now g

-- arms that were gone through: on the lanes that are left the rest decides, on the others it is decided
pub record Decides (kind : ColType) (meant rest : ℕ → Outcome) (Selected : ℕ → Type 0) (left : Positions) (held new : Held) (g : Given) : Type 0 where
  pub kind_is : is_of_kind (Valued kind) g ≡ true
  pub within : (i : ℕ) → IsWithin left i → Selected i
  pub below : (i : ℕ) → Selected i → i < left.below
  pub undecided : (i : ℕ) → IsWithin left i → IsBefore i new → meant i ≡ rest i
  pub decided : (i : ℕ) → Selected i → IsBefore i new → is_among left.list i ≡ false → given_at g i ≡ meant i
  pub origin : (new ≡ held) ⊎ Finds meant Selected held new
