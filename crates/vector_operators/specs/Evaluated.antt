-- What lanes are of what is meant at each position, and which fault is held.
use Rattle.std.specs.Prelude.{◌≡◌, ℕ, ◌<◌, ◌⊎◌, nat_lt, true, if◌then◌else◌, Option, Some, None, List, [], ◌∷◌, get_or}
use Rattle.meaning.specs.declared.value.Value.TheVariants.{Null}
use Rattle.meaning.specs.declared.outcome.Fault.{Fault}
use Rattle.meaning.specs.declared.outcome.Outcome.{Outcome}
use Rattle.meaning.specs.declared.outcome.Outcome.TheVariants as gives
use Rattle.vectors.specs.Selection.{Positions, is_among}
use Rattle.vectors.specs.Vector.{outcomes_of}
use Rattle.vectors.specs.declared.vector.Vector.{Vector}
use Rattle.vector_operators.specs.declared.fault.Faulted.{Faulted}

-- the least fault so far, with its position
abbrev pub Held : Type 0
Held = Option Faulted

-- the position lies before the fault that is held, or none is held
abbrev pub IsBefore : ℕ → Held → Type 0
IsBefore i None = Unit {0}
IsBefore i (Some f) = i < f.position

-- what a vector's lane gives there
abbrev pub lane_of : Vector → ℕ → Outcome
lane_of v i = get_or (outcomes_of v) i (gives.Value Null)

-- ---- the least fault

-- the fault that is met there, or what comes behind
abbrev pub fault_at : ℕ → Outcome → Held → Held
fault_at p (gives.Fault f) behind = Some (record { position = p; fault = f })
fault_at p (gives.Value v) behind = behind
fault_at p (gives.Truth t) behind = behind

-- the first of the positions at which there is a fault, and that fault
abbrev pub first_fault : (ℕ → Outcome) → List ℕ → Held
first_fault meant [] = None
first_fault meant (p ∷ ps) = fault_at p (meant p) (first_fault meant ps)

-- what is held behind one fault more: it replaces the one that is held only at a strictly smaller position
abbrev pub noted : Held → Held → Held
noted held None = held
noted None (Some f) = Some f
noted (Some h) (Some f) = if nat_lt f.position h.position then Some f else Some h

-- ---- evaluation

-- the fault of the least selected position that has one is noted; each selected lane before the fault that is then held is
-- what is meant there, and lanes past it are open
pub record IsEvaluated (meant : ℕ → Outcome) (positions : List ℕ) (held new : Held) (lanes : ℕ → Outcome) : Type 0 where
  pub least : new ≡ noted held (first_fault meant positions)
  pub exact : (i : ℕ) → is_among positions i ≡ true → IsBefore i new → lanes i ≡ meant i

-- the position is selected, and lies below the length
abbrev pub IsWithin : Positions → ℕ → Type 0
IsWithin s i = (i < s.below) × (is_among s.list i ≡ true)

-- ---- the same, in a form in which one evaluation follows another

-- the new fault is that of a selected position before the one that was held
pub record Finds (meant : ℕ → Outcome) (Selected : ℕ → Type 0) (held new : Held) : Type 0 where
  pub position : ℕ
  pub fault : Fault
  pub is_new : new ≡ Some (record { position = position; fault = fault })
  pub is_selected : Selected position
  pub is_before : IsBefore position held
  pub is_meant : meant position ≡ gives.Fault fault

-- each selected lane before the new fault is what is meant there, and that fault is the old one or one that is found
pub record Evaluates (meant : ℕ → Outcome) (Selected : ℕ → Type 0) (held new : Held) (lanes : ℕ → Outcome) : Type 0 where
  pub exact : (i : ℕ) → Selected i → IsBefore i new → lanes i ≡ meant i
  pub origin : (new ≡ held) ⊎ Finds meant Selected held new
