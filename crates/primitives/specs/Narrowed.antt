-- The positions that a condition keeps.
use Rattle.std.specs.Prelude.{◌≡◌, ◌≢◌, ◌⊎◌, ℕ, true, ◌&&◌, List}
use Rattle.meaning.specs.declared.outcome.Fault.{Fault}
use Rattle.meaning.specs.declared.outcome.Outcome.{Outcome}
use Rattle.meaning.specs.declared.outcome.Outcome.TheVariants as gives
use Rattle.vectors.specs.Selection.{is_among}
use Rattle.vector_operators.specs.Evaluated.{Finds, Held, IsBefore}
use Rattle.vector_operators.specs.Given.{is_true_lane}

-- of the old positions before the fault that is then held just those stay at which the condition is TRUE, and there it has no
-- fault; past it any of the old may stay. That fault is the one held before, or one found at an old position before it
pub record Narrows (condition : ℕ → Outcome) (old new : List ℕ) (held now : Held) : Type 0 where
  pub sound : (i : ℕ) → is_among old i ≡ true → IsBefore i now → (f : Fault) → condition i ≢ gives.Fault f
  pub kept : (i : ℕ) → IsBefore i now → is_among new i ≡ (is_among old i && is_true_lane (condition i))
  pub within : (i : ℕ) → is_among new i ≡ true → is_among old i ≡ true
  pub origin : (now ≡ held) ⊎ Finds condition (λ i. is_among old i ≡ true) held now
