-- Which rows conditions keep, and the fault of the least row at which one faults.
use Rattle.std.specs.Prelude.{◌≡◌, ℕ, true, ◌&&◌, List, [], ◌∷◌}
use Rattle.meaning.specs.declared.outcome.Truth.TheVariants.{True, False, Unknown}
use Rattle.meaning.specs.declared.outcome.Outcome.{Outcome}
use Rattle.meaning.specs.declared.outcome.Outcome.TheVariants as gives
use Rattle.meaning.specs.declared.expr.Expr.{Expr}
use Rattle.meaning.specs.declared.joined_row.JoinedRow.{JoinedRow}
use Rattle.meaning.specs.Expr.{eval}
use Rattle.meaning.specs.Judge.{Filtered, Passes, Drops, Faults}
use Rattle.meaning.specs.Operators.{code_of}
use Rattle.vectors.specs.Selection.{is_among}
use Rattle.vector_operators.specs.Evaluated.{Held, IsBefore, first_fault, noted}
use Rattle.vector_operators.specs.Given.{is_true_lane}
use Rattle.primitives.specs.Meant.{row_at}

-- TRUE goes on to the next condition; all else but a fault drops the row
abbrev pub behind : Outcome → Outcome → Outcome
behind (gives.Fault f) next = gives.Fault f
behind (gives.Truth True) next = next
behind (gives.Truth Unknown) next = gives.Truth False
behind (gives.Truth False) next = gives.Truth False
behind (gives.Value v) next = gives.Truth False

-- what conditions give of a row, from left to right: the fault that is met, TRUE where each is TRUE, else FALSE
abbrev pub conditions : List Expr → JoinedRow → Outcome
conditions [] row = gives.Truth True
conditions (c ∷ cs) row = behind (eval c row) (conditions cs row)

-- what becomes of the row
abbrev pub filter_of : Outcome → Filtered
filter_of (gives.Fault f) = Faults (code_of f)
filter_of (gives.Truth True) = Passes
filter_of (gives.Truth Unknown) = Drops
filter_of (gives.Truth False) = Drops
filter_of (gives.Value v) = Drops

-- what conditions give of the row at a position
abbrev pub conditions_at : List Expr → List JoinedRow → ℕ → Outcome
conditions_at cs rows i = conditions cs (row_at rows i)

-- the fault of the least position of the old that has one is noted; below the fault that is then held just those stay at
-- which all is TRUE, past it any of the old may stay
pub record Selects (meant : ℕ → Outcome) (old new : List ℕ) (held now : Held) : Type 0 where
  pub least : now ≡ noted held (first_fault meant old)
  pub kept : (i : ℕ) → IsBefore i now → is_among new i ≡ (is_among old i && is_true_lane (meant i))
  pub within : (i : ℕ) → is_among new i ≡ true → is_among old i ≡ true
