-- Where a condition is tested.
use Rattle.std.specs.Prelude.{ℕ, ◌≤◌, List, length, take, slice_get, All, IfSome}
use Rattle.meaning.specs.declared.expr.Expr.{Expr}
use Rattle.pushdown.specs.FactColumn.{StandsOn}
use Rattle.pushdown.specs.Pushdown.{IsFirstDimension, IsOfNoDimension}
use Rattle.explain.specs.declared.placing.Place.{Place}
use Rattle.explain.specs.declared.placing.Place.TheVariants as place

-- the first dimension that the condition can be pushed down to; else the column of the fact that it stands on
abbrev pub IsPlaceOf : ℕ → Expr → Place → Type 0
IsPlaceOf joins condition (place.Dimension join) = IsFirstDimension joins condition join
IsPlaceOf joins condition (place.Blocks column) = StandsOn column condition × IsOfNoDimension joins condition
IsPlaceOf joins condition place.Rows = ((column : ℕ) → StandsOn column condition → ⊥) × IsOfNoDimension joins condition

-- the condition is tested on a dimension
abbrev pub IsAhead : ℕ → Expr → Type 0
IsAhead joins condition = (join : ℕ) × IsFirstDimension joins condition join

-- so many conditions are tested on dimensions before the first that isn't
pub record AreAhead (joins : ℕ) (conditions : List Expr) (count : ℕ) : Type 0 where
  pub within : count ≤ length conditions
  pub ahead : All (IsAhead joins) (take count conditions)
  pub next : IfSome (slice_get conditions count) (IsOfNoDimension joins)
