-- Lanes that are evaluated.
use Rattle.std.specs.Prelude.{◌≡◌, ℕ, ◌<◌, Bool, true, false, List, filter, length, get_or, Option, Some, None}
use Rattle.std.specs.List.{range_with_len}
use Rattle.vectors.specs.Selection.{Positions}
use Rattle.vector_operators.specs.declared.lane_set.Marks.{Marks}
use Rattle.vector_operators.specs.declared.lane_set.Marks.TheVariants as marks

-- the mask, unless all lanes are marked
abbrev pub mask_in : Marks → Option (List Bool)
mask_in marks.All = None
mask_in (marks.Marked mask) = Some mask.items

-- the lane is marked
abbrev pub marked : Option (List Bool) → ℕ → Bool
marked None i = true
marked (Some mask) i = get_or mask i false

-- the lanes below a number that are marked
abbrev pub lanes_in : ℕ → Option (List Bool) → Positions
lanes_in n mask = record { below = n; list = filter (marked mask) (range_with_len 0 n) }

-- a mark for each lane
abbrev pub AreMarks : ℕ → Option (List Bool) → Type 0
AreMarks n None = Unit {0}
AreMarks n (Some mask) = length mask ≡ n

-- so many marks, each what is meant there
pub record MarkWhere (n : ℕ) (test : ℕ → Bool) (mask : Option (List Bool)) : Type 0 where
  pub long : AreMarks n mask
  pub each : (i : ℕ) → i < n → marked mask i ≡ test i
