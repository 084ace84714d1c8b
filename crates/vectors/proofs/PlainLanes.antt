-- Lanes without NULL.
use Rattle.std.specs.Prelude.{◌≡◌, ℤ, false, List, [], ◌∷◌, length, map, replicate, None}
use Rattle.std.proofs.Common.{rules, refl, sym, ap, ◌∙◌}
use Rattle.meaning.specs.declared.value.Value.{Value}
use Rattle.meaning.specs.declared.value.Value.TheVariants.{Int}
use Rattle.vectors.specs.declared.nulls.Nulls.{Nulls}
use Rattle.vectors.specs.declared.nulls.Nulls.TheVariants as null
use Rattle.vectors.specs.Lanes.{int_lanes, ints_of, lane_values, mask_of, nulls_of}
use Rattle.vectors.specs.declared.ints.IntCells.{IntCells}

none_null : {X : Type 0} (value : X → Value) (cells : List X) → map value cells ≡ lane_values value (replicate (length cells) false) cells
none_null value [] = refl
none_null value (x ∷ cells) = λ i. value x ∷ none_null value cells i

pub without_mask : {X : Type 0} (value : X → Value) (cells : List X) (nulls : Nulls) → mask_of nulls ≡ None → map value cells ≡ lane_values value (nulls_of (length cells) nulls) cells
without_mask value cells null.None e = none_null value cells
without_mask value cells (null.Lent mask) e = absurd (search rules)
without_mask value cells (null.Owned mask) e = absurd (search rules)

-- what a vector of integers is made of, where no lane is NULL
pub plain_is : (cells : IntCells) (nulls : Nulls) (ints : List ℤ) (lanes : List Value) → lanes ≡ int_lanes cells nulls → ints_of cells ≡ ints → None ≡ mask_of nulls → map Int ints ≡ lanes
plain_is cells nulls ints lanes is same none = ap (map Int) (sym same) ∙ without_mask Int (ints_of cells) nulls (sym none) ∙ sym is
