-- The lanes of a vector, one by one.
use Rattle.std.specs.Prelude.{◌≡◌, ℕ, zero, suc, ◌+◌, ◌<◌, Bool, true, false, List, [], ◌∷◌, length, get_or}
use Rattle.std.proofs.Common.{refl, sym, ap, arith, ◌∙◌}
use Rattle.std.proofs.lemmas.List.{length-replicate}
use Rattle.meaning.specs.declared.value.Value.{Value}
use Rattle.meaning.specs.declared.value.Value.TheVariants.{Null}
use Rattle.vectors.specs.declared.nulls.Nulls.{Nulls}
use Rattle.vectors.specs.declared.nulls.Nulls.TheVariants as null
use Rattle.vectors.specs.Lanes.{AreLanes, lane_value, lane_values, nulls_of}

module _ {X : Type 0} (value : X → Value) where
  pub lanes_long : (nulls : List Bool) (cells : List X) → length nulls ≡ length cells → length (lane_values value nulls cells) ≡ length cells
  lanes_long [] [] same = refl
  lanes_long [] (x ∷ xs) same = absurd (omega (arith, same))
  lanes_long (b ∷ bs) [] same = absurd (omega (arith, same))
  lanes_long (b ∷ bs) (x ∷ xs) same = ap suc (lanes_long bs xs (omega (arith, same)))

  pub lane_at : (nulls : List Bool) (cells : List X) (i : ℕ) (d : X) → length nulls ≡ length cells → i < length cells
      → get_or (lane_values value nulls cells) i Null ≡ lane_value value (get_or nulls i false, get_or cells i d)
  lane_at [] [] i d same within = absurd (omega (arith, within))
  lane_at [] (x ∷ xs) i d same within = absurd (omega (arith, same))
  lane_at (b ∷ bs) [] i d same within = absurd (omega (arith, same))
  lane_at (b ∷ bs) (x ∷ xs) zero d same within = refl
  lane_at (b ∷ bs) (x ∷ xs) (suc i) d same within = lane_at bs xs i d (omega (arith, same)) (omega (arith, within))

-- the lane is marked NULL or not, however many lanes there are
pub marked_at : {X : Type 0} (cells : List X) (nulls : Nulls) (i : ℕ) → AreLanes cells nulls → i < length cells → i < length (nulls_of (i + 1) nulls)
marked_at cells null.None i are within = omega (arith, length-replicate (i + 1) false)
marked_at cells (null.Lent mask) i are within = omega (arith, are, within)
marked_at cells (null.Owned mask) i are within = omega (arith, are, within)

-- one lane of a vector
module _ {X : Type 0} (value : X → Value) (cells : List X) (nulls : Nulls) (lanes : List Value) (are : AreLanes cells nulls)
    (is : lane_values value (nulls_of (length cells) nulls) cells ≡ lanes) where
  abbrev marks : List Bool
  marks = nulls_of (length cells) nulls

  pub long : length cells ≡ length lanes
  long = sym (lanes_long value marks cells are) ∙ ap (λ (vs : List Value). length vs) is

  module _ (i : ℕ) (within : i < length lanes) where
    pub cell_within : i < length cells
    cell_within = omega (arith, long, within)

    pub null_marked : i < length (nulls_of (i + 1) nulls)
    null_marked = marked_at cells nulls i are cell_within

    at : (d : X) → get_or lanes i Null ≡ lane_value value (get_or marks i false, get_or cells i d)
    at d = ap (λ (vs : List Value). get_or vs i Null) (sym is) ∙ lane_at value marks cells i d are cell_within

    pub null_lane : (d : X) → true ≡ get_or marks i false → Null ≡ get_or lanes i Null
    null_lane d e = ap (λ (b : Bool). lane_value value (b, get_or cells i d)) e ∙ sym (at d)

    pub value_lane : (d : X) → false ≡ get_or marks i false → value (get_or cells i d) ≡ get_or lanes i Null
    value_lane d e = ap (λ (b : Bool). lane_value value (b, get_or cells i d)) e ∙ sym (at d)
