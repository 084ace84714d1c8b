-- Lanes from cells and NULLs.
use Rattle.std.specs.Prelude.{◌≡◌, ℕ, zero, suc, ◌<◌, Bool, true, false, List, [], ◌∷◌, map, length, replicate, get_or}
use Rattle.std.proofs.Common.{refl, sym, ap, arith, ◌∙◌}
use Rattle.std.proofs.lemmas.List.{length-replicate, get_or-replicate}
use Rattle.meaning.specs.declared.value.Value.{Value}
use Rattle.meaning.specs.declared.value.Value.TheVariants.{Null}
use Rattle.meaning.specs.declared.outcome.Outcome.{Outcome}
use Rattle.meaning.specs.declared.outcome.Outcome.TheVariants as gives
use Rattle.meaning.specs.Order.{is_null}
use Rattle.vectors.specs.declared.nulls.Nulls.{Nulls}
use Rattle.vectors.specs.Lanes.{AreLanes, lane_value, lane_values, nulls_of}
use Rattle.vectors.proofs.Lanes.{lanes_long, lane_at}
use Rattle.lane_loops.specs.Lanes as loops
use Rattle.vector_operators.specs.Broadcast.{AreParts}

module _ {X : Type 0} (value : X → Value) (present : (x : X) → is_null (value x) ≡ false) where
  pub null_returned : (b : Bool) (x : X) → is_null (lane_value value (b, x)) ≡ b
  null_returned true x = refl
  null_returned false x = present x

  module _ (blank : X) (cells : List X) (nulls : Nulls) (lanes : List Value) (are : AreLanes cells nulls)
      (is : lanes ≡ lane_values value (nulls_of (length cells) nulls) cells) where
    pub long : length lanes ≡ length cells
    long = ap (λ (vs : List Value). length vs) is ∙ lanes_long value (nulls_of (length cells) nulls) cells are

    pub nulls_long : length (nulls_of (length lanes) nulls) ≡ length lanes
    nulls_long = ap (λ (n : ℕ). length (nulls_of n nulls)) long ∙ are ∙ sym long

    pub each : (i : ℕ) → i < length lanes
        → get_or lanes i Null ≡ lane_value value (get_or (nulls_of (length lanes) nulls) i false, get_or cells i blank)
    each i within =
        ap (λ (vs : List Value). get_or vs i Null) is
        ∙ lane_at value (nulls_of (length cells) nulls) cells i blank are (omega (arith, long, within))
        ∙ ap (λ (n : ℕ). lane_value value (get_or (nulls_of n nulls) i false, get_or cells i blank)) (sym long)

    pub nulls_are : loops.AreLanes false (length lanes) (λ i. is_null (get_or lanes i Null)) (nulls_of (length lanes) nulls)
    nulls_are = record {
      long = nulls_long;
      each = λ i within. sym (ap (λ (v : Value). is_null v) (each i within) ∙ null_returned _ _);
    }

    pub are_parts : AreParts value blank lanes cells nulls
    are_parts = record { long = sym long; nulls_long = nulls_long; each = each }

  -- one value in each lane
  pub repeated_at : (blank x : X) (n i : ℕ) → i < n → get_or (lane_values value (replicate n false) (replicate n x)) i Null ≡ value x
  repeated_at blank x n i within =
      lane_at value (replicate n false) (replicate n x) i blank (length-replicate n false ∙ sym (length-replicate n x)) (omega (arith, within, length-replicate n x))
      ∙ ap (λ (b : Bool). lane_value value (b, get_or (replicate n x) i blank)) (get_or-replicate n i false false within)
      ∙ ap value (get_or-replicate n i x blank within)

  pub repeated_long : (b : Bool) (x : X) (n : ℕ) → length (lane_values value (replicate n b) (replicate n x)) ≡ n
  repeated_long b x n = lanes_long value (replicate n b) (replicate n x) (length-replicate n b ∙ sym (length-replicate n x)) ∙ length-replicate n x

  -- NULL in each lane, and past them
  pub null_at_all : (x : X) (n i : ℕ) → get_or (map gives.Value (lane_values value (replicate n true) (replicate n x))) i (gives.Value Null) ≡ gives.Value Null
  null_at_all x zero i = refl
  null_at_all x (suc n) zero = refl
  null_at_all x (suc n) (suc i) = null_at_all x n i

pub mapped_long : (values : List Value) → length (map {A = Value} {B = Outcome} gives.Value values) ≡ length values
mapped_long [] = refl
mapped_long (v ∷ vs) = ap suc (mapped_long vs)

pub map-replicate : {X Y : Type 0} (f : X → Y) (x : X) (n : ℕ) → map f (replicate n x) ≡ replicate n (f x)
map-replicate f x zero = refl
map-replicate f x (suc n) = ap (λ ys. f x ∷ ys) (map-replicate f x n)
