-- Lanes that are chosen by a mask.
use Rattle.std.specs.Prelude.{◌≡◌, ℕ, ◌<◌, Bool, true, false, if◌then◌else◌, List, [], ◌∷◌, map, length, get_or}
use Rattle.std.proofs.Common.{refl, sym, ◌∙◌, ap, subst, arith}
use Rattle.std.proofs.lemmas.List.{get_or-map}
use Rattle.meaning.specs.declared.value.Value.{Value}
use Rattle.meaning.specs.declared.value.Value.TheVariants.{Null}
use Rattle.meaning.specs.declared.outcome.Outcome.TheVariants as gives
use Rattle.vectors.specs.declared.nulls.Nulls.{Nulls}
use Rattle.vectors.specs.Lanes.{lane_value, lane_values, nulls_of}
use Rattle.vectors.proofs.Lanes.{lane_at, lanes_long}
use Rattle.lane_loops.specs.Lanes.{AreChosen, AreLanes, null_at}
use Rattle.vector_operators.specs.declared.given.Given.{Given}
use Rattle.vector_operators.specs.Given.{AreGivenCells, AreChosenCells, AreChosenNulls, chosen_at, given_at, is_null_lane}

if_map : {X Y : Type 0} (f : X → Y) (b : Bool) (x y : X) → f (if b then x else y) ≡ (if b then f x else f y)
if_map f true x y = refl
if_map f false x y = refl

pub chosen_map : {X Y : Type 0} (f : X → Y) (e : Y) (n : ℕ) (mask : List Bool) (these those out : List X) → AreChosen n mask these those out
    → length these ≡ n → length those ≡ n
    → (i : ℕ) → i < n → get_or (map f out) i e ≡ (if get_or mask i false then get_or (map f these) i e else get_or (map f those) i e)
chosen_map f e n mask these those [] are tl ol i within = absurd (omega (arith, are.long, within))
chosen_map f e n mask these those (x ∷ xs) are tl ol i within =
    let inside : i < length (x ∷ xs) = subst (λ (k : ℕ). i < k) (sym are.long) within in
    let of_these = get_or-map f these i x e (subst (λ (k : ℕ). i < k) (sym tl) within) in
    let of_those = get_or-map f those i x e (subst (λ (k : ℕ). i < k) (sym ol) within) in
    get_or-map f (x ∷ xs) i x e inside ∙ ap f (are.each i x within) ∙ if_map f (get_or mask i false) (get_or these i x) (get_or those i x)
    ∙ (λ k. if get_or mask i false then sym of_these k else sym of_those k)

module _ {X : Type 0} (value : X → Value) (blank : X) (mask : List Bool) (these those : Given) where
  pub chosen_cells : (tc oc out : List X) → AreGivenCells value blank (length mask) these tc → AreGivenCells value blank (length mask) those oc
      → ((i : ℕ) → i < length mask → get_or out i blank ≡ (if get_or mask i false then get_or tc i blank else get_or oc i blank))
      → AreChosenCells value blank mask these those out
  chosen_cells tc oc out of_these of_those out_is i within =
      subst (λ (x : X). chosen_at mask these those i ≡ gives.Value (lane_value value (is_null_lane (chosen_at mask these those i), x))) (sym (out_is i within))
      (elim (null_at mask i) as (λ b. (if b then given_at these i else given_at those i)
      ≡ gives.Value (lane_value value (is_null_lane (if b then given_at these i else given_at those i), (if b then get_or tc i blank else get_or oc i blank)))) [
        | true ↦ of_these i within
        | false ↦ of_those i within
      ])

  module _ (cells : List X) (nulls : Nulls) (long : length cells ≡ length mask) (are : AreChosenNulls mask these those nulls) where
    returned : AreLanes false (length mask) (λ i. is_null_lane (chosen_at mask these those i)) (nulls_of (length cells) nulls)
    returned = subst (λ (n : ℕ). AreLanes false (length mask) (λ i. is_null_lane (chosen_at mask these those i)) (nulls_of n nulls)) (sym long) are

    pub chosen_fit : length (nulls_of (length cells) nulls) ≡ length cells
    chosen_fit = returned.long ∙ sym long

    module _ (lanes : List Value) (is : lanes ≡ lane_values value (nulls_of (length cells) nulls) cells) where
      pub chosen_lanes : AreChosenCells value blank mask these those cells → (i : ℕ) → i < length mask → gives.Value (get_or lanes i Null) ≡ chosen_at mask these those i
      chosen_lanes of_cells i within =
          ap gives.Value (ap (λ (vs : List Value). get_or vs i Null) is
          ∙ lane_at value (nulls_of (length cells) nulls) cells i blank chosen_fit (subst (λ (k : ℕ). i < k) (sym long) within)
          ∙ ap (λ (b : Bool). lane_value value (b, get_or cells i blank)) (returned.each i within))
          ∙ sym (of_cells i within)

      pub chosen_long : length lanes ≡ length mask
      chosen_long = ap (λ (vs : List Value). length vs) is ∙ lanes_long value (nulls_of (length cells) nulls) cells chosen_fit ∙ long
