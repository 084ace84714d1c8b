-- Writing a state for each aggregate, in a loop.
use Rattle.std.proofs.Common.{◌≡◌, ℕ, zero, suc, ◌+◌, ◌≤◌, ◌<◌, List, [], ◌∷◌, ◌++◌, length, get_or, map, drop, refl, sym, ap, subst, ◌∙◌, append_assoc, arith}
use Rattle.std.proofs.Math.Seq.{drop-cons}
use Rattle.std.proofs.lemmas.List.{append-nil, drop_all}
use Rattle.meaning.specs.declared.answer.Statistics.{Statistics}
use Rattle.meaning.specs.declared.plan.Aggregate.{Aggregate}
use Rattle.answer_fields.specs.Ranges.{AreStates, IsState}
use Rattle.answer_fields.specs.Shape.{shape_of_aggregate}
use Rattle.partial_codec.specs.Spelling.{state_bytes, states_bytes}

module _ (aggs : List Aggregate) (states : List Statistics) where
  -- what is left to write behind the bytes that stand there
  pub record IsLeft (i : ℕ) (out all : List ℕ) : Type 0 where
    pub fits : AreStates (map shape_of_aggregate (drop i aggs)) (drop i states)
    pub bytes : out ++ states_bytes (map shape_of_aggregate (drop i aggs)) (drop i states) ≡ all

no_states : (n : ℕ) → drop {A = Statistics} n [] ≡ []
no_states zero = refl
no_states (suc n) = refl

-- there is a state for each aggregate that is left
enough : (aggs : List Aggregate) (states : List Statistics) (i : ℕ) → AreStates (map shape_of_aggregate (drop i aggs)) (drop i states) → i < length aggs → i < length states
enough [] states i fits lt = absurd (omega (arith, lt))
enough (a ∷ aggs) [] zero fits lt = absurd fits
enough (a ∷ aggs) (s ∷ states) zero fits lt = omega arith
enough (a ∷ aggs) [] (suc i) fits lt = absurd (omega (arith, enough aggs [] i (subst (λ (xs : List Statistics). AreStates (map shape_of_aggregate (drop i aggs)) xs) (sym (no_states i)) fits) (omega (arith, lt))))
enough (a ∷ aggs) (s ∷ states) (suc i) fits lt = let h = enough aggs states i fits (omega (arith, lt)) in omega (arith, h)

pub state_there : (aggs : List Aggregate) (states : List Statistics) (i : ℕ) (out all : List ℕ) → IsLeft aggs states i out all → i < length aggs → i < length states
state_there aggs states i out all left lt = enough aggs states i left.fits lt

module _ (aggs : List Aggregate) (states : List Statistics) (i : ℕ) (a : Aggregate) (s : Statistics) (out all : List ℕ) (left : IsLeft aggs states i out all) (lt : i < length aggs) where
  pub here : IsState (get_or aggs i a).kind (get_or states i s)
  here =
      let fits = subst (λ (xs : List Aggregate). AreStates (map shape_of_aggregate xs) (drop i states)) (drop-cons aggs i a lt) left.fits in
      (subst (λ (xs : List Statistics). AreStates (map shape_of_aggregate (get_or aggs i a ∷ drop (suc i) aggs)) xs) (drop-cons states i s (state_there aggs states i out all left lt)) fits).0

  others : AreStates (map shape_of_aggregate (drop (suc i) aggs)) (drop (suc i) states)
  others =
      let fits = subst (λ (xs : List Aggregate). AreStates (map shape_of_aggregate xs) (drop i states)) (drop-cons aggs i a lt) left.fits in
      (subst (λ (xs : List Statistics). AreStates (map shape_of_aggregate (get_or aggs i a ∷ drop (suc i) aggs)) xs) (drop-cons states i s (state_there aggs states i out all left lt)) fits).1

  first : states_bytes (map shape_of_aggregate (drop i aggs)) (drop i states) ≡ state_bytes (get_or aggs i a).kind (get_or states i s) ++ states_bytes (map shape_of_aggregate (drop (suc i) aggs)) (drop (suc i) states)
  unfolding states_bytes
  first = rw (drop-cons aggs i a lt, drop-cons states i s (state_there aggs states i out all left lt)) refl

  pub written : (more : List ℕ) → more ≡ out ++ state_bytes (get_or aggs i a).kind (get_or states i s) → IsLeft aggs states (i + 1) more all
  written more is =
      let next : suc i ≡ i + 1 = omega arith in
      subst (λ (n : ℕ). IsLeft aggs states n more all) next (record {
        fits = others;
        bytes = rw is (append_assoc out (state_bytes (get_or aggs i a).kind (get_or states i s)) (states_bytes (map shape_of_aggregate (drop (suc i) aggs)) (drop (suc i) states)) ∙ ap (λ (bs : List ℕ). out ++ bs) (sym first) ∙ left.bytes);
      })

pub all_written : (aggs : List Aggregate) (states : List Statistics) (i : ℕ) (out all : List ℕ) → IsLeft aggs states i out all → length aggs ≤ i → out ≡ all
unfolding states_bytes
all_written aggs states i out all left le =
    let none : states_bytes (map shape_of_aggregate (drop i aggs)) (drop i states) ≡ [] = rw (drop_all i aggs le) refl in
    sym (append-nil out) ∙ ap (λ (bs : List ℕ). out ++ bs) (sym none) ∙ left.bytes

pub all_left : (aggs : List Aggregate) (states : List Statistics) (out : List ℕ) → AreStates (map shape_of_aggregate aggs) states → IsLeft aggs states 0 out (out ++ states_bytes (map shape_of_aggregate aggs) states)
all_left aggs states out fits = record { fits = fits; bytes = refl }
