-- Positions at which a condition is TRUE.
use Rattle.std.proofs.Common.{◌≡◌, ℕ, zero, suc, Bool, true, false, cond, ◌&&◌, List, [], ◌∷◌, get_or, map, filter, refl, ap, sym, ◌∙◌}
use Rattle.std.proofs.lemmas.Bool.{and_parts}
use Rattle.meaning.specs.declared.value.Value.{Value}
use Rattle.meaning.specs.declared.value.Value.TheVariants.{Null}
use Rattle.meaning.specs.declared.outcome.Outcome.{Outcome}
use Rattle.meaning.specs.declared.outcome.Outcome.TheVariants as gives
use Rattle.vectors.specs.declared.vector.Vector.{Vector}
use Rattle.vectors.specs.Selection.{is_among}
use Rattle.vectors.proofs.Ascending.{among_filter}
use Rattle.vector_operators.specs.Evaluated.{Evaluates, Held, IsBefore, lane_of}
use Rattle.vector_operators.specs.Given.{is_true_lane}
use Rattle.vector_operators.proofs.LaneValues.{lane_sound}
use Rattle.primitives.specs.Narrowed.{Narrows}

-- ---- lanes

pub value_dropped : (vs : List Value) (p : ℕ) → is_true_lane (get_or (map {A = Value} {B = Outcome} gives.Value vs) p (gives.Value Null)) ≡ false
value_dropped [] p = refl
value_dropped (v ∷ vs) zero = refl
value_dropped (v ∷ vs) (suc p) = value_dropped vs p

pub filter_as : (f g : ℕ → Bool) (xs : List ℕ) → ((p : ℕ) → f p ≡ g p) → filter f xs ≡ filter g xs
filter_as f g [] same = refl
filter_as f g (x ∷ xs) same =
    ap (λ b. cond b (x ∷ filter f xs) (filter f xs)) (same x) ∙ ap (λ (rest : List ℕ). cond (g x) (x ∷ rest) rest) (filter_as f g xs same)

-- ---- a condition

pub one_condition : (m : ℕ → Outcome) (old new : List ℕ) (held now : Held) (v : Vector) → Evaluates m (λ i. is_among old i ≡ true) held now (lane_of v)
    → new ≡ filter (λ p. is_true_lane (lane_of v p)) old → Narrows m old new held now
one_condition m old new held now v evaluated is = record {
  sound = λ i among before f faults. lane_sound v i f (evaluated.exact i among before ∙ faults);
  kept = λ i before. kept_at i before (is_among old i) refl;
  within = λ i among. (and_parts (is_among old i) (is_true_lane (lane_of v i)) (sym (filtered i) ∙ among)).0;
  origin = evaluated.origin;
}
  where
    filtered : (i : ℕ) → is_among new i ≡ (is_among old i && is_true_lane (lane_of v i))
    filtered i = ap (λ (xs : List ℕ). is_among xs i) is ∙ among_filter (λ p. is_true_lane (lane_of v p)) old i

    kept_at : (i : ℕ) → IsBefore i now → (b : Bool) → is_among old i ≡ b → is_among new i ≡ (is_among old i && is_true_lane (m i))
    kept_at i before true among = filtered i ∙ ap (λ (o : Outcome). is_among old i && is_true_lane o) (evaluated.exact i among before)
    kept_at i before false among = filtered i ∙ rw among refl
