-- What is selected where all lanes are.
use Rattle.std.specs.Prelude.{◌≡◌, ℕ, suc, ◌<◌, List, [], ◌∷◌, length, map, get_or}
use Rattle.std.specs.List.{range_with_len}
use Rattle.std.proofs.Common.{refl, sym, ap, arith, subst, ◌∙◌}
use Rattle.std.proofs.lemmas.List.{length-map}
use Rattle.std.proofs.lemmas.List.FromFn.{length-range_with_len, length-map-range_with_len, get_or-map-range_with_len}
use Rattle.meaning.specs.declared.value.Value.{Value}
use Rattle.meaning.specs.declared.value.Value.TheVariants.{Null}
use Rattle.vectors.specs.Selection.{Positions, all_below}
use Rattle.aggregate_states.specs.Values.{selected}

same_each : (d : Value) (xs ys : List Value) → length xs ≡ length ys → ((i : ℕ) → i < length xs → get_or xs i d ≡ get_or ys i d) → xs ≡ ys
same_each d [] [] long same = refl
same_each d [] (y ∷ ys) long same = absurd (omega (arith, long))
same_each d (x ∷ xs) [] long same = absurd (omega (arith, long))
same_each d (x ∷ xs) (y ∷ ys) long same = λ i. same 0 (omega arith) i ∷ same_each d xs ys (omega (arith, long)) (λ j l. same (suc j) (omega (arith, l))) i

-- where all lanes are selected, the selected values are the lanes'
pub all_selected : (values : List Value) (s : Positions) → s ≡ all_below s.below → length values ≡ s.below → selected values s.list ≡ values
all_selected values s all long =
    ap (λ (t : Positions). selected values t.list) all
    ∙ same_each Null (selected values (range_with_len 0 s.below)) values (length-map-range_with_len (λ (p : ℕ). get_or values p Null) 0 s.below ∙ sym long)
    (λ i l. get_or-map-range_with_len (λ (p : ℕ). get_or values p Null) 0 s.below i i Null (subst (λ (n : ℕ). i < n) (length-map-range_with_len (λ (p : ℕ). get_or values p Null) 0 s.below) l) (omega arith))

-- as many positions are selected as there are lanes
pub all_long : (values : List Value) (s : Positions) → s ≡ all_below s.below → length values ≡ s.below → length values ≡ length s.list
all_long values s all long = long ∙ sym (ap (λ (t : Positions). length t.list) all ∙ length-range_with_len 0 s.below)

-- plain cells, where all lanes are selected
pub plain_selected : {X : Type 0} (value : X → Value) (cells : List X) (values : List Value) (s : Positions) → map value cells ≡ values → s ≡ all_below s.below → length values ≡ s.below → map value cells ≡ selected values s.list
plain_selected value cells values s is all long = is ∙ sym (all_selected values s all long)

pub plain_long : {X : Type 0} (value : X → Value) (cells : List X) (values : List Value) (s : Positions) → map value cells ≡ values → s ≡ all_below s.below → length values ≡ s.below → length cells ≡ length s.list
plain_long value cells values s is all long = sym (length-map cells value) ∙ ap (λ (vs : List Value). length vs) is ∙ all_long values s all long
