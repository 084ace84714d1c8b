-- Entries as lanes.
use Rattle.std.proofs.Common.{◌≡◌, ℕ, ◌+◌, ◌<◌, ℤ, Bool, true, List, [], ◌∷◌, ◌++◌, length, get_or, map, zip, refl, ap, sym, ◌∙◌, zero-add}
use Rattle.std.specs.List.{list_all}
use Rattle.std.proofs.lemmas.Bool.{and_parts}
use Rattle.std.proofs.lemmas.List.{length-map, map-append}
use Rattle.std.proofs.lemmas.List.FromFn.{get_or-map-range_with_len, length-map-range_with_len, map-range_with_len_more}
use Rattle.meaning.specs.declared.outcome.Outcome.TheVariants as gives
use Rattle.meaning.specs.declared.value.ColType.TheVariants as of_type
use Rattle.meaning.specs.declared.value.Value.{Value}
use Rattle.meaning.specs.declared.value.Value.TheVariants.{Null, Int, Text}
use Rattle.meaning.specs.Order.{bytes, is_null, number}
use Rattle.meaning.specs.Typing.{is_of_type}
use Rattle.vectors.specs.Lanes.{lane_value, lane_values}
use Rattle.block_predicates.specs.Entries.{lanes_of}

-- ---- so many lanes

-- one lane more
pub lanes_more : {X : Type 0} (f : Value → X) (vs : List Value) (n : ℕ) → map f (lanes_of vs (n + 1)) ≡ map f (lanes_of vs n) ++ f (get_or vs n Null) ∷ []
lanes_more f vs n =
    ap (map f) (map-range_with_len_more (λ i. get_or vs i Null) 0 n n (zero-add n))
    ∙ map-append f (lanes_of vs n) (get_or vs n Null ∷ [])

pub lanes_long : (vs : List Value) (n : ℕ) → length (lanes_of vs n) ≡ n
lanes_long vs n = length-map-range_with_len (λ i. get_or vs i Null) 0 n

pub lane_is : (vs : List Value) (n i : ℕ) (d : Value) → i < n → get_or (lanes_of vs n) i d ≡ get_or vs i Null
lane_is vs n i d lt = get_or-map-range_with_len (λ i. get_or vs i Null) 0 n i i d lt (zero-add i)

-- ---- cells and marks of NULL

ints_again : (vs : List Value) → list_all (is_of_type of_type.Int) vs ≡ true → map (lane_value Int) (zip (map is_null vs) (map number vs)) ≡ vs
ints_again [] e = refl
ints_again (Null ∷ vs) e = ap (λ (ws : List Value). Null ∷ ws) (ints_again vs (and_parts (is_of_type of_type.Int Null) (list_all (is_of_type of_type.Int) vs) e).1)
ints_again (Int n ∷ vs) e = ap (λ (ws : List Value). Int n ∷ ws) (ints_again vs (and_parts (is_of_type of_type.Int (Int n)) (list_all (is_of_type of_type.Int) vs) e).1)
ints_again (Text t ∷ vs) e = absurd cc

texts_again : (vs : List Value) → list_all (is_of_type of_type.Text) vs ≡ true → map (lane_value Text) (zip (map is_null vs) (map bytes vs)) ≡ vs
texts_again [] e = refl
texts_again (Null ∷ vs) e = ap (λ (ws : List Value). Null ∷ ws) (texts_again vs (and_parts (is_of_type of_type.Text Null) (list_all (is_of_type of_type.Text) vs) e).1)
texts_again (Text t ∷ vs) e = ap (λ (ws : List Value). Text t ∷ ws) (texts_again vs (and_parts (is_of_type of_type.Text (Text t)) (list_all (is_of_type of_type.Text) vs) e).1)
texts_again (Int n ∷ vs) e = absurd cc

pub int_lanes_are : (vs : List Value) (nulls : List Bool) (cells : List ℤ) → list_all (is_of_type of_type.Int) vs ≡ true → nulls ≡ map is_null vs → cells ≡ map number vs → map gives.Value (lane_values Int nulls cells) ≡ map gives.Value vs
int_lanes_are vs nulls cells typed marks numbers =
    ap (map gives.Value) (ap (λ (ns : List Bool). lane_values Int ns cells) marks ∙ ap (lane_values Int (map is_null vs)) numbers ∙ ints_again vs typed)

pub text_lanes_are : (vs : List Value) (nulls : List Bool) (cells : List (List ℕ)) → list_all (is_of_type of_type.Text) vs ≡ true → nulls ≡ map is_null vs → cells ≡ map bytes vs → map gives.Value (lane_values Text nulls cells) ≡ map gives.Value vs
text_lanes_are vs nulls cells typed marks texts =
    ap (map gives.Value) (ap (λ (ns : List Bool). lane_values Text ns cells) marks ∙ ap (lane_values Text (map is_null vs)) texts ∙ texts_again vs typed)

-- as many marks of NULL as cells
pub same_length : {X : Type 0} (f : Value → X) (vs : List Value) (nulls : List Bool) (cells : List X) → nulls ≡ map is_null vs → cells ≡ map f vs → length nulls ≡ length cells
same_length f vs nulls cells marks are =
    ap (λ (ns : List Bool). length ns) marks ∙ length-map vs is_null ∙ sym (ap length are ∙ length-map vs f)
