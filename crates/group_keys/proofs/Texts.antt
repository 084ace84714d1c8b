-- Texts that are keys alone.
use Rattle.std.specs.Prelude.{◌≡◌, ℕ, ◌<◌, true, List, [], ◌∷◌, length, map, get_or, All, None}
use Rattle.std.specs.Borrow.{Bor}
use Rattle.std.specs.Str.{is_utf8}
use Rattle.std.proofs.Common.{refl, sym, ap, subst, ◌∙◌}
use Rattle.std.proofs.lemmas.List.{length-map, get_or-map}
use Rattle.meaning.specs.declared.value.Value.{Value}
use Rattle.meaning.specs.declared.value.Value.TheVariants.{Null, Text}
use Rattle.vectors.specs.declared.nulls.Nulls.{Nulls}
use Rattle.vectors.specs.declared.texts.TextCells.{TextCells}
use Rattle.vectors.specs.declared.vector.Vector.{Vector}
use Rattle.vectors.specs.Lanes.{mask_of, text_lanes, texts_of}
use Rattle.aggregate_states.specs.Values.{is_spelled, selected}
use Rattle.vectors.specs.Vector.{values_of}
use Rattle.vectors.proofs.PlainLanes.{without_mask}
use Rattle.group_keys.specs.Rows.{rows_at, text_keys}
use Rattle.group_keys.proofs.KeyRows.{one_column, one_lane}

abbrev pub read : List (Bor (List ℕ)) → List (List ℕ)
read texts = map (λ t. t.now) texts

-- what a vector of texts is made of, where no lane is NULL
pub texts_are : (cells : TextCells) (nulls : Nulls) (texts : List (Bor (List ℕ))) (lanes : List Value) → lanes ≡ text_lanes cells nulls → texts_of cells ≡ read texts → None ≡ mask_of nulls → map Text (read texts) ≡ lanes
texts_are cells nulls texts lanes is same none = ap (map Text) (sym same) ∙ without_mask Text (texts_of cells) nulls (sym none) ∙ sym is

keys_of_texts : (texts : List (Bor (List ℕ))) → text_keys texts ≡ map (λ (x : Value). x ∷ []) (map Text (read texts))
keys_of_texts [] = refl
keys_of_texts (t ∷ texts) = λ i. (Text t.now ∷ []) ∷ keys_of_texts texts i

-- one column's texts are the keys alone
pub text_rows : (lanes : List Vector) (d : Vector) (list : List ℕ) (texts : List (Bor (List ℕ))) → length lanes ≡ 1
    → map Text (read texts) ≡ selected (values_of (get_or lanes 0 d)) list → text_keys texts ≡ rows_at lanes list
text_rows lanes d list texts one are =
    keys_of_texts texts ∙ ap (map (λ (x : Value). x ∷ [])) are ∙ sym (one_column (get_or lanes 0 d) list) ∙ ap (λ (vs : List Vector). rows_at vs list) (sym (one_lane lanes d one))

pub text_key_at : (texts : List (Bor (List ℕ))) (k : ℕ) (d : Bor (List ℕ)) → k < length texts → get_or (text_keys texts) k [] ≡ Text (get_or texts k d).now ∷ []
text_key_at texts k d here = get_or-map (λ (t : Bor (List ℕ)). Text t.now ∷ []) texts k d [] here

pub text_keys_long : (texts : List (Bor (List ℕ))) → length (text_keys texts) ≡ length texts
text_keys_long texts = length-map texts (λ (t : Bor (List ℕ)). Text t.now ∷ [])

-- texts whose values are spelled are UTF-8
pub texts_spelled : (texts : List (Bor (List ℕ))) (values : List Value) → map Text (read texts) ≡ values → All (λ v. is_spelled v ≡ true) values → All (λ t. is_utf8 t.now ≡ true) texts
texts_spelled texts values are all k d within =
    let long : length (read texts) ≡ length texts = length-map texts (λ (t : Bor (List ℕ)). t.now) in
    let in_read : k < length (read texts) = subst (λ (n : ℕ). k < n) (sym long) within in
    let in_values : k < length values = subst (λ (n : ℕ). k < n) (sym (length-map (read texts) Text) ∙ ap (λ (vs : List Value). length vs) are) in_read in
    let is : get_or values k Null ≡ Text (get_or texts k d).now =
    ap (λ (vs : List Value). get_or vs k Null) (sym are) ∙ get_or-map Text (read texts) k [] Null in_read ∙ ap Text (get_or-map (λ (t : Bor (List ℕ)). t.now) texts k d [] within) in
    subst (λ (v : Value). is_spelled v ≡ true) is (all k Null in_values)
