-- A layer by its word.
use Rattle.std.proofs.Common.{◌≡◌, ℕ, List, [], ◌∷◌, refl, ap, sym, get_or, ◌∙◌}
use Rattle.std.specs.Prelude.{Option, None, Some}
use Rattle.refusals.specs.Codes.{layer_of, word_of}
use Rattle.refusals.specs.declared.entries.Entry.{Entry}
use Rattle.refusals.specs.declared.layers.Layer.{Layer}
use Rattle.refusals.specs.declared.layers.Layer.TheVariants.{Catalog, Cut, Sql, Plan, Load, File, Work, Journal, Gather}
use Rattle.tools.specs.declared.explaining.Explanation.{Explanation}
use Rattle.tools.specs.declared.explaining.Explanation.TheVariants as explanation
use Rattle.tools.specs.Explained.{Explains, IsEntryOf}

layer_back : (layer : Layer) → layer_of (word_of layer) ≡ Some layer
layer_back Catalog = refl
layer_back Cut = refl
layer_back Sql = refl
layer_back Plan = refl
layer_back Load = refl
layer_back File = refl
layer_back Work = refl
layer_back Journal = refl
layer_back Gather = refl

first_of : (a b : List ℕ) → a ∷ [] ≡ b ∷ [] → a ≡ b
first_of a b same = ap (λ (ws : List (List ℕ)). get_or ws 0 []) same

-- the layer whose word is the only one
pub found_layer : (word : List ℕ) (layer : Layer) (found : Option Layer) → found ≡ layer_of word → word ∷ [] ≡ word_of layer ∷ [] → found ≡ Some layer
found_layer word layer found by same = by ∙ ap layer_of (first_of word (word_of layer) same) ∙ layer_back layer

no_such : {X : Type 0} (x : X) → None ≡ Some x → ⊥
no_such x same = cc

-- words that are no layer's and begin no line are explained by nothing
pub nothing_explains : (words : List (List ℕ)) (entry : Option Entry) → ((layer : Layer) → words ≡ word_of layer ∷ [] → ⊥)
    → (entry ≡ None → (e : Entry) → IsEntryOf words e → ⊥) → entry ≡ None → (found : Explanation) → Explains words found → ⊥
nothing_explains words entry no_layer no_entry none (explanation.Entry e) is = no_entry none e is
nothing_explains words entry no_layer no_entry none (explanation.Codes layer) is = no_layer layer is

-- no layer was found
pub none_found : (words : List (List ℕ)) (found : Option Layer) → ((layer : Layer) → words ≡ word_of layer ∷ [] → found ≡ Some layer) → found ≡ None → (layer : Layer) → words ≡ word_of layer ∷ [] → ⊥
none_found words found only none layer is = no_such layer (sym none ∙ only layer is)
