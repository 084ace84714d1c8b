-- The kinds and the numbers of rows of the fragments that were handed on.
use Rattle.std.proofs.Common.{◌≡◌, ◌∙◌, ℕ, List, [], ◌∷◌, ◌++◌, append_assoc, map, refl, sym, ap}
use Rattle.std.specs.Prelude.{◌≢◌, Option, None, Some}
use Rattle.std.proofs.lemmas.List.{append-nil, map-append}
use Rattle.meaning.specs.declared.catalog.Column.{Column}
use Rattle.columns.specs.Column.{ColumnSpec}
use Rattle.loader.specs.Columns.{AreFragmentsOf, AreRowsOf, Kind, declared_shape, shape_of}
use Rattle.loader.specs.Handing.{IsNextOf}

abbrev Shape : Type 0
Shape = List Kind × List ℕ

-- the fragments so far have the shapes that the cut says, up to those that are still to come
abbrev pub AreShapedSoFar : List Column → List ℕ → List ℕ → List (List ColumnSpec) → Type 0
AreShapedSoFar declared cut left fragments = map shape_of fragments ++ map (declared_shape declared) left ≡ map (declared_shape declared) cut

shaped : (declared : List Column) (n : ℕ) (columns : List ColumnSpec) → AreRowsOf declared n columns → shape_of columns ≡ declared_shape declared n
shaped declared n columns (kinds, rows) = rw (kinds, rows) refl

module _ (declared : List Column) (cut : List ℕ) where
  pub none_shaped : (fragments : List (List ColumnSpec)) → fragments ≡ [] → AreShapedSoFar declared cut cut fragments
  none_shaped fragments none = ap (λ (fs : List (List ColumnSpec)). map shape_of fs ++ map (declared_shape declared) cut) none

  module _ (before after : List ℕ) (fragments : List (List ColumnSpec)) where
    pub one_shaped : (now : List (List ColumnSpec)) (found : Option (List ColumnSpec)) (fragment : List ColumnSpec) → AreShapedSoFar declared cut before fragments → found ≡ Some fragment → now ≡ fragments ++ fragment ∷ []
        → IsNextOf declared before after found → AreShapedSoFar declared cut after now
    one_shaped now None fragment so_far is put next = cc is
    one_shaped now (Some x) fragment so_far is put (n, split, rows) =
        let same : x ≡ fragment = cc is in
        let one : shape_of fragment ≡ declared_shape declared n = ap shape_of (sym same) ∙ shaped declared n x rows in
        ap (λ (fs : List (List ColumnSpec)). map shape_of fs ++ map (declared_shape declared) after) put
        ∙ ap (λ (ss : List Shape). ss ++ map (declared_shape declared) after) (map-append shape_of fragments (fragment ∷ []))
        ∙ append_assoc (map shape_of fragments) (shape_of fragment ∷ []) (map (declared_shape declared) after)
        ∙ ap (λ (s : Shape). map shape_of fragments ++ s ∷ map (declared_shape declared) after) one
        ∙ ap (λ (ns : List ℕ). map shape_of fragments ++ map (declared_shape declared) ns) (sym split) ∙ so_far

    pub all_shaped : (found : Option (List ColumnSpec)) → AreShapedSoFar declared cut before fragments → ((x : List ColumnSpec) → found ≢ Some x) → IsNextOf declared before after found → AreFragmentsOf declared cut fragments
    all_shaped (Some x) so_far none next = absurd (none x refl)
    all_shaped None so_far none next =
        sym (append-nil (map shape_of fragments)) ∙ ap (λ (ns : List ℕ). map shape_of fragments ++ map (declared_shape declared) ns) (sym next) ∙ so_far
