-- A condition over lanes of one column of the fact, and what it is on any joined row.
use Rattle.std.proofs.Common.{◌≡◌, ℕ, zero, suc, ◌<◌, Bool, true, false, ◌&&◌, ◌||◌, List, [], ◌∷◌, get_or, map, length, Some, None, refl, ap, sym, subst, ◌∙◌, arith, inl, inr}
use Rattle.std.specs.Prelude.{slice_get}
use Rattle.std.specs.List.{AllByRecursion, list_all, range_with_len}
use Rattle.std.specs.Cmp.Lexicographic.{pointwise}
use Rattle.std.proofs.lemmas.Bool.{and_parts, eqb-true}
use Rattle.std.proofs.lemmas.List.{get_or-map, length-map}
use Rattle.std.proofs.lemmas.List.Elements.{All-from_recursion, recursion_from_All}
use Rattle.meaning.specs.declared.expr.Expr.{Expr}
use Rattle.meaning.specs.declared.joined_row.JoinedRow.{JoinedRow}
use Rattle.meaning.specs.declared.outcome.Outcome.TheVariants as gives
use Rattle.meaning.specs.declared.value.ColType.{ColType}
use Rattle.meaning.specs.declared.value.Value.{Value}
use Rattle.meaning.specs.declared.value.Value.TheVariants.{Null}
use Rattle.meaning.specs.Expr.{eval}
use Rattle.meaning.specs.Order.{Row, column}
use Rattle.meaning.specs.References.{Reference, FactColumn, JoinColumn, GroupKey, GroupAggregate, columns_used, referenced}
use Rattle.meaning.specs.Typing.{Boolean, ExprType, RowTypes, are_beside_of_types, are_of_types, fits_row_types, has_type, is_column_type, is_of_type}
use Rattle.meaning.proofs.ColumnsUsed.{reads_columns_used}
use Rattle.meaning.proofs.Tests.{both}
use Rattle.meaning.proofs.Typed.{null_typed}
use Rattle.pushdown.specs.declared.condition.Source.TheVariants as source
use Rattle.pushdown.specs.FactColumn.{StandsOn}
use Rattle.pushdown.specs.Pushdown.{is_of}
use Rattle.pushdown.proofs.Faultless.{faultless}
use Rattle.vectors.specs.declared.batch.BatchColumn.{BatchColumn}
use Rattle.vectors.specs.declared.batch.ColumnReference.TheVariants as reference
use Rattle.vectors.specs.declared.vector.Vector.{Vector}
use Rattle.vectors.specs.Selection.{IsMask, is_among}
use Rattle.vectors.specs.Vector.{HasLanesOf, IsColumnOf, outcomes_of}
use Rattle.vectors.proofs.Ascending.{among_range}
use Rattle.vector_operators.specs.Evaluated.{Held, IsBefore}
use Rattle.vector_operators.specs.Given.{is_true_lane, type_of_lanes}
use Rattle.vector_operators.proofs.LaneValues.{lanes_type, same_kind}
use Rattle.primitives.specs.Fitting.{AreTypedRows, Fits, has_column, is_typed_column}
use Rattle.primitives.specs.Meant.{meant_at, row_at}
use Rattle.primitives.specs.Narrowed.{Narrows}
use Rattle.block_predicates.specs.Marks.{AreMarksOf, one_column}

-- ---- a row with one value, and NULL in all else

abbrev nulls : List ColType → Row
nulls types = map (λ _. Null) types

nulls_typed : (types : List ColType) → are_of_types types (nulls types) ≡ true
nulls_typed [] = refl
nulls_typed (t ∷ types) = both _ _ (null_typed t) (nulls_typed types)

nulls_beside : (types : List ColType) → are_beside_of_types types (nulls types) ≡ true
nulls_beside [] = refl
nulls_beside (t ∷ types) = nulls_typed (t ∷ types)

all_nulls : (kinds : List (List ColType)) → pointwise are_beside_of_types kinds (map nulls kinds) ≡ true
all_nulls [] = refl
all_nulls (types ∷ kinds) = both _ _ (nulls_beside types) (all_nulls kinds)

abbrev fill : ℕ → Value → List ColType → Row
fill at v [] = []
fill zero v (t ∷ ts) = v ∷ nulls ts
fill (suc at) v (t ∷ ts) = Null ∷ fill at v ts

fill_there : (at : ℕ) (v : Value) (ts : List ColType) (type : ColType) → slice_get ts at ≡ Some type → column (fill at v ts) at ≡ v
fill_there at v [] type there = absurd cc
fill_there zero v (t ∷ ts) type there = refl
fill_there (suc at) v (t ∷ ts) type there = fill_there at v ts type there

fill_typed : (at : ℕ) (v : Value) (ts : List ColType) (type : ColType) → slice_get ts at ≡ Some type → is_of_type type v ≡ true → are_of_types ts (fill at v ts) ≡ true
fill_typed at v [] type there of = refl
fill_typed zero v (t ∷ ts) type there of = let same : type ≡ t = cc in both _ _ (subst (λ (k : ColType). is_of_type k v ≡ true) same of) (nulls_typed ts)
fill_typed (suc at) v (t ∷ ts) type there of = both _ _ (null_typed t) (fill_typed at v ts type there of)

imply : {X : Type 0} (P Q : X → Type 0) → ((x : X) → P x → Q x) → (xs : List X) → AllByRecursion P xs → AllByRecursion Q xs
imply P Q to [] all = tt
imply P Q to (x ∷ xs) all = (to x all.0, imply P Q to xs all.1)

-- ---- lanes of one column

module _ (types : RowTypes) (at : ℕ) (type : ColType) (e : Expr) (stands : StandsOn at e) (typed : has_type types e Boolean ≡ true) (there : slice_get types.fact at ≡ Some type) where
  abbrev filled : Value → JoinedRow
  filled v = record { fact = fill at v types.fact; joins = map nulls types.joins; key = nulls types.key; aggregates = nulls types.aggregates }

  filled_typed : (v : Value) → is_of_type type v ≡ true → fits_row_types types (filled v) ≡ true
  filled_typed v of =
      both _ _ (fill_typed at v types.fact type there of) (both _ _ (all_nulls types.joins) (both _ _ (nulls_typed types.key) (nulls_typed types.aggregates)))

  all_filled : (vs : List Value) → list_all (is_of_type type) vs ≡ true → AllByRecursion (λ r. fits_row_types types r ≡ true) (map filled vs)
  all_filled [] of = tt
  all_filled (v ∷ vs) of = let parts = and_parts (is_of_type type v) (list_all (is_of_type type) vs) of in (filled_typed v parts.0, all_filled vs parts.1)

  values_there : (vs : List Value) → map gives.Value vs ≡ map (λ row. gives.Value (referenced row (FactColumn at))) (map filled vs)
  values_there [] = refl
  values_there (v ∷ vs) = λ i. gives.Value (sym (fill_there at v types.fact type there) i) ∷ values_there vs i

  abbrev pub filled_rows : List Value → List JoinedRow
  filled_rows vs = map filled vs

  module _ (vs : List Value) (lanes : Vector) (rows : ℕ) (counted : length vs ≡ rows) (are : outcomes_of lanes ≡ map gives.Value vs) (kind : HasLanesOf type lanes) (of : list_all (is_of_type type) vs ≡ true) where
    abbrev the_column : BatchColumn
    the_column = record { reference = reference.Fact at; lanes = lanes }

    column_typed : is_typed_column types the_column ≡ true
    column_typed = ap (λ t. is_column_type t (type_of_lanes lanes)) there ∙ ap (λ (t : ExprType). is_column_type (Some type) t) (lanes_type type lanes kind) ∙ same_kind type

    pub rows_typed : AreTypedRows types (one_column at rows lanes) (map filled vs)
    rows_typed = record {
      are_rows = record {
        counted = length-map vs filled ∙ counted;
        columns = All-from_recursion (IsColumnOf (map filled vs)) (the_column ∷ []) (are ∙ values_there vs, tt);
      };
      values = All-from_recursion (λ r. fits_row_types types r ≡ true) (map filled vs) (all_filled vs of);
      columns = All-from_recursion (λ column. is_typed_column types column ≡ true) (the_column ∷ []) (column_typed, tt);
    }

    present : (u : Reference) → is_of (source.FactColumn at) u ≡ true → has_column (the_column ∷ []) u ≡ true
    present (FactColumn d) is = ap (λ (b : Bool). b || false) is
    present (JoinColumn join d) is = absurd cc
    present (GroupKey i) is = absurd cc
    present (GroupAggregate i) is = absurd cc

    pub fits : Fits types (one_column at rows lanes).columns e Boolean
    fits = record {
      typed = typed;
      present = All-from_recursion (λ u. has_column (the_column ∷ []) u ≡ true) (columns_used e)
          (imply (λ u. is_of (source.FactColumn at) u ≡ true) (λ u. has_column (the_column ∷ []) u ≡ true) present (columns_used e) (recursion_from_All (λ u. is_of (source.FactColumn at) u ≡ true) (columns_used e) stands.pushable.reads));
    }

  -- ---- marks

  same_named : (s r : JoinedRow) → column s.fact at ≡ column r.fact at → (u : Reference) → is_of (source.FactColumn at) u ≡ true → referenced s u ≡ referenced r u
  same_named s r same (FactColumn d) is = subst (λ (k : ℕ). column s.fact k ≡ column r.fact k) (eqb-true at d is) same
  same_named s r same (JoinColumn join d) is = absurd cc
  same_named s r same (GroupKey i) is = absurd cc
  same_named s r same (GroupAggregate i) is = absurd cc

  pub marks_are : (vs : List Value) (rows : ℕ) (new : List ℕ) (now : Held) (marks : List Bool) → length vs ≡ rows → Narrows (meant_at e (map filled vs)) (range_with_len 0 rows) new None now → IsMask new rows marks → AreMarksOf e at vs marks rows
  marks_are vs rows new now marks counted narrows mask = λ i lt s here.
      let row_is : row_at (map filled vs) i ≡ filled (get_or vs i Null) = get_or-map filled vs i Null _ (omega (arith, lt, counted)) in
      let same = reads_columns_used e s (filled (get_or vs i Null))
      (All-from_recursion (λ u. referenced s u ≡ referenced (filled (get_or vs i Null)) u) (columns_used e)
      (imply (λ u. is_of (source.FactColumn at) u ≡ true) (λ u. referenced s u ≡ referenced (filled (get_or vs i Null)) u)
      (same_named s (filled (get_or vs i Null)) (here ∙ sym (fill_there at (get_or vs i Null) types.fact type there)))
      (columns_used e) (recursion_from_All (λ u. is_of (source.FactColumn at) u ≡ true) (columns_used e) stands.pushable.reads))) in
      ap is_true_lane (same ∙ sym (ap (eval e) row_is)) ∙ sym (mask.reports i lt ∙ kept i lt)
    where
      none : now ≡ None
      none = elim narrows.origin [
        | inl same ↦ same
        | inr f ↦ absurd (faultless e stands.pushable.plain (row_at (map filled vs) f.position) f.fault f.is_meant)
      ]

      kept : (i : ℕ) → i < rows → is_among new i ≡ is_true_lane (meant_at e (map filled vs) i)
      kept i lt =
          narrows.kept i (subst (IsBefore i) (sym none) tt)
          ∙ ap (λ (b : Bool). b && is_true_lane (meant_at e (map filled vs) i)) (among_range 0 rows i (omega arith) (omega (arith, lt)))
