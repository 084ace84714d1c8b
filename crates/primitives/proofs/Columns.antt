-- The lanes of a column that an expression names.
use Rattle.std.specs.Prelude.{◌≡◌, ℕ, zero, suc, ◌<◌, nat_eq, Bool, true, false, cond, ◌||◌, List, [], ◌∷◌, map, find, get_or, Option, Some, None, option_map}
use Rattle.std.specs.List.{list_any, AllByRecursion}
use Rattle.std.proofs.Common.{refl, sym, ◌∙◌, ap, ap₂, subst}
use Rattle.std.proofs.lemmas.List.{get_or-map}
use Rattle.std.proofs.lemmas.List.Elements.{recursion_from_All}
use Rattle.std.proofs.lemmas.Bool.{eqb-true}
use Rattle.meaning.specs.declared.value.Value.{Value}
use Rattle.meaning.specs.declared.value.Value.TheVariants.{Null}
use Rattle.meaning.specs.declared.value.ColType.{ColType}
use Rattle.meaning.specs.declared.value.ColType.TheVariants as of_type
use Rattle.meaning.specs.declared.outcome.Outcome.{Outcome}
use Rattle.meaning.specs.declared.outcome.Outcome.TheVariants as gives
use Rattle.meaning.specs.declared.joined_row.JoinedRow.{JoinedRow}
use Rattle.meaning.specs.References.{Reference, FactColumn, JoinColumn, GroupKey, GroupAggregate, referenced}
use Rattle.meaning.specs.Typing.{ExprType, Valued, Boolean, RowTypes, is_column_type}
use Rattle.meaning.proofs.Tests.{first_of, second_of}
use Rattle.vectors.specs.declared.vector.Vector.{Vector}
use Rattle.vectors.specs.declared.vector.Vector.TheVariants as vector
use Rattle.vectors.specs.declared.batch.ColumnReference.{ColumnReference}
use Rattle.vectors.specs.declared.batch.ColumnReference.TheVariants as reference
use Rattle.vectors.specs.declared.batch.BatchColumn.{BatchColumn}
use Rattle.vectors.specs.Vector.{BatchSpec, IsColumnOf, outcomes_of, reference_of, same_reference}
use Rattle.vector_operators.specs.declared.given.Given.{Given}
use Rattle.primitives.specs.Meant.{row_at}
use Rattle.primitives.specs.Fitting.{AreTypedRows, has_column, is_typed_column, column_reference, referenced_type}
use Rattle.vector_operators.specs.Given.{type_of_lanes, given_at, given_of, is_of_kind}

same_nat : (a b : ℕ) → nat_eq a b ≡ true → a ≡ b
same_nat a b e = eqb-true a b e

reference_is : (p : ColumnReference) (u : Reference) → same_reference p (column_reference u) ≡ true → reference_of p ≡ u
reference_is (reference.Fact c) (FactColumn d) e = ap FactColumn (same_nat c d e)
reference_is (reference.Fact c) (JoinColumn j d) e = absurd cc
reference_is (reference.Fact c) (GroupKey k) e = absurd cc
reference_is (reference.Fact c) (GroupAggregate k) e = absurd cc
reference_is (reference.Join j c) (FactColumn d) e = absurd cc
reference_is (reference.Join j c) (JoinColumn k d) e = ap₂ JoinColumn (same_nat j k (first_of (nat_eq j k) _ e)) (same_nat c d (second_of (nat_eq j k) _ e))
reference_is (reference.Join j c) (GroupKey k) e = absurd cc
reference_is (reference.Join j c) (GroupAggregate k) e = absurd cc
reference_is (reference.Key k) (FactColumn d) e = absurd cc
reference_is (reference.Key k) (JoinColumn j d) e = absurd cc
reference_is (reference.Key k) (GroupKey l) e = ap GroupKey (same_nat k l e)
reference_is (reference.Key k) (GroupAggregate l) e = absurd cc
reference_is (reference.Aggregate k) (FactColumn d) e = absurd cc
reference_is (reference.Aggregate k) (JoinColumn j d) e = absurd cc
reference_is (reference.Aggregate k) (GroupKey l) e = absurd cc
reference_is (reference.Aggregate k) (GroupAggregate l) e = ap GroupAggregate (same_nat k l e)

-- the first that passes has what all have
found : {X : Type 0} (Q : X → Type 0) (test : X → Bool) (xs : List X) → AllByRecursion Q xs → list_any test xs ≡ true → (x : X) × ((find test xs ≡ Some x) × (test x ≡ true) × Q x)
found Q test [] all any = absurd cc
found Q test (x ∷ xs) all any = elim (test x) as (λ b. test x ≡ b → (b || list_any test xs) ≡ true → (y : _) × ((cond b (Some x) (find test xs) ≡ Some y) × (test y ≡ true) × Q y)) [
  | true ↦ λ e h. (x, (refl, e, all.0))
  | false ↦ λ e h. found Q test xs all.1 h
] refl any

-- the type of a column is that of its lanes
kinds_meet : (o : Option ColType) (lanes : Vector) (type : ExprType) → is_column_type o (type_of_lanes lanes) ≡ true → is_column_type o type ≡ true
    → is_of_kind type (given_of (Some lanes)) ≡ true
kinds_meet None lanes type e f = absurd cc
kinds_meet (Some k) (vector.Truths l) type e f = absurd cc
kinds_meet (Some k) lanes Boolean e f = absurd cc
kinds_meet (Some of_type.Int) (vector.Ints l) (Valued of_type.Int) e f = refl
kinds_meet (Some of_type.Int) (vector.Ints l) (Valued of_type.Text) e f = absurd cc
kinds_meet (Some of_type.Text) (vector.Ints l) (Valued w) e f = absurd cc
kinds_meet (Some of_type.Text) (vector.Texts l) (Valued of_type.Text) e f = refl
kinds_meet (Some of_type.Text) (vector.Texts l) (Valued of_type.Int) e f = absurd cc
kinds_meet (Some of_type.Int) (vector.Texts l) (Valued w) e f = absurd cc

value_at : (values : List Value) (i : ℕ) → get_or (map {A = Value} {B = Outcome} gives.Value values) i (gives.Value Null) ≡ gives.Value (get_or values i Null)
value_at [] i = refl
value_at (v ∷ vs) zero = refl
value_at (v ∷ vs) (suc i) = value_at vs i

-- the lanes of a column of values
lanes_at : (o : Option ColType) (lanes : Vector) (i : ℕ) → is_column_type o (type_of_lanes lanes) ≡ true → given_at (given_of (Some lanes)) i ≡ get_or (outcomes_of lanes) i (gives.Value Null)
lanes_at o (vector.Ints l) i e = sym (value_at l i)
lanes_at o (vector.Texts l) i e = sym (value_at l i)
lanes_at None (vector.Truths l) i e = absurd cc
lanes_at (Some k) (vector.Truths l) i e = absurd cc

pub column_gives : (types : RowTypes) (batch : BatchSpec) (rows : List JoinedRow) (u : Reference) (type : ExprType) → AreTypedRows types batch rows
    → has_column batch.columns u ≡ true → is_column_type (referenced_type types u) type ≡ true
    → ((i : ℕ) → i < batch.rows → given_at (given_of (option_map (λ column. column.lanes) (find (λ column. same_reference column.reference (column_reference u)) batch.columns))) i ≡ gives.Value (referenced (row_at rows i) u))
    × (is_of_kind type (given_of (option_map (λ column. column.lanes) (find (λ column. same_reference column.reference (column_reference u)) batch.columns))) ≡ true)
column_gives types batch rows u type are there typed =
    let test : BatchColumn → Bool = λ column. same_reference column.reference (column_reference u) in
    let columns_are = recursion_from_All (IsColumnOf rows) batch.columns are.are_rows.columns in
    let columns_typed = recursion_from_All (λ column. is_typed_column types column ≡ true) batch.columns are.columns in
    let w = found (λ c. IsColumnOf rows c × (is_typed_column types c ≡ true)) test batch.columns (both_all (IsColumnOf rows) (λ column. is_typed_column types column ≡ true) batch.columns columns_are columns_typed) there in
    let c : BatchColumn = w.0 in
    let at : reference_of c.reference ≡ u = reference_is c.reference u w.1.1 in
    let is_typed : is_column_type (referenced_type types u) (type_of_lanes c.lanes) ≡ true = subst (λ (v : Reference). is_column_type (referenced_type types v) (type_of_lanes c.lanes) ≡ true) at w.1.2.1 in
    let given_is = ap (λ (o : Option BatchColumn). given_of (option_map (λ column. column.lanes) o)) w.1.0 in (
      (λ i within.
          ap (λ (g : Given). given_at g i) given_is
          ∙ lanes_at (referenced_type types u) c.lanes i is_typed
          ∙ ap (λ (os : List Outcome). get_or os i (gives.Value Null)) w.1.2.0
          ∙ get_or-map (λ (row : JoinedRow). gives.Value (referenced row (reference_of c.reference))) rows i (record { fact = []; joins = []; key = []; aggregates = [] }) (gives.Value Null) (subst (λ (k : ℕ). i < k) (sym are.are_rows.counted) within)
          ∙ ap (λ (v : Reference). gives.Value (referenced (row_at rows i) v)) at),
      ap (λ (g : Given). is_of_kind type g) given_is ∙ kinds_meet (referenced_type types u) c.lanes type is_typed typed,
    )
  where
    both_all : (P Q : BatchColumn → Type 0) (cs : List BatchColumn) → AllByRecursion P cs → AllByRecursion Q cs → AllByRecursion (λ c. P c × Q c) cs
    both_all P Q [] a b = tt
    both_all P Q (x ∷ xs) a b = ((a.0, b.0), both_all P Q xs a.1 b.1)
