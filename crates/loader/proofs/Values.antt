-- The values of the fields that were judged so far.
use Rattle.std.proofs.Common.{◌≡◌, ◌<◌, ◌≤◌, ◌==◌, ◌∙◌, ℕ, zero, suc, List, [], ◌∷◌, ◌++◌, length, map, take, drop, get_or, Some, None, refl, sym, ap, arith, position, unwrap_or}
use Rattle.std.specs.Prelude.{slice_get, slice_index_or, slice_set}
use Rattle.std.specs.List.{range_with_len}
use Rattle.std.proofs.lemmas.List.{append-nil, drop_all, get_or-map, length-map, take_all}
use Rattle.columns.specs.Column.{ColumnSpec, with_value}
use Rattle.meaning.specs.declared.value.Value.TheVariants.{Null}
use Rattle.meaning.specs.declared.value.Value.{Value}
use Rattle.meaning.specs.Records.{Record, catalog_row}
use Rattle.loader.specs.declared.field.Parsed.{Parsed}
use Rattle.loader.specs.Columns.{with_row}
use Rattle.loader.specs.Steps.{value_of, values_of, inverse_order}
use Rattle.loader.proofs.Fields.{map_map}

-- one more
pub values_more : (judged : List Parsed) (fields : Record) (p : Parsed) (f : List ℕ) → slice_get fields (length judged) ≡ Some f
    → values_of (judged ++ p ∷ []) fields ≡ values_of judged fields ++ value_of (p, f) ∷ []
values_more [] [] p f e = cc e
values_more [] (g ∷ fields) p f e = let same : g ≡ f = cc e in ap (λ (x : List ℕ). value_of (p, x) ∷ []) same
values_more (q ∷ judged) [] p f e = cc e
values_more (q ∷ judged) (g ∷ fields) p f e = ap (λ (vs : List Value). value_of (q, g) ∷ vs) (values_more judged fields p f e)

-- the value at an index
pub value_there : (judged : List Parsed) (fields : Record) (i : ℕ) (p : Parsed) (f : List ℕ) → i < length judged → p ≡ get_or judged i p → slice_get fields i ≡ Some f
    → slice_index_or (values_of judged fields) i Null ≡ value_of (p, f)
value_there [] fields i p f lt e g = absurd (omega arith)
value_there (q ∷ judged) [] i p f lt e g = cc g
value_there (q ∷ judged) (h ∷ fields) zero p f lt e g =
    let second : h ≡ f = cc g in
    rw (e, second) refl
value_there (q ∷ judged) (h ∷ fields) (suc i) p f lt e g = value_there judged fields i p f (omega arith) e g

-- no value stands where there is no field
pub no_field : (judged : List Parsed) (fields : Record) (i : ℕ) → slice_get fields i ≡ None → slice_index_or (values_of judged fields) i Null ≡ Null
no_field [] fields i e = refl
no_field (q ∷ judged) [] i e = refl
no_field (q ∷ judged) (h ∷ fields) zero e = cc e
no_field (q ∷ judged) (h ∷ fields) (suc i) e = no_field judged fields i e

pub none_judged : (judged : List Parsed) (fields : Record) (i : ℕ) → length judged ≤ i → slice_index_or (values_of judged fields) i Null ≡ Null
none_judged [] fields i le = refl
none_judged (q ∷ judged) [] i le = refl
none_judged (q ∷ judged) (h ∷ fields) zero le = absurd (omega arith)
none_judged (q ∷ judged) (h ∷ fields) (suc i) le = none_judged judged fields i (omega arith)

-- the value of a column is that of its field
pub row_value : (order : List ℕ) (fields : List ℕ) (values : List Value) (i : ℕ) (d : ℕ) → fields ≡ inverse_order order → i < length fields
    → slice_index_or (catalog_row order values) i Null ≡ slice_index_or values (get_or fields i d) Null
row_value order fields values i d e lt =
    let value_at : ℕ → Value = λ index. slice_index_or values index Null in
    let row_is : map value_at fields ≡ catalog_row order values = ap (map value_at) e ∙ map_map (λ index. unwrap_or (position (λ p. p == index) order) 0) value_at (range_with_len 0 (length order)) in
    ap (λ (row : List Value). slice_index_or row i Null) (sym row_is) ∙ get_or-map value_at fields i d Null lt

pub row_length : (order : List ℕ) (fields : List ℕ) (values : List Value) → fields ≡ inverse_order order → length (catalog_row order values) ≡ length fields
row_length order fields values e =
    length-map (range_with_len 0 (length order)) (λ index. slice_index_or values (unwrap_or (position (λ p. p == index) order) 0) Null)
    ∙ sym (length-map (range_with_len 0 (length order)) (λ index. unwrap_or (position (λ p. p == index) order) 0)) ∙ sym (ap length e)

-- a value more in the next column
pub set_next : (cs : List ColumnSpec) (row : List Value) (i : ℕ) (d : ColumnSpec) (v : Value) → i < length cs → i < length row → v ≡ slice_index_or row i Null
    → slice_set (with_row (take i cs) row ++ drop i cs) i (with_value (get_or (with_row (take i cs) row ++ drop i cs) i d) v) ≡ with_row (take (suc i) cs) row ++ drop (suc i) cs
set_next [] row i d v lt within value = absurd (omega arith)
set_next (x ∷ cs) [] i d v lt within value = absurd (omega arith)
set_next (x ∷ cs) (r ∷ row) zero d v lt within value = rw value refl
set_next (x ∷ cs) (r ∷ row) (suc i) d v lt within value =
    ap (λ (others : List ColumnSpec). with_value x r ∷ others) (set_next cs row i d v (omega arith) (omega arith) value)

-- all values in all columns
pub all_set : (cs : List ColumnSpec) (row : List Value) (i : ℕ) → length cs ≤ i → with_row (take i cs) row ++ drop i cs ≡ with_row cs row
all_set cs row i le = rw (take_all i cs le, drop_all i cs le) (append-nil (with_row cs row))
