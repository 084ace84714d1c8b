-- Files whose fields have the order of the catalogue.
use Rattle.std.proofs.Common.{◌≡◌, ◌+◌, ◌<◌, ◌≤◌, ◌==◌, ℕ, zero, suc, List, [], ◌∷◌, ◌++◌, Bool, true, length, map, take, drop, get_or, not, Some, Ok, Err, add-one, zero-add, refl, sym, ap, ◌∙◌, arith, position, unwrap_or}
use Rattle.std.specs.Prelude.{Option, Result, slice_get, slice_index_or, slice_set, zip}
use Rattle.std.specs.List.{range_with_len, enumerate_from, list_all, prefix_len}
use Rattle.std.proofs.lemmas.Bool.{and_parts, eqb-true, lt-ltb}
use Rattle.std.proofs.lemmas.List.FromFn.{length-range_with_len, get_or-range_with_len}
use Rattle.std.proofs.lemmas.List.{length-append, length-map, length-take}
use Rattle.std.proofs.lemmas.Option.{slice_get-get_or}
use borrow.Author.Tests.{eq-eqb, ne_eqb}
use Rattle.meaning.specs.declared.catalog.Column.{Column}
use Rattle.meaning.specs.declared.table.TableFault.{TableFault}
use Rattle.meaning.specs.Order.{Row}
use Rattle.meaning.specs.declared.value.Value.{Value}
use Rattle.meaning.specs.declared.value.Value.TheVariants.{Null}
use Rattle.meaning.specs.Records.{Record, catalog_row, field_value, file_values, row_of, value_at}
use Rattle.columns.specs.Column.{ColumnSpec, with_value}
use Rattle.loader.specs.Columns.{with_row}
use Rattle.loader.specs.Steps.{TakesField, TakesRow, inverse_order, is_in_order}
use Rattle.loader.specs.declared.fault.LoadFault.{LoadFault}
use Rattle.loader.specs.declared.fault.LoadFault.TheVariants.{Memory, Table, Device}
use Rattle.loader.proofs.Judging.{judged_behind, zipped, goes_on, fails, finishes, zip_short_left}
use Rattle.loader.proofs.Values.{all_set, set_next}

-- each field has the index of its column
from_start : (s : ℕ) (order : List ℕ) → list_all (λ p. p.1 == p.0) (enumerate_from s order) ≡ true → order ≡ range_with_len s (length order)
from_start s [] all = refl
from_start s (index ∷ order) all =
    let parts = and_parts _ _ all in
    let first : index ≡ s = eqb-true index s parts.0 in
    let rest = from_start (s + 1) order parts.1 in
    cc (first, rest)

order_is : (order : List ℕ) → is_in_order order ≡ true → order ≡ range_with_len 0 (length order)
order_is order all = from_start 0 order all

pub order_whole : (order fields : List ℕ) (n : ℕ) (found : Bool) → fields ≡ inverse_order order → found ≡ is_in_order order → found ≡ true → length fields ≡ n → order ≡ range_with_len 0 n
order_whole order fields n found inverse is holds count =
    let long : length fields ≡ length order =
    ap length inverse ∙ length-map (range_with_len 0 (length order)) (λ index. unwrap_or (position (λ p. p == index) order) 0) ∙ length-range_with_len 0 (length order) in
    order_is order (sym is ∙ holds) ∙ ap (λ k. range_with_len 0 k) (sym long ∙ count)

-- in the order of the catalogue each index stands at itself
numbers_before : (s n k index : ℕ) → k < n → s + k ≡ index → prefix_len (λ p. not (p == index)) (range_with_len s n) ≡ k
numbers_before s zero k index lt e = absurd (omega arith)
numbers_before s (suc n) zero index lt e = let same = eq-eqb s index (omega arith) in rw same refl
numbers_before s (suc n) (suc k) index lt e =
    let other = ne_eqb s index (λ same. omega arith) in
    rw other (let behind = numbers_before (s + 1) n k index (omega arith) (omega arith) in omega (arith, behind))

position_of : (n index : ℕ) → index < n → position (λ p. p == index) (range_with_len 0 n) ≡ Some index
position_of n index lt =
    let before = numbers_before 0 n index index lt (omega arith) in
    let within = lt-ltb index n lt in
    rw (before, length-range_with_len 0 n, within) refl

-- a row that has each value at its index is the values
rows_at : (f : ℕ → Value) (s : ℕ) (values : List Value) → ((k : ℕ) → k < length values → f (s + k) ≡ get_or values k Null) → map f (range_with_len s (length values)) ≡ values
rows_at f s [] at = refl
rows_at f s (v ∷ values) at =
    let first : f s ≡ v = ap f (omega arith) ∙ at 0 (omega arith) in
    let behind = rows_at f (s + 1) values (λ k lt. ap f (omega arith) ∙ at (suc k) (omega arith)) in
    cc (first, behind)

pub row_in_order : (n : ℕ) (values : List Value) → length values ≡ n → catalog_row (range_with_len 0 n) values ≡ values
row_in_order n values e =
    let order = range_with_len 0 n in
    let f = λ (index : ℕ). slice_index_or values (unwrap_or (position (λ p. p == index) order) 0) Null in
    let counted : length order ≡ length values = length-range_with_len 0 n ∙ sym e in
    ap (λ k. map f (range_with_len 0 k)) counted
    ∙ rows_at f 0 values (λ k lt. let at = position_of n (0 + k) (omega arith) in ap (λ (found : Option ℕ). slice_index_or values (unwrap_or found 0) Null) at ∙ ap (λ j. slice_index_or values j Null) (zero-add k))

-- only the front of a row counts
row_front : (cs : List ColumnSpec) (row others : List Value) → length cs ≤ length row → with_row cs (row ++ others) ≡ with_row cs row
row_front [] row others le = refl
row_front (c ∷ cs) [] others le = absurd (omega arith)
row_front (c ∷ cs) (v ∷ row) others le = ap (λ (xs : List ColumnSpec). with_value c v ∷ xs) (row_front cs row others (omega arith))

-- the value of a row with one value more, at the last index
last_is : (values : List Value) (i : ℕ) (v : Value) → length values ≡ i → v ≡ slice_index_or (values ++ v ∷ []) i Null
last_is [] zero v e = refl
last_is [] (suc i) v e = absurd (omega arith)
last_is (x ∷ values) zero v e = absurd (omega arith)
last_is (x ∷ values) (suc i) v e = last_is values i v (omega arith)

module _ (declared : List Column) (row : ℕ) (fields : Record) (cs : List ColumnSpec) where
  abbrev judge : ℕ × List ℕ → Result Value TableFault
  judge p = value_at row p.0 (slice_get declared p.0) p.1

  abbrev order : List ℕ
  order = range_with_len 0 (length declared)

  -- the values of the fields in front of an index stand behind the last ones of their columns
  abbrev pub HasFront : ℕ → List ColumnSpec → Type 0
  HasFront i columns = (values : List Value) × (length values ≡ i) ×
      (judged_behind judge values (drop i (zip order fields)) ≡ file_values declared order row fields) ×
      (columns ≡ with_row (take i cs) values ++ drop i cs)

  field_here : (i : ℕ) (text : List ℕ) → i < length declared → slice_get fields i ≡ Some text → slice_get (zip order fields) i ≡ Some (i, text)
  field_here i text lt there =
      let long = length-range_with_len 0 (length declared) in
      let index : slice_get order i ≡ Some i = slice_get-get_or order i 0 (omega (arith, long)) ∙ ap Some (get_or-range_with_len 0 (length declared) i 0 lt ∙ zero-add i) in
      zipped order fields i i text index there

  pub next_field : (i : ℕ) (d : Column) (text : List ℕ) (columns : List ColumnSpec) (x put : ColumnSpec) → length cs ≡ length declared → i < length cs → slice_get fields i ≡ Some text → slice_get declared i ≡ Some d
      → (v : Value) × (field_value row i d text ≡ Ok v) × (put ≡ with_value (get_or columns i x) v) → HasFront i columns → HasFront (i + 1) (slice_set columns i put)
  next_field i d text columns x put same lt there is_d (v, good, is_put) (values, count, so_far, is) =
      let judged : value_at row i (slice_get declared i) text ≡ Ok v = rw is_d good in
      let more = goes_on judge values (zip order fields) i (i, text) v (file_values declared order row fields) (field_here i text (omega arith) there) judged so_far in
      let longer : List Value = values ++ v ∷ [] in
      let next = set_next cs longer i x v lt (omega (arith, length-append values (v ∷ []), count)) (last_is values i v count) in
      let front : columns ≡ with_row (take i cs) longer ++ drop i cs = is ∙ ap (λ (r : List ColumnSpec). r ++ drop i cs) (sym (row_front (take i cs) values (v ∷ []) (omega (arith, length-take i cs, count)))) in (
        longer,
        omega (arith, length-append values (v ∷ []), count),
        more,
        rw (is_put, front) (next ∙ ap (λ k. with_row (take k cs) longer ++ drop k cs) (sym (add-one i))),
      )

  pub all_fields : (i : ℕ) (columns : List ColumnSpec) → length cs ≡ length declared → length fields ≡ length declared → i ≤ length cs → length cs ≤ i → HasFront i columns
      → (r : Row) × (row_of declared order row fields ≡ Ok r) × (columns ≡ with_row cs r)
  all_fields i columns same counted within end (values, count, so_far, is) =
      let short = zip_short_left order fields in
      let long = length-range_with_len 0 (length declared) in
      let all = finishes judge values (zip order fields) i (file_values declared order row fields) (omega (arith, short, long)) so_far in
      let width = eq-eqb (length fields) (length declared) counted in (
        values,
        rw (width, all) (ap Ok (row_in_order (length declared) values (omega (arith, count)))),
        is ∙ all_set cs values i end,
      )

  pub field_fails : (i : ℕ) (d : Column) (text : List ℕ) (columns : List ColumnSpec) (before after : ColumnSpec) (e : LoadFault) → length fields ≡ length declared → i < length declared → slice_get fields i ≡ Some text → slice_get declared i ≡ Some d
      → TakesField (field_value row i d text) before after (Err e) → HasFront i columns → (now : List ColumnSpec) → TakesRow (row_of declared order row fields) cs now (Err e)
  field_fails i d text columns before after (Table f) counted lt there is_d bad (values, count, so_far, is) now =
      let judged : value_at row i (slice_get declared i) text ≡ Err f = rw is_d bad in
      let all = fails judge values (zip order fields) i (i, text) f (file_values declared order row fields) (field_here i text lt there) judged so_far in
      let width = eq-eqb (length fields) (length declared) counted in
      rw (width, all) refl
  field_fails i d text columns before after Memory counted lt there is_d bad front now = tt
  field_fails i d text columns before after Device counted lt there is_d bad front now = bad
