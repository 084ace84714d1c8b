-- Rows in columns, and the fragments of a table.
use Rattle.std.proofs.Common.{◌≡◌, ◌<◌, ◌==◌, position, unwrap_or, ℕ, zero, suc, ◌+◌, Bool, true, false, List, [], ◌∷◌, ◌++◌, length, map, take, drop, Ok, Err, refl, sym, ap, ◌∙◌, arith, append_assoc, add-one}
use Rattle.std.specs.Prelude.{Result, nat_lt, zip, slice_index_or, if◌then◌else◌}
use Rattle.std.specs.List.{enumerate_from, range_with_len}
use Rattle.std.proofs.lemmas.List.{append-nil, take_all, drop_all, map-append, length-map}
use Rattle.std.proofs.lemmas.List.FromFn.{length-enumerate_from, length-range_with_len}
use Rattle.meaning.specs.declared.value.Value.{Value}
use Rattle.meaning.specs.declared.value.Value.TheVariants.{Null}
use Rattle.meaning.specs.declared.catalog.Column.{Column}
use Rattle.meaning.specs.declared.table.TableFault.{TableFault}
use Rattle.meaning.specs.declared.table.TableFault.TheVariants as fault
use Rattle.meaning.specs.Order.{Row, column}
use Rattle.meaning.specs.Records.{Record, row_of, catalog_row, file_values}
use Rattle.meaning.specs.Results.{and_then}
use Rattle.columns.specs.Column.{ColumnSpec, with_value}
use Rattle.columns.specs.Rows.{column_of, columns_of}
use Rattle.loader.specs.Columns.{with_row}
use Rattle.loader.specs.Steps.{numbered_row, rows_of, with_rows, enough_rows, inverse_order}
use Rattle.loader.proofs.RowRuns.{ok_parts}

-- ---- a row has a value for each column

catalog_length : (order : List ℕ) (values : List Value) → length (catalog_row order values) ≡ length order
catalog_length order values =
    length-map (range_with_len 0 (length order)) (λ index. slice_index_or values (unwrap_or (position (λ p. p == index) order) 0) Null)
    ∙ length-range_with_len 0 (length order)

by_values : (order : List ℕ) (r : Row) (v : Result (List Value) TableFault) → and_then v (λ values. Ok (catalog_row order values)) ≡ Ok r → length r ≡ length order
by_values order r (Err f) e = cc e
by_values order r (Ok values) e = let same : catalog_row order values ≡ r = cc e in ap length (sym same) ∙ catalog_length order values

by_length : (order : List ℕ) (columns : List Column) (row : ℕ) (fields : Record) (r : Row) (b : Bool)
    → (if b then and_then (file_values columns order row fields) (λ values. Ok (catalog_row order values)) else Err (fault.FieldCount row)) ≡ Ok r → length r ≡ length order
by_length order columns row fields r true e = by_values order r (file_values columns order row fields) e
by_length order columns row fields r false e = cc e

pub long_row : (columns : List Column) (order : List ℕ) (row : ℕ) (fields : Record) (r : Row) → row_of columns order row fields ≡ Ok r → length r ≡ length order
long_row columns order row fields r e =
    by_length order columns row fields r (length fields == length columns) e

-- ---- rows in columns

-- the elements from an index on
from_suc : (row : Row) (n : ℕ) → n < length row → drop n row ≡ column row n ∷ drop (suc n) row
from_suc [] n lt = absurd (omega arith)
from_suc (v ∷ row) zero lt = refl
from_suc (v ∷ row) (suc n) lt = from_suc row n (omega arith)

from_index : (row : Row) (n : ℕ) → n < length row → drop n row ≡ column row n ∷ drop (n + 1) row
from_index row n lt = from_suc row n lt ∙ ap (λ k. column row n ∷ drop k row) (sym (add-one n))

first_and_others : (n : ℕ) (c : Column) (rows : List Row) (row : Row) (left right : List ColumnSpec) → left ≡ right
    → with_value (column_of rows (n, c)) (column row n) ∷ left ≡ column_of (rows ++ row ∷ []) (n, c) ∷ right
first_and_others n c rows row left right same =
    let values : map (λ r. column r n) (rows ++ row ∷ []) ≡ map (λ r. column r n) rows ++ column row n ∷ [] = map-append (λ r. column r n) rows (row ∷ []) in
    rw (same, values) refl

-- one row more, from a column on
row_in : (n : ℕ) (declared : List Column) (rows : List Row) (row : Row) → n + length declared ≡ length row
    → map (λ p. with_value p.0 p.1) (zip (map (column_of rows) (enumerate_from n declared)) (drop n row)) ≡ map (column_of (rows ++ row ∷ [])) (enumerate_from n declared)
row_in n [] rows row long = refl
row_in n (c ∷ declared) rows row long =
    let here : drop n row ≡ column row n ∷ drop (n + 1) row = from_index row n (omega (arith, long)) in
    let others = row_in (n + 1) declared rows row (omega (arith, long)) in
    rw here (first_and_others n c rows row _ _ others)

-- where there were enough, the rows are those
enough_are : (all : Result (List Row) TableFault) (n count : ℕ) (rows : List Row) → and_then all (λ found. if nat_lt n count then Err fault.TooFewRows else Ok found) ≡ Ok rows → all ≡ Ok rows
enough_are (Err f) n count rows e = cc e
enough_are (Ok found) n count rows e = by_count (nat_lt n count) found rows e
  where
    by_count : (b : Bool) (found rows : List Row) → (if b then Err fault.TooFewRows else Ok found) ≡ Ok rows → ◌≡◌ {A = Result (List Row) TableFault} (Ok found) (Ok rows)
    by_count true found rows e = cc e
    by_count false found rows e = e

-- one row more
pub row_into : (declared : List Column) (rows : List Row) (row : Row) → length declared ≡ length row → with_row (columns_of declared rows) row ≡ columns_of declared (rows ++ row ∷ [])
row_into declared rows row long = row_in 0 declared rows row (omega (arith, long))

pub rows_into : (declared : List Column) (order : List ℕ) (first : ℕ) (records : List Record) (before rows : List Row) → length declared ≡ length order → rows_of declared order first records ≡ Ok rows
    → with_rows (columns_of declared before) rows ≡ columns_of declared (before ++ rows)
rows_into declared order first [] before [] long e = ap (columns_of declared) (sym (append-nil before))
rows_into declared order first [] before (r ∷ rows) long e = cc e
rows_into declared order first (f ∷ records) before rows long e =
    let (r, rest, here, others, all) = ok_parts (numbered_row declared order (first, f)) (rows_of declared order (first + 1) records) rows e in
    let wide : length declared ≡ length r = long ∙ sym (long_row declared order first f r here) in
    let one = row_into declared before r wide in
    let more = rows_into declared order (first + 1) records (before ++ r ∷ []) rest long others in
    ap (with_rows (columns_of declared before)) all ∙ ap (λ (cs : List ColumnSpec). with_rows cs rest) one ∙ more ∙ ap (columns_of declared) (append_assoc before (r ∷ []) rest)
    ∙ ap (λ (rs : List Row). columns_of declared (before ++ rs)) (sym all)

-- the columns of a fragment
pub fragment_columns : (declared : List Column) (order : List ℕ) (first count : ℕ) (rest : List Record) (columns : List ColumnSpec) (rows : List Row) → length declared ≡ length order
    → enough_rows declared order first count rest ≡ Ok rows → columns ≡ columns_of declared [] → with_rows columns rows ≡ columns_of declared rows
fragment_columns declared order first count rest columns rows long e fresh =
    ap (λ (cs : List ColumnSpec). with_rows cs rows) fresh ∙ rows_into declared order first (take count rest) [] rows long (enough_are (rows_of declared order first (take count rest)) (length rest) count rows e)

pub columns_length : (declared : List Column) (rows : List Row) → length (columns_of declared rows) ≡ length declared
columns_length declared rows = length-map (enumerate_from 0 declared) (column_of rows) ∙ length-enumerate_from 0 declared

pub inverse_length : (order fields : List ℕ) → fields ≡ inverse_order order → length fields ≡ length order
inverse_length order fields e =
    ap length e ∙ length-map (range_with_len 0 (length order)) (λ index. unwrap_or (position (λ p. p == index) order) 0) ∙ length-range_with_len 0 (length order)

-- elements that take the place of as many
pub put_back : {A : Type 0} (n : ℕ) (now items : List A) → length items ≡ n → length now ≡ n → take n (now ++ drop (length now) items) ≡ now
put_back n now items full same =
    ap (λ xs. take n (now ++ xs)) (drop_all (length now) items (omega (arith, full, same))) ∙ ap (take n) (append-nil now) ∙ take_all n now (omega (arith, same))
