-- Columns that are declared, and the values that they take.
use Rattle.std.proofs.Common.{◌≡◌, ◌<◌, ◌≤◌, ◌+◌, ◌∙◌, ℕ, zero, suc, Bool, true, false, ◌&&◌, ◌||◌, not, List, [], ◌∷◌, ◌++◌, length, map, take, drop, get_or, Some, None, Ok, Err, ◌==◌, unwrap_or, zero-add, refl, sym, ap, arith}
use Rattle.std.specs.Prelude.{Option, Result, OnOk, nat_le, if◌then◌else◌, is_none, is_some, slice_get, slice_index_or}
use Rattle.std.specs.List.{enumerate_from, position, range_with_len}
use Rattle.std.specs.Str.{is_utf8}
use Rattle.std.proofs.lemmas.Bool.{and_parts, eqb-true}
use Rattle.std.proofs.lemmas.List.FromFn.{length-range_with_len, get_or-range_with_len}
use Rattle.std.proofs.lemmas.List.Quantifiers.{position-Some}
use Rattle.std.proofs.lemmas.List.Sums.{AllPass-from_list_all}
use Rattle.std.proofs.lemmas.Option.{slice_get-get_or}
use Rattle.std.proofs.lemmas.List.{get_or-map, length-append, length-map, length-take, map-append, take-append-drop}
use Rattle.meaning.specs.declared.value.ColType.{ColType}
use Rattle.meaning.specs.declared.value.ColType.TheVariants as of_type
use Rattle.meaning.specs.declared.value.Value.{Value}
use Rattle.meaning.specs.declared.value.Value.TheVariants.{Null, Int, Text}
use Rattle.meaning.specs.declared.catalog.Column.{Column}
use Rattle.meaning.specs.Limits.{max_text_bytes}
use Rattle.meaning.specs.Order.{Row, is_null}
use Rattle.meaning.specs.Records.{Record, catalog_row, field_value, file_values, row_of, value_at}
use Rattle.meaning.specs.Typing.{is_of_type}
use Rattle.meaning_laws.proofs.LoadedRows.{taken, front_ok}
use Rattle.meaning.proofs.Tests.{both}
use Rattle.columns.specs.Column.{ColumnSpec, refusal}
use Rattle.columns.specs.declared.fault.ColumnFault.TheVariants as fault
use Rattle.columns.specs.Rows.{column_of, columns_of}
use Rattle.loader.specs.Columns.{AreDeclared, Kind, kind_of, declared_kind, row_counts, take_row, takes, with_row}
use Rattle.loader.specs.Steps.{IsOrderOf, TakesRow, inverse_order, has_each}
use Rattle.loader.specs.declared.fault.LoadFault.{LoadFault}
use Rattle.loader.proofs.Fragments.{long_row, inverse_length}

-- ---- one value

takes_value : (kind : ColType) (nullable : Bool) (v : Value) → (is_of_type kind v && (nullable || not (is_null v))) ≡ true → refusal kind nullable v ≡ None
takes_value kind true Null e = refl
takes_value of_type.Int false Null e = cc e
takes_value of_type.Text false Null e = cc e
takes_value of_type.Int nullable (Int n) e = refl
takes_value of_type.Text nullable (Int n) e = cc e
takes_value of_type.Int nullable (Text t) e = cc e
takes_value of_type.Text nullable (Text t) e =
    let text = (and_parts (is_utf8 t && nat_le (length t) max_text_bytes) (nullable || true) e).0 in
    let short : nat_le (length t) max_text_bytes ≡ true = (and_parts (is_utf8 t) (nat_le (length t) max_text_bytes) text).1 in
    ap (λ b. if b then None else Some fault.TextTooLong) short

-- a column takes the value of a field under its declaration
pub takes_field : (c : ColumnSpec) (d : Column) → c.col_type ≡ d.col_type → c.nullable ≡ d.nullable → (row index : ℕ) (field : List ℕ) (v : Value)
    → field_value row index d field ≡ Ok v → refusal c.col_type c.nullable v ≡ None
takes_field c d kind nullable row index field v e =
    (λ i. refusal (kind i) (nullable i) v) ∙ takes_value d.col_type d.nullable v (taken d.nullable d.col_type row index field v e)

-- ---- a row

pub declared_length : (declared : List Column) (cs : List ColumnSpec) → AreDeclared declared cs → length cs ≡ length declared
declared_length declared cs are = sym (length-map cs kind_of) ∙ ap length are ∙ length-map declared declared_kind

pub declared_at : (declared : List Column) (cs : List ColumnSpec) (i : ℕ) (d : Column) (c : ColumnSpec) → AreDeclared declared cs → i < length cs
    → kind_of (get_or cs i c) ≡ declared_kind (get_or declared i d)
declared_at declared cs i d c are lt =
    let many = declared_length declared cs are in
    sym (get_or-map kind_of cs i c (kind_of c) lt) ∙ ap (λ (ks : List Kind). get_or ks i (kind_of c)) are
    ∙ at_any declared i d (kind_of c) (omega (arith, many))
  where
    at_any : (ds : List Column) (i : ℕ) (d : Column) (k : Kind) → i < length ds → get_or (map declared_kind ds) i k ≡ declared_kind (get_or ds i d)
    at_any ds i d k lt = get_or-map declared_kind ds i d k lt

-- a value at each index, from index s on
fits_from : (cs : List ColumnSpec) (f : ℕ → Value) (s : ℕ) → ((k : ℕ) (c : ColumnSpec) → k < length cs → takes (get_or cs k c) (f (s + k)) ≡ true)
    → take_row cs (map f (range_with_len s (length cs))) ≡ true
fits_from [] f s each = refl
fits_from (c ∷ cs) f s each =
    let here : takes c (f s) ≡ true = ap (λ n. takes c (f n)) (omega arith) ∙ each 0 c (omega arith) in
    let behind = fits_from cs f (s + 1) (λ k d lt. ap (λ n. takes (get_or cs k d) (f n)) (omega arith) ∙ each (suc k) d (omega arith)) in
    both _ _ here behind

-- the value of a field was judged under the declaration of its column
judged_there : (declared : List Column) (row : ℕ) (order : List ℕ) (fields : Record) (values : List Value) → file_values declared order row fields ≡ Ok values
    → (j k : ℕ) (d : Column) → slice_get order j ≡ Some k → slice_get declared k ≡ Some d → j < length fields
    → (field : List ℕ) × (field_value row k d field ≡ Ok (slice_index_or values j Null))
judged_there declared row [] fields values e j k d at there lt = cc at
judged_there declared row (index ∷ order) [] values e j k d at there lt = absurd (omega arith)
judged_there declared row (index ∷ order) (f ∷ fields) values e zero k d at there lt =
    let front = front_ok (value_at row index (slice_get declared index) f) (file_values declared order row fields) values e in
    let same : index ≡ k = cc at in (
      f,
      ap (λ (c : Option Column). value_at row k c f) (sym there) ∙ ap (λ n. value_at row n (slice_get declared n) f) (sym same) ∙ front.here
          ∙ ap (λ (vs : List Value). Ok (slice_index_or vs 0 Null)) (sym front.whole),
    )
judged_there declared row (index ∷ order) (f ∷ fields) values e (suc j) k d at there lt =
    let front = front_ok (value_at row index (slice_get declared index) f) (file_values declared order row fields) values e in
    let (field, good) = judged_there declared row order fields front.later front.behind j k d at there (omega arith) in
    (field, good ∙ ap (λ (vs : List Value). Ok (slice_index_or vs (suc j) Null)) (sym front.whole))

some_there : (o : Option ℕ) → is_some o ≡ true → (j : ℕ) × (o ≡ Some j)
some_there None e = cc e
some_there (Some j) e = (j, refl)

found_at : (ds : List Column) (k : ℕ) (d : Column) → k < length ds → slice_get ds k ≡ Some d → get_or ds k d ≡ d
found_at ds k d lt there = let e : Some (get_or ds k d) ≡ Some d = sym (slice_get-get_or ds k d lt) ∙ there in cc e

-- the row of a record whose fields were judged fits, where each column has a field
pub record_fits : (declared : List Column) (order : List ℕ) → has_each order ≡ true → length order ≡ length declared → (row : ℕ) (fields : Record) (values : List Value) → length fields ≡ length declared
    → file_values declared order row fields ≡ Ok values → (cs : List ColumnSpec) → AreDeclared declared cs → take_row cs (catalog_row order values) ≡ true
record_fits declared order each wide row fields values long e cs are =
    let many = declared_length declared cs are in
    let f : ℕ → Value = λ index. slice_index_or values (unwrap_or (position (λ p. p == index) order) 0) Null in
    let counted : length cs ≡ length order = many ∙ sym wide in
    ap (λ n. take_row cs (map f (range_with_len 0 n))) (sym counted) ∙ fits_from cs f 0 (at f many refl)
  where
    at : (f : ℕ → Value) → length cs ≡ length declared → f ≡ (λ index. slice_index_or values (unwrap_or (position (λ p. p == index) order) 0) Null)
        → (k : ℕ) (c : ColumnSpec) → k < length cs → takes (get_or cs k c) (f (0 + k)) ≡ true
    at f many is k c lt =
        let d = get_or declared k (record { name = []; col_type = c.col_type; nullable = c.nullable }) in
        let there : slice_get declared k ≡ Some d = slice_get-get_or declared k _ (omega (arith, many)) in
        let named = AllPass-from_list_all (λ index. is_some (position (λ p. p == index) order)) (range_with_len 0 (length order)) each k 0 (let r = length-range_with_len 0 (length order) in omega (arith, r, many, wide)) in
        let index : get_or (range_with_len 0 (length order)) k 0 ≡ k = get_or-range_with_len 0 (length order) k 0 (omega (arith, many, wide)) ∙ zero-add k in
        let found = some_there (position (λ p. p == k) order) (ap (λ n. is_some (position (λ p. p == n) order)) (sym index) ∙ named) in
        let j = found.0 in
        let stands = position-Some (λ p. p == k) order j 0 found.1 in
        let at_j : slice_get order j ≡ Some k = slice_get-get_or order j 0 stands.0 ∙ ap Some (eqb-true (get_or order j 0) k stands.1) in
        let judged = judged_there declared row order fields values e j k d at_j there (let below = stands.0 in omega (arith, below, wide, long)) in
        let kinds = declared_at declared cs k d c are lt in
        let value : f (0 + k) ≡ slice_index_or values j Null = (λ i. is i (0 + k)) ∙ ap (λ n. slice_index_or values (unwrap_or (position (λ p. p == n) order) 0) Null) (zero-add k) ∙ ap (λ (o : Option ℕ). slice_index_or values (unwrap_or o 0) Null) found.1 in
        let same : get_or declared k d ≡ d = found_at declared k d (omega (arith, many)) there in
        ap (takes (get_or cs k c)) value
        ∙ ap is_none (takes_field (get_or cs k c) d (ap (λ (p : Kind). p.0) kinds ∙ ap (λ (x : Column). x.col_type) same) (ap (λ (p : Kind). p.1) kinds ∙ ap (λ (x : Column). x.nullable) same) row k judged.0 (slice_index_or values j Null) judged.1)

-- a row that fits has a value that fits at each index
pub taken_at : (cs : List ColumnSpec) (row : Row) (i : ℕ) (c : ColumnSpec) → take_row cs row ≡ true → i < length cs
    → refusal (get_or cs i c).col_type (get_or cs i c).nullable (slice_index_or row i Null) ≡ None
taken_at [] row i c fits lt = absurd (omega arith)
taken_at (x ∷ cs) [] i c fits lt = cc fits
taken_at (x ∷ cs) (v ∷ row) zero c fits lt = none_returned (refusal x.col_type x.nullable v) (and_parts _ _ fits).0
  where
    none_returned : {X : Type 0} (o : Option X) → is_none o ≡ true → o ≡ None
    none_returned None e = refl
    none_returned (Some f) e = cc e
taken_at (x ∷ cs) (v ∷ row) (suc i) c fits lt = taken_at cs row i c (and_parts (takes x v) (take_row cs row) fits).1 (omega arith)

-- ---- columns with a row more

same_kinds : (cs : List ColumnSpec) (r : Row) → length cs ≤ length r → map kind_of (with_row cs r) ≡ map kind_of cs
same_kinds [] r le = refl
same_kinds (c ∷ cs) [] le = absurd (omega arith)
same_kinds (c ∷ cs) (v ∷ r) le = ap (λ (ks : List Kind). kind_of c ∷ ks) (same_kinds cs r (omega arith))

-- as many as the fields of an order
pub declared_fields : (declared : List Column) (order fields : List ℕ) (cs : List ColumnSpec) → IsOrderOf declared order → fields ≡ inverse_order order → AreDeclared declared cs → length cs ≡ length fields
declared_fields declared order fields cs is inverse are =
    declared_length declared cs are ∙ sym is.long ∙ sym (inverse_length order fields inverse)

pub declared_kept : (declared : List Column) (order : List ℕ) (row : ℕ) (fields : Record) (cs after : List ColumnSpec) (r : Result (Unit {0}) LoadFault) → IsOrderOf declared order
    → AreDeclared declared cs → TakesRow (row_of declared order row fields) cs after r → OnOk r (AreDeclared declared after)
declared_kept declared order row fields cs after (Err f) is are returned = tt
declared_kept declared order row fields cs after (Ok _) is are (r, judged, e) =
    let long = long_row declared order row fields r judged in
    let wide = is.long in
    let many = declared_length declared cs are in
    ap (map kind_of) e ∙ same_kinds cs r (omega (arith, long, wide, many)) ∙ are

-- each column has a row more
pub rows_longer : (declared : List Column) (order : List ℕ) (row : ℕ) (fields : Record) (cs after : List ColumnSpec) (r : Result (Unit {0}) LoadFault) → IsOrderOf declared order
    → AreDeclared declared cs → TakesRow (row_of declared order row fields) cs after r → OnOk r (row_counts after ≡ map (λ n. n + 1) (row_counts cs))
rows_longer declared order row fields cs after (Err f) is are returned = tt
rows_longer declared order row fields cs after (Ok _) is are (r, judged, e) =
    let long = long_row declared order row fields r judged in
    let wide = is.long in
    let many = declared_length declared cs are in
    ap row_counts e ∙ one_longer cs r (omega (arith, long, wide, many))
  where
    one_longer : (cs : List ColumnSpec) (r : Row) → length cs ≤ length r → row_counts (with_row cs r) ≡ map (λ n. n + 1) (row_counts cs)
    one_longer [] r le = refl
    one_longer (c ∷ cs) [] le = absurd (omega arith)
    one_longer (c ∷ cs) (v ∷ r) le =
        let here : length (c.values ++ v ∷ []) ≡ length c.values + 1 = length-append c.values (v ∷ []) in
        let others = one_longer cs r (omega arith) in
        rw (here, others) refl

-- so many rows more, and one
pub longer_still : (counts now after : List ℕ) (i : ℕ) → now ≡ map (λ n. n + i) counts → after ≡ map (λ n. n + 1) now → after ≡ map (λ n. n + (i + 1)) counts
longer_still counts now after i so one = one ∙ ap (map (λ n. n + 1)) so ∙ added counts i
  where
    added : (counts : List ℕ) (i : ℕ) → map (λ n. n + 1) (map (λ n. n + i) counts) ≡ map (λ n. n + (i + 1)) counts
    added [] i = refl
    added (n ∷ counts) i =
        let here : n + i + 1 ≡ n + (i + 1) = omega arith in
        rw (here, added counts i) refl

pub none_longer : (counts : List ℕ) → counts ≡ map (λ n. n + 0) counts
none_longer [] = refl
none_longer (n ∷ counts) =
    let here : n + 0 ≡ n = omega arith in
    rw (here, sym (none_longer counts)) refl

-- the columns, of which the front has a value more, at an index
pub front_kind : (cs : List ColumnSpec) (values : Row) (i : ℕ) (c : ColumnSpec) → i ≤ length values → i < length cs
    → kind_of (get_or (with_row (take i cs) values ++ drop i cs) i c) ≡ kind_of (get_or cs i c)
front_kind cs values i c enough lt =
    let now = with_row (take i cs) values ++ drop i cs in
    let kinds : map kind_of now ≡ map kind_of cs = map-append kind_of (with_row (take i cs) values) (drop i cs)
    ∙ ap (λ (ks : List Kind). ks ++ map kind_of (drop i cs)) (same_kinds (take i cs) values (let t = length-take i cs in omega (arith, t)))
    ∙ sym (map-append kind_of (take i cs) (drop i cs)) ∙ ap (map kind_of) (take-append-drop i cs) in
    let long : length now ≡ length cs = sym (length-map now kind_of) ∙ ap length kinds ∙ length-map cs kind_of in
    sym (get_or-map kind_of now i c (kind_of c) (omega (arith, long))) ∙ ap (λ (ks : List Kind). get_or ks i (kind_of c)) kinds ∙ get_or-map kind_of cs i c (kind_of c) lt

-- ---- columns of no row

pub fresh_declared : (declared : List Column) → AreDeclared declared (columns_of declared [])
fresh_declared declared = from_index declared 0
  where
    from_index : (ds : List Column) (n : ℕ) → map kind_of (map (column_of []) (enumerate_from n ds)) ≡ map declared_kind ds
    from_index [] n = refl
    from_index (d ∷ ds) n = ap (λ (ks : List Kind). declared_kind d ∷ ks) (from_index ds (n + 1))

-- columns that had no rows have those that were put there
pub fresh_rows : (declared : List Column) (before after : List ColumnSpec) (n : ℕ) → before ≡ columns_of declared [] → row_counts after ≡ map (λ k. k + n) (row_counts before) → row_counts after ≡ map (λ _. n) declared
fresh_rows declared before after n fresh longer = longer ∙ ap (λ (cs : List ColumnSpec). map (λ k. k + n) (row_counts cs)) fresh ∙ from_index declared 0 n
  where
    from_index : (ds : List Column) (i n : ℕ) → map (λ k. k + n) (row_counts (map (column_of []) (enumerate_from i ds))) ≡ map (λ _. n) ds
    from_index [] i n = refl
    from_index (d ∷ ds) i n =
        let here : 0 + n ≡ n = omega arith in
        let others = from_index ds (i + 1) n in
        rw (here, others) refl
