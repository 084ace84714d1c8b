-- Rows whose keys differ.
use Rattle.std.proofs.Common.{◌≡◌, ◌≤◌, ◌<◌, ℕ, zero, suc, ◌+◌, ◌-◌, Bool, true, false, not, List, [], ◌∷◌, ◌++◌, length, map, take, get_or, Ok, Err, Some, Option, refl, sym, ap, ◌∙◌, arith, zero-add, append_assoc}
use Rattle.std.specs.Prelude.{Result, if◌then◌else◌, nat_le, slice_get}
use Rattle.std.specs.List.{enumerate_from}
use Rattle.std.proofs.lemmas.Bool.{le-leb, lt-leb}
use Rattle.std.proofs.lemmas.List.{append-nil, length-append, map-append}
use Rattle.std.proofs.Math.Seq.{take-append_seam}
use Rattle.csv.specs.declared.reader.Reader.{Reader}
use Rattle.meaning.specs.declared.value.Value.{Value}
use Rattle.meaning.specs.declared.value.Value.TheVariants.{Null}
use Rattle.meaning.specs.declared.catalog.Column.{Column}
use Rattle.meaning.specs.declared.table.TableFault.{TableFault}
use Rattle.meaning.specs.declared.table.TableFault.TheVariants as fault
use Rattle.meaning.specs.Order.{Row, column}
use Rattle.meaning.specs.Records.{Record, row_of, judged_record, key_of, is_repeated, unless_repeated}
use Rattle.meaning.specs.Results.{all_ok, and_then}
use Rattle.columns.specs.Column.{ColumnSpec}
use Rattle.loader.specs.declared.fault.LoadFault.{LoadFault}
use Rattle.loader.specs.declared.fault.LoadFault.TheVariants.{Memory, Table, Device}
use Rattle.loader.specs.Columns.{last_in, with_row}
use Rattle.loader.proofs.Fragments.{long_row}
use Rattle.loader.specs.Source.{IsLeft}
use Rattle.loader.specs.Steps.{numbered_row, rows_of, with_rows, keyed_rows, is_more, TakesNextRow, TakesAll, TakesTable}
use Rattle.loader.proofs.RowRuns.{ok_parts, all_from, parts_from, row_more, rows_more}

-- ---- the last value of a column

at_end : (xs : List Value) (v : Value) → get_or (xs ++ v ∷ []) (length xs) Null ≡ v
at_end [] v = refl
at_end (x ∷ xs) v = at_end xs v

last_of : (xs : List Value) (v : Value) → get_or (xs ++ v ∷ []) (length (xs ++ v ∷ []) - 1) Null ≡ v
last_of xs v =
    let index : length (xs ++ v ∷ []) - 1 ≡ length xs = omega (arith, length-append xs (v ∷ [])) in
    ap (λ n. get_or (xs ++ v ∷ []) n Null) index ∙ at_end xs v

pub last_is : (cs : List ColumnSpec) (r : Row) (k : ℕ) → length r ≡ length cs → last_in (slice_get (with_row cs r) k) ≡ column r k
last_is [] [] k same = refl
last_is [] (v ∷ r) k same = absurd (omega (arith, same))
last_is (c ∷ cs) [] k same = absurd (omega (arith, same))
last_is (c ∷ cs) (v ∷ r) zero same = last_of c.values v
last_is (c ∷ cs) (v ∷ r) (suc k) same = last_is cs r k (omega (arith, same))

-- ---- keys

abbrev pub keys_in : ℕ → List Row → List Value
keys_in key rows = map (λ r. column r key) rows

keys_are : (declared : List Column) (order : List ℕ) (key first : ℕ) (before : List Record) (rows : List Row) → rows_of declared order first before ≡ Ok rows
    → map (key_of key) (map (λ e. row_of declared order e.0 e.1) (enumerate_from first before)) ≡ keys_in key rows
keys_are declared order key first [] [] e = refl
keys_are declared order key first [] (r ∷ rows) e = cc e
keys_are declared order key first (f ∷ before) rows e =
    let (r, rest, here, others, all) = ok_parts (numbered_row declared order (first, f)) (rows_of declared order (first + 1) before) rows e in
    ap (λ (v : Value). v ∷ map (key_of key) (map (λ e. row_of declared order e.0 e.1) (enumerate_from (first + 1) before))) (ap (key_of key) here)
    ∙ ap (λ (vs : List Value). column r key ∷ vs) (keys_are declared order key (first + 1) before rest others) ∙ sym (ap (keys_in key) all)

module _ (declared : List Column) (order : List ℕ) (key most : ℕ) (records before : List Record) (fields : Record) (others : List Record) (rows : List Row)
    (all : records ≡ before ++ fields ∷ others) (done : rows_of declared order 0 before ≡ Ok rows)
    (judged : all_ok (map (judged_record declared (Some key) most order records) (enumerate_from 0 before)) ≡ Ok rows) where
  abbrev judge : ℕ × Record → Result Row TableFault
  judge = judged_record declared (Some key) most order records

  front : take (length before) records ≡ before
  front = ap (take (length before)) all ∙ take-append_seam before (fields ∷ others)

  abbrev with_key : List Value → Row → Result Row TableFault
  with_key keys r = if is_repeated (column r key) keys then Err (fault.KeyTwice (length before)) else Ok r

  within : length before < most → judge (length before, fields) ≡ and_then (row_of declared order (length before) fields) (with_key (keys_in key rows))
  within lt =
      rw (lt-leb most (length before) lt) (ap (λ (vs : List Value). and_then (row_of declared order (length before) fields) (with_key vs))
      (ap (λ (rs : List Record). map (key_of key) (map (λ e. row_of declared order e.0 e.1) (enumerate_from 0 rs))) front ∙ keys_are declared order key 0 before rows done))

  -- the fault of the next record is that of all
  pub keyed_fault : (f : TableFault) → judge (length before, fields) ≡ Err f → keyed_rows declared order key most records ≡ Err f
  keyed_fault f e =
      let parts = parts_from judge 0 before (fields ∷ others) rows judged in
      let here : judge (0 + length before, fields) ≡ Err f = ap (λ n. judge (n, fields)) (zero-add (length before)) ∙ e in
      ap (all_from judge 0) all ∙ parts ∙ rw here refl

  pub row_fault : (f : TableFault) → length before < most → row_of declared order (length before) fields ≡ Err f → keyed_rows declared order key most records ≡ Err f
  row_fault f lt e = keyed_fault f (within lt ∙ rw e refl)

  pub key_fault : (r : Row) → length before < most → row_of declared order (length before) fields ≡ Ok r → is_repeated (column r key) (keys_in key rows) ≡ true
      → keyed_rows declared order key most records ≡ Err (fault.KeyTwice (length before))
  key_fault r lt e repeated = keyed_fault (fault.KeyTwice (length before)) (within lt ∙ rw (e, repeated) refl)

  pub many_fault : most ≤ length before → keyed_rows declared order key most records ≡ Err fault.TooManyRows
  many_fault over = keyed_fault fault.TooManyRows (rw (le-leb most (length before) over) refl)

  pub key_more : (r : Row) → length before < most → row_of declared order (length before) fields ≡ Ok r → is_repeated (column r key) (keys_in key rows) ≡ false
      → all_ok (map judge (enumerate_from 0 (before ++ fields ∷ []))) ≡ Ok (rows ++ r ∷ [])
  key_more r lt e new =
      let here : judge (length before, fields) ≡ Ok r = within lt ∙ rw (e, new) refl in
      let there : judge (0 + length before, fields) ≡ Ok r = ap (λ n. judge (n, fields)) (zero-add (length before)) ∙ here in
      parts_from judge 0 before (fields ∷ []) rows judged ∙ rw there refl

-- all records were taken
pub keyed_end : (declared : List Column) (order : List ℕ) (key most : ℕ) (records before later : List Record) (rows : List Row) → records ≡ before ++ later → later ≡ []
    → all_ok (map (judged_record declared (Some key) most order records) (enumerate_from 0 before)) ≡ Ok rows → keyed_rows declared order key most records ≡ Ok rows
keyed_end declared order key most records before later rows all none judged =
    let same : records ≡ before = all ∙ ap (λ (l : List Record). before ++ l) none ∙ append-nil before in
    ap (λ (rs : List Record). all_ok (map (judged_record declared (Some key) most order records) (enumerate_from 0 rs))) same ∙ judged

-- ---- from one record to the next

negated : (a b : Bool) → a ≡ not b → a ≡ false → b ≡ true
negated a true e f = refl
negated a false e f = cc (e, f)

affirmed : (a b : Bool) → a ≡ not b → a ≡ true → b ≡ false
affirmed a false e f = refl
affirmed a true e f = cc (e, f)

module _ {R : Type 0} (known : R → Option (List ℕ)) (reader : Reader R) (declared : List Column) (order : List ℕ) (key most : ℕ) (columns now after : List ColumnSpec) (records before later : List Record) (rows : List Row)
    (all : records ≡ before ++ later) (done : rows_of declared order 0 before ≡ Ok rows)
    (judged : all_ok (map (judged_record declared (Some key) most order records) (enumerate_from 0 before)) ≡ Ok rows) (kept : now ≡ with_rows columns rows) where
  pub all_refused : (e : LoadFault) → length before < most → TakesNextRow known declared order (length before) later now after reader (Err e) → TakesAll declared order key most records columns after (Err e)
  all_refused (Table f) lt (fields, others, next, e) =
      row_fault declared order key most records before fields others rows (all ∙ ap (λ (l : List Record). before ++ l) next) done judged f lt e
  all_refused Memory lt taken = tt
  all_refused Device lt taken = tt

  pub all_taken : (found : Bool) → found ≡ false → TakesNextRow known declared order (length before) later now after reader (Ok found)
      → (zs : List Row) × (keyed_rows declared order key most records ≡ Ok zs) × (after ≡ with_rows columns zs)
  all_taken true e taken = cc e
  all_taken false e (none, same) = (rows, keyed_end declared order key most records before later rows all none judged, same ∙ kept)

  -- a row whose key is taken or new
  pub one_row : (found : Bool) → found ≡ true → TakesNextRow known declared order (length before) later now after reader (Ok found) → length order ≡ length now → length before < most → (v : Value)
      → v ≡ last_in (slice_get after key)
      → (added : Bool) → added ≡ not (is_repeated v (keys_in key rows))
      → (added ≡ false → keyed_rows declared order key most records ≡ Err (fault.KeyTwice (length before)))
      × (added ≡ true → (xs ys : List Record) × (zs : List Row) × (records ≡ xs ++ ys) × (length xs ≡ length before + 1) × (rows_of declared order 0 xs ≡ Ok zs)
      × (all_ok (map (judged_record declared (Some key) most order records) (enumerate_from 0 xs)) ≡ Ok zs) × (after ≡ with_rows columns zs) × (keys_in key zs ≡ keys_in key rows ++ v ∷ []) × IsLeft known reader ys)
  one_row false e taken wide limit v value added new = cc e
  one_row true e (fields, others, r, next, row, one_more, left) wide limit v value added new =
      let split = all ∙ ap (λ (l : List Record). before ++ l) next in
      let its_key : v ≡ column r key = value ∙ ap (λ (cs : List ColumnSpec). last_in (slice_get cs key)) one_more ∙ last_is now r key (long_row declared order (length before) fields r row ∙ wide) in
      let tested : added ≡ not (is_repeated (column r key) (keys_in key rows)) = new ∙ ap (λ (k : Value). not (is_repeated k (keys_in key rows))) its_key in (
        λ old. key_fault declared order key most records before fields others rows split done judged r limit row (negated added (is_repeated (column r key) (keys_in key rows)) tested old),
        λ fresh. (
          before ++ fields ∷ [],
          others,
          rows ++ r ∷ [],
          split ∙ sym (append_assoc before (fields ∷ []) others),
          length-append before (fields ∷ []),
          row_more declared order 0 before fields rows r done (ap (λ n. row_of declared order n fields) (zero-add (length before)) ∙ row),
          key_more declared order key most records before fields others rows split done judged r limit row (affirmed added (is_repeated (column r key) (keys_in key rows)) tested fresh),
          one_more ∙ ap (λ (cs : List ColumnSpec). with_row cs r) kept ∙ rows_more columns rows r,
          map-append (λ (x : Row). column x key) rows (r ∷ []) ∙ ap (λ (k : Value). keys_in key rows ++ k ∷ []) (sym its_key),
          left,
        ),
      )

  pub all_many : (found : Bool) → found ≡ true → most ≤ length before → found ≡ is_more later → keyed_rows declared order key most records ≡ Err fault.TooManyRows
  all_many found e over more = by_later later refl
    where
      by_later : (l : List Record) → later ≡ l → keyed_rows declared order key most records ≡ Err fault.TooManyRows
      by_later [] none = let nothing : found ≡ false = more ∙ ap is_more none in cc (e, nothing)
      by_later (fields ∷ others) next = many_fault declared order key most records before fields others rows (all ∙ ap (λ (l : List Record). before ++ l) next) done judged over

  pub all_done : (found : Bool) → found ≡ false → found ≡ is_more later → (zs : List Row) × (keyed_rows declared order key most records ≡ Ok zs) × (now ≡ with_rows columns zs)
  all_done found e more = by_later later refl
    where
      by_later : (l : List Record) → later ≡ l → (zs : List Row) × (keyed_rows declared order key most records ≡ Ok zs) × (now ≡ with_rows columns zs)
      by_later [] none = (rows, keyed_end declared order key most records before later rows all none judged, kept)
      by_later (fields ∷ others) next = let something : found ≡ true = more ∙ ap is_more next in cc (e, something)

-- a fault of rows is one of the table
pub table_refused : (declared : List Column) (order : List ℕ) (key most : ℕ) (rest : List Record) (before after : List ColumnSpec) (e : LoadFault)
    → TakesAll declared order key most rest before after (Err e) → TakesTable declared (keyed_rows declared order key most rest) (Err e)
table_refused declared order key most rest before after (Table f) taken = taken
table_refused declared order key most rest before after Memory taken = tt
table_refused declared order key most rest before after Device taken = tt

by_key : (b : Bool) (row : Row) (i : ℕ) (r : Row) → (if b then Err (fault.KeyTwice i) else Ok row) ≡ Ok r → ◌≡◌ {A = Result Row TableFault} (Ok row) (Ok r)
by_key true row i r e = cc e
by_key false row i r e = e

-- rows that were judged with their keys were judged by themselves
by_own : (b : Bool) (most i : ℕ) (own : Result Row TableFault) (key : ℕ) (earlier : List (Result Row TableFault)) (r : Row)
    → (if b then Err fault.TooManyRows else and_then own (unless_repeated (Some key) i earlier)) ≡ Ok r → own ≡ Ok r
by_own true most i own key earlier r e = cc e
by_own false most i (Err f) key earlier r e = cc e
by_own false most i (Ok row) key earlier r e = by_key (is_repeated (column row key) (map (key_of key) earlier)) row i r e

pub own_rows : (declared : List Column) (order : List ℕ) (key most : ℕ) (whole : List Record) (first : ℕ) (records : List Record) (rows : List Row)
    → all_ok (map (judged_record declared (Some key) most order whole) (enumerate_from first records)) ≡ Ok rows → rows_of declared order first records ≡ Ok rows
own_rows declared order key most whole first [] rows e = e
own_rows declared order key most whole first (f ∷ records) rows e =
    let (r, rest, here, others, all) = ok_parts (judged_record declared (Some key) most order whole (first, f)) (all_ok (map (judged_record declared (Some key) most order whole) (enumerate_from (first + 1) records))) rows e in
    let own = by_own (nat_le most first) most first (row_of declared order first f) key (map (λ e. row_of declared order e.0 e.1) (enumerate_from 0 (take first whole))) r here in
    let more = own_rows declared order key most whole (first + 1) records rest others in
    rw (own, more) (sym (ap Ok all))
