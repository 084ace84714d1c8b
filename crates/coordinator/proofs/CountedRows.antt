-- A table that is loaded has as many rows as it may have.
use Rattle.std.proofs.Common.{◌≡◌, ◌≤◌, ◌<◌, ◌+◌, ℕ, zero, suc, true, List, [], ◌∷◌, map, length, take, get_or, Option, Some, None, Ok, Err, subst, inl, inr, refl, ap, ◌∙◌, arith}
use Rattle.std.specs.Prelude.{Result, nat_lt, nat_le, sum}
use Rattle.std.specs.List.{enumerate_from}
use Rattle.std.proofs.lemmas.Bool.{cases_Bool, cases_lt, ltb-false, leb-false}
use Rattle.std.proofs.lemmas.List.FromFn.{get_or-enumerate_from, length-enumerate_from}
use Rattle.meaning.specs.declared.catalog.Catalog.{Catalog}
use Rattle.meaning.specs.declared.catalog.Column.{Column}
use Rattle.meaning.specs.declared.catalog.Dimension.{Dimension}
use Rattle.meaning.specs.Limits.{max_rows}
use Rattle.meaning.specs.declared.table.TableFault.{TableFault}
use Rattle.meaning.specs.declared.table.TableFault.TheVariants as fault
use Rattle.meaning.specs.Order.{Row, column}
use Rattle.meaning.specs.Records.{Record, dimension_of, fact_of, file_order, is_header, is_repeated, key_of, judged_record, row_of, table_of, unless_few, unless_repeated}
use Rattle.meaning.specs.Results.{all_ok, and_then}
use Rattle.meaning.specs.Cut.{Cut}
use Rattle.loader.proofs.RowRuns.{ok_parts}

-- what goes on well went well before
pub went_on : {X Y E : Type 0} (r : Result X E) (next : X → Result Y E) (y : Y) → and_then r next ≡ Ok y → (x : X) × (r ≡ Ok x) × (next x ≡ Ok y)
went_on (Ok x) next y e = (x, refl, e)
went_on (Err f) next y e = cc e

-- all went well only if each did
module _ {A X E : Type 0} (judge : A → Result X E) where
  ok_at : (zs : List A) (xs : List X) (k : ℕ) (z : A) (x : X) → all_ok (map judge zs) ≡ Ok xs → k < length zs → judge (get_or zs k z) ≡ Ok (get_or xs k x)
  ok_at [] xs k z x e lt = absurd (omega arith)
  ok_at (a ∷ zs) xs zero z x e lt =
      let (y, ys, first, others, all) = ok_parts (judge a) (all_ok (map judge zs)) xs e in
      rw all first
  ok_at (a ∷ zs) xs (suc k) z x e lt =
      let (y, ys, first, others, all) = ok_parts (judge a) (all_ok (map judge zs)) xs e in
      rw all (ok_at zs ys k z x others (omega arith))

  ok_length : (zs : List A) (xs : List X) → all_ok (map judge zs) ≡ Ok xs → length xs ≡ length zs
  ok_length [] [] e = refl
  ok_length [] (x ∷ xs) e = cc e
  ok_length (a ∷ zs) xs e =
      let (y, ys, first, others, all) = ok_parts (judge a) (all_ok (map judge zs)) xs e in
      rw all (ap (λ n. suc n) (ok_length zs ys others))

-- a row that isn't refused for its key is the row
not_repeated : (key : Option ℕ) (i : ℕ) (earlier : List (Result Row TableFault)) (row v : Row) → unless_repeated key i earlier row ≡ Ok v → row ≡ v
not_repeated None i earlier row v e = cc e
not_repeated (Some key) i earlier row v e = elim (cases_Bool (is_repeated (column row key) (map (key_of key) earlier))) [
  | inl repeated ↦ let refused : ◌≡◌ {A = Result Row TableFault} (Err (fault.KeyTwice i)) (Ok v) = rw repeated at e in cc refused
  | inr fine ↦ let kept : ◌≡◌ {A = Result Row TableFault} (Ok row) (Ok v) = rw fine at e in cc kept
]

judged_row : (columns : List Column) (key : Option ℕ) (most : ℕ) (order : List ℕ) (records : List Record) (p : ℕ × Record) (v : Row) → judged_record columns key most order records p ≡ Ok v
    → (p.0 < most) × (row_of columns order p.0 p.1 ≡ Ok v)
judged_row columns key most order records p v e = elim (cases_Bool (nat_le most p.0)) [
  | inl over ↦ let refused : ◌≡◌ {A = Result Row TableFault} (Err fault.TooManyRows) (Ok v) = rw over at e in cc refused
  | inr within ↦
      let earlier = map (λ e. row_of columns order e.0 e.1) (enumerate_from 0 (take p.0 records)) in
      let (row, good, kept) = went_on (row_of columns order p.0 p.1) (unless_repeated key p.0 earlier) v (rw within at e) in
      (leb-false most p.0 within, good ∙ ap Ok (not_repeated key p.0 earlier row v kept))
]

-- what a table of records is made of
table_parts : (columns : List Column) (key : Option ℕ) (fewest most : ℕ) (header : Record) (records : List Record) (rows : List Row) → table_of columns key fewest most (header ∷ records) ≡ Ok rows
    → (is_header columns header ≡ true) × (all_ok (map (judged_record columns key most (file_order columns header) records) (enumerate_from 0 records)) ≡ Ok rows) × (fewest ≤ length rows)
table_parts columns key fewest most header records rows e = elim (cases_Bool (is_header columns header)) [
  | inr none ↦ let refused : ◌≡◌ {A = Result (List Row) TableFault} (Err fault.Header) (Ok rows) = rw none at e in cc refused
  | inl head ↦
      let judge = judged_record columns key most (file_order columns header) records in
      let (found, good, enough) = went_on (all_ok (map judge (enumerate_from 0 records))) (unless_few fewest) rows (rw head at e) in
      elim (cases_Bool (nat_lt (length found) fewest)) [
        | inl few ↦ let refused : ◌≡◌ {A = Result (List Row) TableFault} (Err fault.TooFewRows) (Ok rows) = rw few at enough in cc refused
        | inr many ↦
            let kept : ◌≡◌ {A = Result (List Row) TableFault} (Ok found) (Ok rows) = rw many at enough in
            let same : found ≡ rows = cc kept in
            let long = ltb-false (length found) fewest many in
            (head, good ∙ ap Ok same, subst (λ (r : List Row). fewest ≤ length r) same long)
      ]
]

-- a table has as many rows as it may have
counted_table : (columns : List Column) (key : Option ℕ) (fewest most : ℕ) (records : List Record) (rows : List Row) → table_of columns key fewest most records ≡ Ok rows
    → (fewest ≤ length rows) × (length rows ≤ most)
counted_table columns key fewest most [] rows e = cc e
counted_table columns key fewest most (header ∷ records) rows e =
    let order = file_order columns header in
    let judge = judged_record columns key most order records in
    let (head, good, enough) = table_parts columns key fewest most header records rows e in
    let long = ok_length judge (enumerate_from 0 records) rows good in
    elim (cases_lt most (length rows)) [
      | inr few ↦ (enough, few)
      | inl over ↦
          let own = ok_at judge (enumerate_from 0 records) rows most (0, []) [] good (omega (arith, long)) in
          let (within, is_row) = judged_row columns key most order records (get_or (enumerate_from 0 records) most (0, [])) (get_or rows most []) own in
          let same = get_or-enumerate_from 0 records most (0, []) (omega (arith, long, length-enumerate_from 0 records)) in
          let number_is : (get_or (enumerate_from 0 records) most (0, [])).0 ≡ 0 + most = ap (λ (p : ℕ × Record). p.0) same in
          absurd (omega (arith, within, number_is))
    ]

-- a fact table that is loaded has as many rows as the cut
pub counted_fact : (catalog : Catalog) (cut : Cut) (records : List Record) (rows : List Row) → fact_of catalog cut records ≡ Ok rows → length rows ≡ sum cut
counted_fact catalog cut records rows e =
    let count = counted_table catalog.fact.columns None (sum cut) (sum cut) records rows e in
    omega (arith, count.0, count.1)

-- a dimension that is loaded has no more rows than a dimension may have
pub counted_dimension : (d : Dimension) (records : List Record) (rows : List Row) → dimension_of d records ≡ Ok rows → length rows ≤ max_rows
counted_dimension d records rows e = (counted_table d.table.columns (Some d.key) 0 max_rows records rows e).1
