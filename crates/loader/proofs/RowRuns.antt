-- The rows of records one behind the other.
use Rattle.std.proofs.Common.{◌≡◌, ◌≤◌, ◌<◌, ℕ, suc, ◌+◌, ◌-◌, Bool, true, false, List, [], ◌∷◌, ◌++◌, length, map, take, drop, Ok, Err, refl, sym, ap, ◌∙◌, arith, append_assoc, Option}
use Rattle.std.specs.Prelude.{Result}
use Rattle.std.specs.List.{enumerate_from}
use Rattle.std.proofs.lemmas.Bool.{lt-ltb, le-ltb}
use Rattle.std.proofs.lemmas.List.{append-nil, length-append, take_all}
use Rattle.std.proofs.Math.Seq.{take-append_seam, take-append-add, drop-append_seam}
use Rattle.meaning.specs.declared.catalog.Column.{Column}
use Rattle.meaning.specs.declared.table.TableFault.{TableFault}
use Rattle.meaning.specs.declared.table.TableFault.TheVariants as fault
use Rattle.meaning.specs.Order.{Row}
use Rattle.meaning.specs.Records.{Record, row_of}
use Rattle.meaning.specs.Results.{all_ok, and_then, with_result}
use Rattle.columns.specs.Column.{ColumnSpec}
use Rattle.loader.specs.Columns.{with_row}
use Rattle.csv.specs.declared.reader.Reader.{Reader}
use Rattle.loader.specs.declared.fault.LoadFault.{LoadFault}
use Rattle.loader.specs.declared.fault.LoadFault.TheVariants.{Memory, Table, Device}
use Rattle.loader.specs.Source.{IsLeft}
use Rattle.loader.specs.Steps.{numbered_row, rows_of, with_rows, enough_rows, TakesFragment, TakesNextRow, TakesRows}

-- all went well only if each did
pub ok_parts : {X E : Type 0} (r : Result X E) (rs : Result (List X) E) (xs : List X) → with_result r rs ≡ Ok xs → (y : X) × (ys : List X) × (r ≡ Ok y) × (rs ≡ Ok ys) × (xs ≡ y ∷ ys)
ok_parts (Err f) rs xs e = cc e
ok_parts (Ok y) (Err f) xs e = cc e
ok_parts (Ok y) (Ok ys) xs e = (y, ys, refl, refl, cc e)

-- results behind a list of those before them
abbrev pub behind : {X E : Type 0} → List X → Result (List X) E → Result (List X) E
behind before all = and_then all (λ more. Ok (before ++ more))

pub behind_none : {X E : Type 0} (all : Result (List X) E) → all ≡ behind [] all
behind_none (Ok xs) = refl
behind_none (Err e) = refl

behind_one : {X E : Type 0} (x : X) (before : List X) (all : Result (List X) E) → with_result (Ok x) (behind before all) ≡ behind (x ∷ before) all
behind_one x before (Ok xs) = refl
behind_one x before (Err e) = refl

-- a result in front of others that are known
in_front : {X E : Type 0} (r : Result X E) (y : X) (all more : Result (List X) E) (done rest : List X) → r ≡ Ok y → all ≡ behind rest more → done ≡ y ∷ rest → with_result r all ≡ behind done more
in_front r y all more done rest here others whole = rw (here, others, whole) (behind_one y rest more)

module _ {A X E : Type 0} (judge : ℕ × A → Result X E) where
  abbrev pub all_from : ℕ → List A → Result (List X) E
  all_from first zs = all_ok (map judge (enumerate_from first zs))

  -- what becomes of two lists is what becomes of the second behind the first's
  pub parts_from : (first : ℕ) (xs ys : List A) (done : List X) → all_from first xs ≡ Ok done → all_from first (xs ++ ys) ≡ behind done (all_from (first + length xs) ys)
  parts_from first [] ys [] e = let same : first + 0 ≡ first = omega arith in rw same (behind_none (all_from first ys))
  parts_from first [] ys (d ∷ done) e = cc e
  parts_from first (x ∷ xs) ys done e =
      let (y, rest, here, others, all) = ok_parts (judge (first, x)) (all_from (first + 1) xs) done e in
      let index : first + 1 + length xs ≡ first + suc (length xs) = omega arith in
      let more = parts_from (first + 1) xs ys rest others ∙ ap (λ n. behind rest (all_from n ys)) index in
      in_front (judge (first, x)) y (all_from (first + 1) (xs ++ ys)) (all_from (first + suc (length xs)) ys) done rest here more all

module _ (declared : List Column) (order : List ℕ) where
  -- one row more
  pub row_more : (first : ℕ) (before : List Record) (fields : Record) (rows : List Row) (r : Row) → rows_of declared order first before ≡ Ok rows
      → row_of declared order (first + length before) fields ≡ Ok r → rows_of declared order first (before ++ fields ∷ []) ≡ Ok (rows ++ r ∷ [])
  row_more first before fields rows r e here = parts_from (numbered_row declared order) first before (fields ∷ []) rows e ∙ rw here refl

  -- a fault behind rows that are well
  row_fails : (first : ℕ) (before more : List Record) (fields : Record) (rows : List Row) (f : TableFault) → rows_of declared order first before ≡ Ok rows
      → row_of declared order (first + length before) fields ≡ Err f → rows_of declared order first (before ++ fields ∷ more) ≡ Err f
  row_fails first before more fields rows f e here = parts_from (numbered_row declared order) first before (fields ∷ more) rows e ∙ rw here refl

  fails_first : (first count : ℕ) (records : List Record) (f : TableFault) → rows_of declared order first (take count records) ≡ Err f → enough_rows declared order first count records ≡ Err f
  fails_first first count records f e = rw e refl

  -- the fault is the fault of so many rows
  pub fault_within : (first count : ℕ) (before others : List Record) (fields : Record) (rows : List Row) (f : TableFault) → length before < count → rows_of declared order first before ≡ Ok rows
      → row_of declared order (first + length before) fields ≡ Err f → enough_rows declared order first count (before ++ fields ∷ others) ≡ Err f
  fault_within first count before others fields rows f lt e here =
      let split : count ≡ length before + suc (count - length before - 1) = omega (arith, lt) in
      let front = ap (λ n. take n (before ++ fields ∷ others)) split ∙ take-append-add before (fields ∷ others) (suc (count - length before - 1)) in
      fails_first first count (before ++ fields ∷ others) f (ap (rows_of declared order first) front ∙ row_fails first before (take (count - length before - 1) others) fields rows f e here)

  -- there are too few
  pub too_few : (first count : ℕ) (before : List Record) (rows : List Row) → length before < count → rows_of declared order first before ≡ Ok rows
      → enough_rows declared order first count (before ++ []) ≡ Err fault.TooFewRows
  too_few first count before rows lt e =
      rw (append-nil before, take_all count before (omega arith), e, lt-ltb (length before) count lt) refl

  -- there are enough
  pub are_enough : (first count : ℕ) (rest before later : List Record) (rows : List Row) → rest ≡ before ++ later → length before ≡ count → rows_of declared order first before ≡ Ok rows
      → enough_rows declared order first count rest ≡ Ok rows
  are_enough first count rest before later rows all long e =
      let fewer : count ≤ length rest = omega (arith, ap length all, length-append before later, long) in
      let front : take count rest ≡ before = rw (all, sym long) (take-append_seam before later) in
      rw (front, e, le-ltb (length rest) count fewer) refl

-- one row more in columns
pub rows_more : (columns : List ColumnSpec) (rows : List Row) (r : Row) → with_row (with_rows columns rows) r ≡ with_rows columns (rows ++ r ∷ [])
rows_more columns [] r = refl
rows_more columns (row ∷ rows) r = rows_more (with_row columns row) rows r

-- what is behind the records that were taken
pub left_behind : {R : Type 0} (known : R → Option (List ℕ)) (reader : Reader R) (count : ℕ) (rest before later : List Record) → rest ≡ before ++ later → length before ≡ count → IsLeft known reader later
    → IsLeft known reader (drop count rest)
left_behind known reader count rest before later all long left = rw (all, sym long, drop-append_seam before later) left

-- the same under other names
pub as_meant : {R : Type 0} (known : R → Option (List ℕ)) (reader : Reader R) (declared declared2 : List Column) (order order2 : List ℕ) (row row2 : ℕ) (rest : List Record) (now after : List ColumnSpec) (result : Result Bool LoadFault)
    → declared2 ≡ declared → order2 ≡ order → row2 ≡ row → TakesNextRow known declared2 order2 row2 rest now after reader result → TakesNextRow known declared order row rest now after reader result
as_meant known reader declared declared2 order order2 row row2 rest now after result same ordered numbered taken = rw (sym same, sym ordered, sym numbered) taken

module _ {R : Type 0} (known : R → Option (List ℕ)) (reader : Reader R) (declared : List Column) (order : List ℕ) (first count : ℕ) (columns now after : List ColumnSpec) (rest before later : List Record) (rows : List Row)
    (all : rest ≡ before ++ later) (within : length before < count) (done : rows_of declared order first before ≡ Ok rows) where
  -- a record's fault is returned
  pub next_refused : (e : LoadFault) → TakesNextRow known declared order (first + length before) later now after reader (Err e)
      → TakesRows known declared order first count rest columns after reader (Err e)
  next_refused (Table f) (fields, others, next, judged) = rw (all, next) (fault_within declared order first count before others fields rows f within done judged)
  next_refused Memory taken = tt
  next_refused Device taken = tt

  -- there is no next record
  pub next_missing : (found : Bool) → found ≡ false → TakesNextRow known declared order (first + length before) later now after reader (Ok found)
      → enough_rows declared order first count rest ≡ Err fault.TooFewRows
  next_missing true e taken = cc e
  next_missing false e (none, same) = rw (all, none) (too_few declared order first count before rows within done)

  -- one row more
  pub next_taken : (found : Bool) → found ≡ true → now ≡ with_rows columns rows → TakesNextRow known declared order (first + length before) later now after reader (Ok found)
      → (xs ys : List Record) × (zs : List Row) × (rest ≡ xs ++ ys) × (length xs ≡ length before + 1) × (rows_of declared order first xs ≡ Ok zs) × (after ≡ with_rows columns zs) × IsLeft known reader ys
  next_taken false e kept taken = cc e
  next_taken true e kept (fields, others, r, next, judged, one_more, left) = (
    before ++ fields ∷ [],
    others,
    rows ++ r ∷ [],
    rw (all, next) (sym (append_assoc before (fields ∷ []) others)),
    length-append before (fields ∷ []),
    row_more declared order first before fields rows r done judged,
    rw (one_more, kept) (rows_more columns rows r),
    left,
  )

-- a fault of rows is one of the fragment
pub fragment_refused : {R : Type 0} (known : R → Option (List ℕ)) (reader : Reader R) (declared : List Column) (order : List ℕ) (first count : ℕ) (rest : List Record) (before after : List ColumnSpec) (e : LoadFault)
    → TakesRows known declared order first count rest before after reader (Err e) → TakesFragment known declared order first count rest reader (Err e)
fragment_refused known reader declared order first count rest before after (Table f) taken = taken
fragment_refused known reader declared order first count rest before after Memory taken = tt
fragment_refused known reader declared order first count rest before after Device taken = tt
