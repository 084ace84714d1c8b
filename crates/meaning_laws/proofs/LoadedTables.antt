-- A table that loads: its rows have values for its columns, it has as many rows as were asked for, and no key
-- stands in it twice.
use Rattle.std.proofs.Common.{◌≡◌, ℕ, suc, ◌+◌, ◌<◌, ◌≤◌, Bool, true, false, cond, ◌&&◌, not, List, [], ◌∷◌, ◌++◌, map, take, length, refl, sym, ap, subst, ◌∙◌, arith, append_assoc}
use Rattle.std.specs.Prelude.{◌||◌, nat_lt, nat_le, filter, Option, Some, None, Result, Ok, Err}
use Rattle.std.specs.List.{list_any, enumerate_from}
use Rattle.std.specs.Cmp.Lexicographic.{pointwise}
use Rattle.std.proofs.lemmas.Bool.{ltb-false}
use Rattle.std.proofs.lemmas.Bool.Decides.{nat_tests}
use Rattle.std.proofs.lemmas.List.{map-append, length-append}
use Rattle.meaning.specs.declared.value.Value.{Value}
use Rattle.meaning.specs.declared.catalog.Column.{Column}
use Rattle.meaning.specs.declared.catalog.Table.{Table}
use Rattle.meaning.specs.declared.table.TableFault.{TableFault}
use Rattle.meaning.specs.Catalog.{IsWellFormedTable}
use Rattle.meaning.specs.Order.{Row, column, is_null, same_value}
use Rattle.meaning.specs.Dimensions.{IsUniqueIn}
use Rattle.meaning.specs.Results.{all_ok, and_then}
use Rattle.meaning.specs.Records.{Record, is_header, file_order, row_of, key_of, is_repeated, unless_repeated, judged_record, unless_few, table_of}
use Rattle.meaning.specs.TableLaws.{is_value_of, are_rows_of}
use Rattle.meaning.proofs.Tests.{first_of, second_of}
use Rattle.meaning.proofs.Same.{same_is}
use Rattle.meaning_laws.proofs.LoadedRows.{front_ok, all_ok-pass, row_taken}

-- ---- what a table that loads consists of

record Loads (columns : List Column) (key : Option ℕ) (fewest most : ℕ) (rows : List Row) : Type 0 where
  header : Record
  records : List Record
  named : is_header columns header ≡ true
  judged : all_ok (map (judged_record columns key most (file_order columns header) records) (enumerate_from 0 records))
      ≡ Ok rows
  enough : nat_lt (length rows) fewest ≡ false

few_ok : (fewest : ℕ) (r : Result (List Row) TableFault) (rows : List Row) → and_then r (unless_few fewest)
    ≡ Ok rows → (r ≡ Ok rows) × (nat_lt (length rows) fewest ≡ false)
few_ok fewest (Err f) rows e = cc
few_ok fewest (Ok given) rows e =
    let parts : (given ≡ rows) × (nat_lt (length rows) fewest ≡ false) =
    elim (nat_lt (length given) fewest) as
    (λ b. nat_lt (length given) fewest ≡ b → cond b (Err TableFault.TooFewRows) (Ok given)
    ≡ Ok rows → (given ≡ rows) × (nat_lt (length rows) fewest ≡ false)) [
      | true ↦ λ _ bad. cc
      | false ↦ λ enough same. let is : given ≡ rows = cc in
          (is, ap (λ (xs : List Row). nat_lt (length xs) fewest) (sym is) ∙ enough)
    ] refl e in
    (ap (λ (xs : List Row). Ok xs) parts.0, parts.1)

loads : (columns : List Column) (key : Option ℕ) (fewest most : ℕ) (all : List Record) (rows : List Row)
    → table_of columns key fewest most all ≡ Ok rows → Loads columns key fewest most rows
loads columns key fewest most [] rows e = cc
loads columns key fewest most (header ∷ records) rows e =
    elim (is_header columns header) as
    (λ b. is_header columns header ≡ b
    → cond b (and_then (all_ok (map (judged_record columns key most (file_order columns header) records)
    (enumerate_from 0 records))) (unless_few fewest)) (Err TableFault.Header)
    ≡ Ok rows → Loads columns key fewest most rows) [
      | true ↦ λ named good. let parts = few_ok fewest _ rows good in
          record { header = header; records = records; named = named; judged = parts.0; enough = parts.1 }
      | false ↦ λ _ bad. cc
    ] refl e

-- ---- one record

-- no earlier row has the key
abbrev IsNew : Option ℕ → List (Result Row TableFault) → Row → Type 0
IsNew None earlier row = Unit {0}
IsNew (Some key) earlier row = is_repeated (column row key) (map (key_of key) earlier) ≡ false

new_ok : (key : Option ℕ) (i : ℕ) (earlier : List (Result Row TableFault)) (r : Result Row TableFault) (row : Row)
    → and_then r (unless_repeated key i earlier) ≡ Ok row → (r ≡ Ok row) × IsNew key earlier row
new_ok key i earlier (Err f) row e = cc
new_ok None i earlier (Ok given) row e = (e, tt)
new_ok (Some key) i earlier (Ok given) row e =
    let parts : (given ≡ row) × IsNew (Some key) earlier row =
    elim (is_repeated (column given key) (map (key_of key) earlier)) as
    (λ b. is_repeated (column given key) (map (key_of key) earlier)
    ≡ b → cond b (Err (TableFault.KeyTwice i)) (Ok given) ≡ Ok row → (given ≡ row) × IsNew (Some key) earlier row) [
      | true ↦ λ _ bad. cc
      | false ↦ λ new same. let is : given ≡ row = cc in (is, subst (IsNew (Some key) earlier) is new)
    ] refl e in
    (ap (λ (r : Row). Ok r) parts.0, parts.1)

module _ (columns : List Column) (key : Option ℕ) (most : ℕ) (order : List ℕ) (records : List Record) where
  abbrev row_at : ℕ × Record → Result Row TableFault
  row_at p = row_of columns order p.0 p.1

  -- the row of the record stands, it is among the most, and its key is new
  pub judged_ok : (p : ℕ × Record) (row : Row) → judged_record columns key most order records p
      ≡ Ok row → (nat_le most p.0 ≡ false) × (row_at p ≡ Ok row) × IsNew key
      (map row_at (enumerate_from 0 (take p.0 records))) row
  judged_ok p row e =
      elim (nat_le most p.0) as (λ b. nat_le most p.0
      ≡ b → cond b (Err TableFault.TooManyRows)
      (and_then (row_at p) (unless_repeated key p.0 (map row_at (enumerate_from 0 (take p.0 records)))))
      ≡ Ok row → (nat_le most p.0 ≡ false) × (row_at p ≡ Ok row) × IsNew key
      (map row_at (enumerate_from 0 (take p.0 records))) row) [
        | true ↦ λ _ bad. cc
        | false ↦ λ few good. let parts =
            new_ok key p.0 (map row_at (enumerate_from 0 (take p.0 records))) (row_at p) row good in
            (few, parts.0, parts.1)
      ] refl e

-- ---- values and numbers of rows

pub rows_typed : (table : Table) (key : Option ℕ) (fewest most : ℕ) (all : List Record) (rows : List Row)
    → IsWellFormedTable table → table_of table.columns key fewest most all ≡ Ok rows → are_rows_of table.columns rows
    ≡ true
rows_typed table key fewest most all rows is e =
    let l = loads table.columns key fewest most all rows e in
    let order = file_order table.columns l.header in
    all_ok-pass (judged_record table.columns key most order l.records) (pointwise is_value_of table.columns)
    (λ p row good. row_taken table is p.0 l.header l.named p.1 row
    (judged_ok table.columns key most order l.records p row good).1) (enumerate_from 0 l.records) rows l.judged

numbers_below : (columns : List Column) (key : Option ℕ) (most : ℕ) (order : List ℕ) (records : List Record) (n : ℕ)
    (rest : List Record) (rows : List Row) → n ≤ most
    → all_ok (map (judged_record columns key most order records) (enumerate_from n rest))
    ≡ Ok rows → (n + length rest ≤ most) × (length rows ≡ length rest)
numbers_below columns key most order records n [] rows below e = let none : [] ≡ rows = cc in
    (omega arith, ap length (sym none))
numbers_below columns key most order records n (r ∷ rest) rows below e =
    let parts = front_ok (judged_record columns key most order records (n, r))
    (all_ok (map (judged_record columns key most order records) (enumerate_from (n + 1) rest))) rows e in
    let here = (judged_ok columns key most order records (n, r) parts.first parts.here).0 in
    let under : n < most = grind (arith, nat_tests) in
    let more = numbers_below columns key most order records (n + 1) rest parts.later (omega arith) parts.behind in
    let many = ap length parts.whole in
    (omega arith, omega arith)

-- where just so many rows are asked for, there are so many
pub rows_counted : (columns : List Column) (key : Option ℕ) (n : ℕ) (all : List Record) (rows : List Row)
    → table_of columns key n n all ≡ Ok rows → n ≡ length rows
rows_counted columns key n all rows e =
    let l = loads columns key n n all rows e in
    let below = numbers_below columns key n (file_order columns l.header) l.records 0 l.records rows
    (omega arith) l.judged in
    let enough = ltb-false (length rows) n l.enough in
    omega arith

-- ---- keys

-- no value but NULL stands among those before it
abbrev no_repeats : List Value → List Value → Bool
no_repeats earlier [] = true
no_repeats earlier (v ∷ vs) = not (is_repeated v earlier) && no_repeats (earlier ++ v ∷ []) vs

any_last : (p : Value → Bool) (xs : List Value) (x : Value) → p x ≡ true → list_any p (xs ++ x ∷ []) ≡ true
any_last p [] x e = ap (λ b. b || false) e
any_last p (y ∷ ys) x e = elim (p y) as
    (λ b. (b || list_any p (ys ++ x ∷ [])) ≡ true) [ true ↦ refl | false ↦ any_last p ys x e ]

any_longer : (p : Value → Bool) (xs ys : List Value) → list_any p xs ≡ true → list_any p (xs ++ ys) ≡ true
any_longer p [] ys e = cc
any_longer p (x ∷ xs) ys e =
    elim (p x) as (λ b. (b || list_any p xs) ≡ true → (b || list_any p (xs ++ ys))
    ≡ true) [ true ↦ λ _. refl | false ↦ λ rest. any_longer p xs ys rest ] e

module _ (v : Value) (there : is_null v ≡ false) where
  among : List Value → List Value
  among xs = filter (same_value v) xs

  none_later : (earlier vs : List Value) → list_any (same_value v) earlier ≡ true → no_repeats earlier vs
      ≡ true → length (filter (same_value v) vs) ≡ 0
  none_later earlier [] known new = refl
  none_later earlier (x ∷ vs) known new =
      elim (same_value v x) as (λ b. same_value v x
      ≡ b → length (cond b (x ∷ filter (same_value v) vs) (filter (same_value v) vs)) ≡ 0) [
        | true ↦ λ same.
            let is = same_is v x same in
            let bad : is_repeated x earlier
            ≡ true = ap (λ w. is_repeated w earlier) (sym is)
            ∙ ap (λ b. not b && list_any (same_value v) earlier) there ∙ known in
            absurd (never (is_repeated x earlier) bad (first_of _ _ new))
        | false ↦ λ _. none_later (earlier ++ x ∷ []) vs (any_longer (same_value v) earlier (x ∷ []) known)
            (second_of _ _ new)
      ] refl
    where
      never : (b : Bool) → b ≡ true → not b ≡ true → ⊥
      never true e n = cc
      never false e n = cc

  once_at_most : (earlier vs : List Value) → no_repeats earlier vs ≡ true → length (filter (same_value v) vs) ≤ 1
  once_at_most earlier [] new = omega arith
  once_at_most earlier (x ∷ vs) new =
      elim (same_value v x) as (λ b. same_value v x
      ≡ b → length (cond b (x ∷ filter (same_value v) vs) (filter (same_value v) vs)) ≤ 1) [
        | true ↦ λ same. let later : no_repeats (earlier ++ x ∷ []) vs
            ≡ true = second_of (not (is_repeated x earlier)) (no_repeats (earlier ++ x ∷ []) vs) new in
            let none : length (filter (same_value v) vs)
            ≡ 0 = none_later (earlier ++ x ∷ []) vs (any_last (same_value v) earlier x same) later in omega arith
        | false ↦ λ _. once_at_most (earlier ++ x ∷ []) vs (second_of _ _ new)
      ] refl

filter_keys : (v : Value) (key : ℕ) (rows : List Row) → length (filter (λ row. same_value v (column row key)) rows)
    ≡ length (filter (same_value v) (map (λ row. column row key) rows))
filter_keys v key [] = refl
filter_keys v key (r ∷ rows) =
    elim (same_value v (column r key)) as
    (λ b. length (cond b (r ∷ filter (λ row. same_value v (column row key)) rows)
    (filter (λ row. same_value v (column row key)) rows))
    ≡ length (cond b (column r key ∷ filter (same_value v) (map (λ row. column row key) rows))
    (filter (same_value v) (map (λ row. column row key) rows)))) [
      | true ↦ ap (λ n. suc n) (filter_keys v key rows)
      | false ↦ filter_keys v key rows
    ]

enumerate_from-append : {X : Type 0} (n : ℕ) (xs ys : List X) → enumerate_from n (xs ++ ys)
    ≡ enumerate_from n xs ++ enumerate_from (n + length xs) ys
enumerate_from-append n [] ys = let same : n ≡ n + 0 = omega arith in ap (λ k. enumerate_from k ys) same
enumerate_from-append n (x ∷ xs) ys =
    let moved : (n + 1) + length xs ≡ n + suc (length xs) = omega arith in
    ap (λ es. (n, x) ∷ es) (enumerate_from-append (n + 1) xs ys
    ∙ ap (λ k. enumerate_from (n + 1) xs ++ enumerate_from k ys) moved)

module _ (columns : List Column) (key most : ℕ) (order : List ℕ) (records : List Record) where
  abbrev row_here : ℕ × Record → Result Row TableFault
  row_here p = row_of columns order p.0 p.1

  -- the keys of the first records
  abbrev keys_of : List Record → List Value
  keys_of front = map (key_of key) (map row_here (enumerate_from 0 front))

  keys_of-next : (front : List Record) (r : Record) (row : Row) → row_here (length front, r)
      ≡ Ok row → keys_of (front ++ r ∷ []) ≡ keys_of front ++ column row key ∷ []
  keys_of-next front r row here =
      let start : 0 + length front ≡ length front = omega arith in
      ap (λ es. map (key_of key) (map row_here es))
      (enumerate_from-append 0 front (r ∷ []) ∙ ap (λ k. enumerate_from 0 front ++ (k, r) ∷ []) start)
      ∙ ap (map (key_of key)) (map-append row_here (enumerate_from 0 front) ((length front, r) ∷ []))
      ∙ map-append (key_of key) (map row_here (enumerate_from 0 front)) (row_here (length front, r) ∷ [])
      ∙ ap (λ r. keys_of front ++ key_of key r ∷ []) here

  take_front : (front rest : List Record) → take (length front) (front ++ rest) ≡ front
  take_front [] rest = refl
  take_front (r ∷ front) rest = ap (λ rs. r ∷ rs) (take_front front rest)

  keys_new : (front rest : List Record) (rows : List Row) → records ≡ front ++ rest
      → all_ok (map (judged_record columns (Some key) most order records) (enumerate_from (length front) rest))
      ≡ Ok rows → no_repeats (keys_of front) (map (λ row. column row key) rows) ≡ true
  keys_new front [] rows whole e = let none : [] ≡ rows = cc in
      ap (λ (rs : List Row). no_repeats (keys_of front) (map (λ row. column row key) rs)) (sym none)
  keys_new front (r ∷ rest) rows whole e =
      let n = length front in
      let parts = front_ok (judged_record columns (Some key) most order records (n, r))
      (all_ok (map (judged_record columns (Some key) most order records) (enumerate_from (n + 1) rest))) rows e in
      let here = judged_ok columns (Some key) most order records (n, r) parts.first parts.here in
      let before : take n records ≡ front = ap (take n) whole ∙ take_front front (r ∷ rest) in
      let new : is_repeated (column parts.first key) (keys_of front)
      ≡ false = ap (λ (rs : List Record). is_repeated (column parts.first key) (keys_of rs)) (sym before)
      ∙ here.2 in
      let longer : length (front ++ r ∷ []) ≡ n + 1 = length-append front (r ∷ []) in
      let behind = keys_new (front ++ r ∷ []) rest parts.later (whole ∙ sym (append_assoc front (r ∷ []) rest))
      (ap (λ k. all_ok (map (judged_record columns (Some key) most order records) (enumerate_from k rest))) longer
      ∙ parts.behind) in
      ap (λ (rs : List Row). no_repeats (keys_of front) (map (λ row. column row key) rs)) parts.whole
      ∙ ap (λ b. not b && no_repeats (keys_of front ++ column parts.first key ∷ [])
      (map (λ row. column row key) parts.later)) new
      ∙ ap (λ ks. no_repeats ks (map (λ row. column row key) parts.later))
      (sym (keys_of-next front r parts.first here.1)) ∙ behind

pub keys_unique : (columns : List Column) (key fewest most : ℕ) (all : List Record) (rows : List Row)
    → table_of columns (Some key) fewest most all ≡ Ok rows → IsUniqueIn key rows
keys_unique columns key fewest most all rows e v there =
    let l = loads columns (Some key) fewest most all rows e in
    let new = keys_new columns key most (file_order columns l.header) l.records [] l.records rows refl l.judged in
    let once = once_at_most v there [] (map (λ row. column row key) rows) new in
    let same = filter_keys v key rows in
    omega arith
