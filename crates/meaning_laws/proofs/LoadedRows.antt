-- The rows of a table that loads have a value for each column.
use Rattle.std.proofs.Common.{◌≡◌, ℕ, zero, suc, ◌+◌, ◌<◌, ◌==◌, Bool, true, false, cond, ◌&&◌, not, List, [], ◌∷◌, map, length, get_or, refl, sym, ap, subst, ◌∙◌, arith}
use Rattle.std.specs.Prelude.{◌||◌, nat_lt, nat_le, ℤ, Option, Some, None, Result, Ok, Err, unwrap_or, zip, slice_get, slice_index_or, bytes_eq}
use Rattle.std.specs.List.{list_all, list_any, range_with_len, position, position_or_len, count_by}
use Rattle.std.specs.Str.{is_utf8, all_ascii_digits, str_to_ascii_lowercase}
use Rattle.std.specs.Str.Parse.{without_leading_sign, signed_digits_value}
use Rattle.std.specs.Char.{to_ascii_lowercase}
use Rattle.std.specs.Cmp.Lexicographic.{pointwise}
use Rattle.std.proofs.lemmas.Bool.{lt-ltb, ltb-true, ltb-false, eqb-true, eq-eqb}
use Rattle.std.proofs.lemmas.Bool.Decides.{nat_tests}
use Rattle.std.proofs.lemmas.List.{length-map}
use Rattle.std.proofs.lemmas.List.Sums.{sum_by-cons}
use Rattle.std.proofs.lemmas.List.Quantifiers.{position-Some}
use Rattle.std.proofs.lemmas.Option.{slice_get-get_or, slice_get_within, get_or_from_slice_get}
use Rattle.std.proofs.Math.ListN.{get_or-map}
use Rattle.std.proofs.lemmas.Slice.Eq.{bytes_eq-Decides}
use Rattle.meaning.specs.declared.value.Value.{Value}
use Rattle.meaning.specs.declared.value.Value.TheVariants.{Null, Int, Text}
use Rattle.meaning.specs.declared.value.ColType.{ColType}
use Rattle.meaning.specs.declared.value.ColType.TheVariants as of_type
use Rattle.meaning.specs.declared.catalog.Column.{Column}
use Rattle.meaning.specs.declared.catalog.Table.{Table}
use Rattle.meaning.specs.declared.table.TableFault.{TableFault}
use Rattle.meaning.specs.Limits.{max_text_bytes}
use Rattle.meaning.specs.Catalog.{begins_name, continues_name, has_name_form, IsName, IsWellFormedTable}
use Rattle.meaning.specs.Order.{Row, is_null}
use Rattle.meaning.specs.Operators.{fits_i64}
use Rattle.meaning.specs.Typing.{is_of_type}
use Rattle.meaning.specs.Results.{with_result, all_ok, and_then}
use Rattle.meaning.specs.Records.{Record, names, is_header, file_order, spells_null, integer_value, present_value, not_null_value, value_at, file_values, catalog_row, row_of}
use Rattle.meaning.specs.TableLaws.{is_value_of}
use Rattle.meaning.proofs.Tests.{first_of, second_of, both, all_first, all_rest, or_second, or_true}

-- ---- one field

module _ (nullable : Bool) where
  -- a value of the type, which is NULL only if it may be
  abbrev IsTaken : ColType → Value → Type 0
  IsTaken kind v = (is_of_type kind v && (nullable || not (is_null v))) ≡ true

  abbrev AreTaken : ColType → Result Value TableFault → Type 0
  AreTaken kind r = (v : Value) → r ≡ Ok v → IsTaken kind v

  integer_taken : (n : ℤ) → fits_i64 n ≡ true → IsTaken of_type.Int (Int n)
  integer_taken n fits = both _ _ fits (or_true nullable)

  text_taken : (t : List ℕ) → is_utf8 t ≡ true → nat_le (length t) max_text_bytes ≡ true → IsTaken of_type.Text (Text t)
  text_taken t utf8 short = both _ _ (both _ _ utf8 short) (or_true nullable)

  chosen_integer : (row column : ℕ) (n : ℤ) (some digits : Bool)
      → AreTaken of_type.Int (integer_value row column (cond (some && (digits && fits_i64 n)) (Some n) None))
  chosen_integer row column n false digits v e = cc
  chosen_integer row column n true false v e = cc
  chosen_integer row column n true true v e =
      elim (fits_i64 n) as (λ b. fits_i64 n ≡ b → integer_value row column (cond b (Some n) None)
      ≡ Ok v → IsTaken of_type.Int v) [
        | true ↦ λ fits same. let is : Int n ≡ v = cc in subst (IsTaken of_type.Int) is (integer_taken n fits)
        | false ↦ λ _ same. cc
      ] refl e

  present_taken : (kind : ColType) (row column : ℕ) (field : List ℕ) → is_utf8 field
      ≡ true → AreTaken kind (present_value kind row column field)
  present_taken of_type.Int row column field utf8 v e =
      chosen_integer row column (signed_digits_value 10 field) (nat_lt 0 (length (without_leading_sign field)))
      (all_ascii_digits (without_leading_sign field)) v e
  present_taken of_type.Text row column field utf8 v e =
      elim (nat_le (length field) max_text_bytes) as
      (λ b. nat_le (length field) max_text_bytes
      ≡ b → cond b (Ok (Text field)) (Err (TableFault.TextTooLong row column)) ≡ Ok v → IsTaken of_type.Text v) [
        | true ↦ λ short same. let is : Text field ≡ v = cc in
            subst (IsTaken of_type.Text) is (text_taken field utf8 short)
        | false ↦ λ _ same. cc
      ] refl e

  -- what spells NULL is short
  null_short : (field : List ℕ) → spells_null field ≡ true → nat_le (length field) max_text_bytes ≡ true
  null_short field e =
      elim (length field == 0) as (λ b. length field == 0 ≡ b → (b || bytes_eq field (92 ∷ 78 ∷ []))
      ≡ true → nat_le (length field) max_text_bytes ≡ true) [
        | true ↦ λ none _. let empty = eqb-true (length field) 0 none in grind (arith, nat_tests)
        | false ↦ λ _ same. let two : length field ≡ 2 = ap length ((bytes_eq-Decides field (92 ∷ 78 ∷ [])).0 same) in
            grind (arith, nat_tests)
      ] refl e

  filled_taken : (kind : ColType) (row column : ℕ) (field : List ℕ) → is_utf8 field ≡ true → spells_null field
      ≡ true → AreTaken kind (not_null_value kind row column field)
  filled_taken of_type.Int row column field utf8 null v e = cc
  filled_taken of_type.Text row column field utf8 null v e = let is : Text field ≡ v = cc in
      subst (IsTaken of_type.Text) is (text_taken field utf8 (null_short field null))

  null_taken : (kind : ColType) → nullable ≡ true → AreTaken kind (Ok Null)
  null_taken kind may v e = let is : Null ≡ v = cc in subst (IsTaken kind) is (ap (λ b. b || false) may)

  pub taken : (kind : ColType) (row column : ℕ) (field : List ℕ) →
      AreTaken kind (cond (not (is_utf8 field)) (Err (TableFault.NotUtf8 row column))
      (cond (spells_null field) (cond nullable (Ok Null) (not_null_value kind row column field))
      (present_value kind row column field)))
  taken kind row column field v e =
      elim (is_utf8 field) as (λ b. is_utf8 field
      ≡ b → cond (not b) (Err (TableFault.NotUtf8 row column))
      (cond (spells_null field) (cond nullable (Ok Null) (not_null_value kind row column field))
      (present_value kind row column field)) ≡ Ok v → IsTaken kind v) [
        | false ↦ λ _ same. cc
        | true ↦ λ utf8. elim (spells_null field) as
            (λ b. spells_null field ≡ b → cond b (cond nullable (Ok Null) (not_null_value kind row column field))
            (present_value kind row column field) ≡ Ok v → IsTaken kind v) [
              | true ↦ λ null. elim nullable as
                  (λ b. nullable ≡ b → cond b (Ok Null) (not_null_value kind row column field)
                  ≡ Ok v → IsTaken kind v) [
                    | true ↦ λ may. null_taken kind may v
                    | false ↦ λ _. filled_taken kind row column field utf8 null v
                  ] refl
              | false ↦ λ _. present_taken kind row column field utf8 v
            ] refl
      ] refl e

-- ---- the columns that a header names

any_of_one : {X : Type 0} (p : X → Bool) (xs : List X) → (count_by p xs == 1) ≡ true → list_any p xs ≡ true
any_of_one p xs e =
    elim (list_any p xs) as (λ b. list_any p xs ≡ b → b ≡ true) [
      | true ↦ λ _. refl
      | false ↦ λ none. let zero_of = none_counted p xs none in let one = eqb-true (count_by p xs) 1 e in
          absurd (omega arith)
    ] refl
  where
    none_counted : {X : Type 0} (p : X → Bool) (xs : List X) → list_any p xs ≡ false → count_by p xs ≡ 0
    none_counted p [] none = refl
    none_counted p (x ∷ xs) none =
        elim (p x) as (λ b. p x ≡ b → (b || list_any p xs) ≡ false → count_by p (x ∷ xs) ≡ 0) [
          | true ↦ λ _ bad. cc
          | false ↦ λ here rest. sum_by-cons (λ y. cond (p y) 1 0) x xs ∙ ap (λ b. cond b 1 0 + count_by p xs) here
              ∙ (let behind = none_counted p xs rest in omega arith)
        ] refl none

any_map : {X Y : Type 0} (p : X → Bool) (q : Y → Bool) (f : X → Y) → ((x : X) → p x ≡ true → q (f x) ≡ true)
    → (xs : List X) → list_any p xs ≡ true → list_any q (map f xs) ≡ true
any_map p q f goes [] e = cc
any_map p q f goes (x ∷ xs) e =
    elim (p x) as (λ b. p x ≡ b → (b || list_any p xs) ≡ true → (q (f x) || list_any q (map f xs)) ≡ true) [
      | true ↦ λ here _. ap (λ b. b || list_any q (map f xs)) (goes x here)
      | false ↦ λ _ rest. or_second (q (f x)) _ (any_map p q f goes xs rest)
    ] refl e

any_at : {X : Type 0} (p : X → Bool) (xs : List X) (i : ℕ) (x : X) → slice_get xs i ≡ Some x → p x
    ≡ true → list_any p xs ≡ true
any_at p [] i x at e = cc
any_at p (y ∷ ys) zero x at e = let is : y ≡ x = cc in ap (λ b. b || list_any p ys) (ap p is ∙ e)
any_at p (y ∷ ys) (suc i) x at e =
    elim (p y) as (λ b. (b || list_any p ys) ≡ true) [ true ↦ refl | false ↦ any_at p ys i x at e ]

some_within : {X : Type 0} (p : X → Bool) (xs : List X) → list_any p xs ≡ true → position_or_len p xs < length xs
some_within p [] e = cc
some_within p (x ∷ xs) e =
    elim (p x) as (λ b. p x ≡ b → (b || list_any p xs) ≡ true → position_or_len p (x ∷ xs) < length (x ∷ xs)) [
      | true ↦ λ here _. rw here (omega arith)
      | false ↦ λ here rest. let behind = some_within p xs rest in rw here (omega arith)
    ] refl e

-- where some element passes there is a first
some_position : {X : Type 0} (p : X → Bool) (xs : List X) → list_any p xs ≡ true → position p xs
    ≡ Some (position_or_len p xs)
some_position p xs e = ap (λ b. cond b (Some (position_or_len p xs)) None) (lt-ltb _ _ (some_within p xs e))

-- ---- results in a row

pub record Front {X E : Type 0} (r : Result X E) (rest : Result (List X) E) (xs : List X) : Type 0 where
  pub first : X
  pub later : List X
  pub here : r ≡ Ok first
  pub behind : rest ≡ Ok later
  pub whole : xs ≡ first ∷ later

-- where all are given, the first is and the others are
pub front_ok : {X E : Type 0} (r : Result X E) (rest : Result (List X) E) (xs : List X) → with_result r rest
    ≡ Ok xs → Front r rest xs
front_ok (Err f) rest xs e = cc
front_ok (Ok x) (Err f) xs e = cc
front_ok (Ok x) (Ok others) xs e = record { first = x; later = others; here = refl; behind = refl; whole = cc }

-- what each gives passes a test
pub all_ok-pass : {X Y E : Type 0} (f : X → Result Y E) (p : Y → Bool) → ((x : X) (y : Y) → f x ≡ Ok y → p y ≡ true)
    → (xs : List X) (ys : List Y) → all_ok (map f xs) ≡ Ok ys → list_all p ys ≡ true
all_ok-pass f p each [] ys e = let none : [] ≡ ys = cc in ap (list_all p) (sym none)
all_ok-pass f p each (x ∷ xs) ys e =
    let parts = front_ok (f x) (all_ok (map f xs)) ys e in
    ap (list_all p) parts.whole ∙ both _ _ (each x parts.first parts.here)
    (all_ok-pass f p each xs parts.later parts.behind)

-- values of the columns from s on, each of which passes its column's test
pointwise-columns : {X Y : Type 0} (t : X → Y → Bool) (f : ℕ → Y) (s : ℕ) (xs : List X)
    → ((k : ℕ) (x : X) → slice_get xs k ≡ Some x → t x (f (s + k)) ≡ true)
    → pointwise t xs (map f (range_with_len s (length xs))) ≡ true
pointwise-columns t f s [] each = refl
pointwise-columns t f s (x ∷ xs) each =
    let first : s + 0 ≡ s = omega arith in
    both _ _ (ap (λ k. t x (f k)) (sym first) ∙ each 0 x refl)
    (pointwise-columns t f (s + 1) xs
    (λ k y at. let later : s + suc k ≡ (s + 1) + k = omega arith in
    ap (λ n. t y (f n)) (sym later) ∙ each (suc k) y at))

-- ---- names of columns

small_stays : (b : ℕ) → continues_name b ≡ true → to_ascii_lowercase b ≡ b
small_stays b h = grind (arith, nat_tests)

first_stays : (b : ℕ) → begins_name b ≡ true → to_ascii_lowercase b ≡ b
first_stays b h = grind (arith, nat_tests)

all_stay : (bs : List ℕ) → list_all continues_name bs ≡ true → str_to_ascii_lowercase bs ≡ bs
all_stay [] h = refl
all_stay (b ∷ bs) h =
    let here = small_stays b (first_of _ _ h) in
    let behind = all_stay bs (second_of _ _ h) in
    λ i. here i ∷ behind i

form_stays : (bs : List ℕ) → has_name_form bs ≡ true → str_to_ascii_lowercase bs ≡ bs
form_stays [] h = refl
form_stays (b ∷ bs) h =
    let here = first_stays b (first_of _ _ h) in
    let behind = all_stay bs (second_of _ _ h) in
    λ i. here i ∷ behind i

name_stays : (name : List ℕ) → IsName name → str_to_ascii_lowercase name ≡ name
name_stays name is = form_stays name (first_of _ _ is.word)

-- a field names one name at most
one_name : (field : List ℕ) (a b : Column) → IsName a.name → IsName b.name → names field a ≡ true → names field b
    ≡ true → a.name ≡ b.name
one_name field a b is_a is_b on_a on_b =
    sym (name_stays a.name is_a) ∙ sym
    ((bytes_eq-Decides (str_to_ascii_lowercase field) (str_to_ascii_lowercase a.name)).0 on_a)
    ∙ (bytes_eq-Decides (str_to_ascii_lowercase field) (str_to_ascii_lowercase b.name)).0 on_b ∙ name_stays b.name is_b

module _ (table : Table) (is : IsWellFormedTable table) where
  abbrev columns : List Column
  columns = table.columns

  abbrev name_at : ℕ → Column → List ℕ
  name_at i d = slice_index_or (map (λ (c : Column). c.name) columns) i d.name

  -- two columns with one name are one column
  one_column : (i j : ℕ) (d : Column) → i < length columns → j < length columns → name_at i d ≡ name_at j d → i ≡ j
  one_column i j d below under same =
      let many = length-map columns (λ (c : Column). c.name) in
      elim (nat_lt i j) as (λ b. nat_lt i j ≡ b → i ≡ j) [
        | true ↦ λ less. absurd (is.distinct i j d.name (ltb-true i j less) (omega arith) same)
        | false ↦ λ not_less. elim (nat_lt j i) as (λ b. nat_lt j i ≡ b → i ≡ j) [
          | true ↦ λ less. absurd (is.distinct j i d.name (ltb-true j i less) (omega arith) (sym same))
          | false ↦ λ not_more. let a = ltb-false i j not_less in let b = ltb-false j i not_more in omega arith
        ] refl
      ] refl

  -- the field that names a column has its number
  number_named : (field : List ℕ) (i : ℕ) (c : Column) → slice_get columns i ≡ Some c → names field c
      ≡ true → unwrap_or (position (names field) columns) 0 ≡ i
  number_named field i c at on =
      let j = position_or_len (names field) columns in
      let there = some_position (names field) columns (any_at (names field) columns i c at on) in
      let found = position-Some (names field) columns j c there in
      let d = get_or columns j c in
      let below = slice_get_within columns i c at in
      let is_c = get_or_from_slice_get columns i c c at in
      let same : d.name ≡ c.name = one_name field d c (is.columns j c found.0)
      (subst (λ (x : Column). IsName x.name) is_c (is.columns i c below)) found.1 on in
      ap (λ o. unwrap_or o 0) there
      ∙ one_column j i c found.0 below
      (get_or-map (λ (x : Column). x.name) columns j c ∙ same ∙ ap (λ (x : Column). x.name) (sym is_c)
      ∙ sym (get_or-map (λ (x : Column). x.name) columns i c))

  -- the number of each column is among those of the fields
  number_there : (header : Record) → is_header columns header ≡ true → (i : ℕ) (c : Column) → slice_get columns i
      ≡ Some c → list_any (λ p. p == i) (file_order columns header) ≡ true
  number_there header fine i c at =
      let one = all_at (λ (c : Column). count_by (λ field. names field c) header == 1) columns i c
      (first_of _ _ (second_of _ _ fine)) at in
      any_map (λ field. names field c) (λ p. p == i) (λ field. unwrap_or (position (names field) columns) 0)
      (λ field on. eq-eqb _ i (number_named field i c at on)) header (any_of_one (λ field. names field c) header one)
    where
      all_at : {X : Type 0} (p : X → Bool) (xs : List X) (i : ℕ) (x : X) → list_all p xs ≡ true → slice_get xs i
          ≡ Some x → p x ≡ true
      all_at p [] i x all at = cc
      all_at p (y ∷ ys) zero x all at = let same : y ≡ x = cc in ap p (sym same) ∙ all_first p y ys all
      all_at p (y ∷ ys) (suc i) x all at = all_at p ys i x (all_rest p y ys all) at

  -- ---- one row

  module _ (row : ℕ) where
    abbrev judge : ℕ × List ℕ → Result Value TableFault
    judge p = value_at row p.0 (slice_get columns p.0) p.1

    -- what is given for a column is a value of it
    at_column : (i : ℕ) (c : Column) → slice_get columns i
        ≡ Some c → (order : List ℕ) (fields : List (List ℕ)) (values : List Value)
        → all_ok (map judge (zip order fields)) ≡ Ok values
        → (j : ℕ) → slice_get order j ≡ Some i → j < length fields → is_value_of c (slice_index_or values j Null) ≡ true
    at_column i c at [] fields values good j there below = cc
    at_column i c at (o ∷ order) [] values good j there below = absurd (omega arith)
    at_column i c at (o ∷ order) (f ∷ fields) values good zero there below =
        let parts = front_ok (judge (o, f)) (all_ok (map judge (zip order fields))) values good in
        let same : o ≡ i = cc in
        let given : value_at row i (Some c) f
        ≡ Ok parts.first = ap (λ (d : Option Column). value_at row i d f) (sym at)
        ∙ ap (λ (n : ℕ). judge (n, f)) (sym same) ∙ parts.here in
        ap (λ (vs : List Value). is_value_of c (slice_index_or vs 0 Null)) parts.whole
        ∙ taken c.nullable c.col_type row i f parts.first given
    at_column i c at (o ∷ order) (f ∷ fields) values good (suc j) there below =
        let parts = front_ok (judge (o, f)) (all_ok (map judge (zip order fields))) values good in
        ap (λ (vs : List Value). is_value_of c (slice_index_or vs (suc j) Null)) parts.whole
        ∙ at_column i c at order fields parts.later parts.behind j there (omega arith)

    -- the row that a record encodes has a value for each column
    pub row_taken : (header : Record) → is_header columns header
        ≡ true → (fields : Record) (r : Row) → row_of columns (file_order columns header) row fields
        ≡ Ok r → pointwise is_value_of columns r ≡ true
    row_taken header fine fields r e =
        elim (length fields == length columns) as
        (λ b. length fields == length columns
        ≡ b → cond b (and_then (file_values columns order row fields) (λ values. Ok (catalog_row order values)))
        (Err (TableFault.FieldCount row)) ≡ Ok r → pointwise is_value_of columns r ≡ true) [
          | true ↦ λ counted. given (eqb-true (length fields) (length columns) counted)
              (file_values columns order row fields) refl
          | false ↦ λ _ bad. cc
        ] refl e
      where
        order : List ℕ
        order = file_order columns header

        given : length fields ≡ length columns → (values : Result (List Value) TableFault)
            → file_values columns order row fields ≡ values → and_then values (λ values. Ok (catalog_row order values))
            ≡ Ok r → pointwise is_value_of columns r ≡ true
        given counted (Err f) is_read bad = cc
        given counted (Ok values) is_read e =
            let is_row : catalog_row order values ≡ r = cc in
            let as_many : length order ≡ length columns =
            length-map header (λ field. unwrap_or (position (names field) columns) 0)
            ∙ eqb-true (length header) (length columns) (first_of _ _ fine) in
            ap (pointwise is_value_of columns) (sym is_row)
            ∙ ap (λ n. pointwise is_value_of columns (map (value_of_column values) (range_with_len 0 n))) as_many
            ∙ pointwise-columns is_value_of (value_of_column values) 0 columns
            (λ k c at. here values is_read counted k c at)
          where
            value_of_column : List Value → ℕ → Value
            value_of_column values i = slice_index_or values (unwrap_or (position (λ p. p == i) order) 0) Null

            here : (values : List Value) → file_values columns order row fields ≡ Ok values → length fields
                ≡ length columns → (k : ℕ) (c : Column) → slice_get columns k
                ≡ Some c → is_value_of c (value_of_column values (0 + k)) ≡ true
            here values is_read counted k c at =
                let as_many : length order ≡ length columns =
                length-map header (λ field. unwrap_or (position (names field) columns) 0)
                ∙ eqb-true (length header) (length columns) (first_of _ _ fine) in
                let start : 0 + k ≡ k = omega arith in
                let j = position_or_len (λ p. p == k) order in
                let found = some_position (λ p. p == k) order (number_there header fine k c at) in
                let found_at = position-Some (λ p. p == k) order j 0 found in
                let stands : slice_get order j ≡ Some k = slice_get-get_or order j 0 found_at.0
                ∙ ap Some (eqb-true (get_or order j 0) k found_at.1) in
                ap (λ n. is_value_of c (value_of_column values n)) start
                ∙ ap (λ o. is_value_of c (slice_index_or values (unwrap_or o 0) Null)) found
                ∙ at_column k c at order fields values is_read j stands (let below = found_at.0 in omega arith)
