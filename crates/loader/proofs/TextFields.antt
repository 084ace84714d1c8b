-- Records of texts alone, and orders of columns that name no other.
use Rattle.std.proofs.Common.{◌≡◌, ◌<◌, ℕ, zero, suc, Bool, true, false, not, cond, nat_lt, List, [], ◌∷◌, length, drop, take, ◌+◌, add-one, subst, get_or, Some, None, Ok, Err, refl, sym, ap, ◌∙◌, arith, position, unwrap_or}
use Rattle.std.specs.Prelude.{Result, slice_get, if◌then◌else◌, OnOk, IfOk}
use Rattle.std.specs.List.{list_all, position_or_len}
use Rattle.std.specs.Str.{IsAscii, is_utf8}
use Rattle.std.proofs.lemmas.Bool.{and_parts, eqb-true, lt-ltb, ltb-true}
use Rattle.std.proofs.lemmas.List.{length-map}
use Rattle.std.proofs.lemmas.Str.{IsUtf8-from_ascii, IsUtf8-from_is_utf8, is_utf8-from_IsUtf8, IsAscii-take, IsAscii-drop}
use Rattle.csv.specs.Records.{AllText, cut_from}
use Rattle.std.proofs.lemmas.List.Sums.{AllPass-from_list_all}
use Rattle.meaning.specs.declared.catalog.Column.{Column}
use Rattle.meaning.specs.declared.value.ColType.{ColType}
use Rattle.meaning.specs.declared.value.ColType.TheVariants as of_type
use Rattle.columns.specs.Column.{ColumnSpec, IsColumn, is_of}
use Rattle.meaning.specs.declared.table.TableFault.TheVariants as fault
use Rattle.meaning.specs.declared.value.Value.{Value}
use Rattle.meaning.specs.declared.value.Value.TheVariants.{Null, Text}
use Rattle.meaning.specs.Records.{Record, field_value, not_null_value, present_value, spells_null, file_order, file_values, is_header, names, value_at}
use Rattle.meaning.specs.Results.{with_result}
use Rattle.meaning.specs.Wanting.{ReportsIfMemory}
use Rattle.loader.specs.Fault.{fault_returned}
use Rattle.loader.specs.declared.fault.LoadFault.{LoadFault}
use Rattle.loader.specs.declared.header.FileOrder.{FileOrder}
use Rattle.loader.specs.Steps.{IsOrderOf, order_of}

-- what is cut out of ASCII is text
pub ascii_fields : (start : ℕ) (ends bytes : List ℕ) → IsAscii bytes → AllText (cut_from start ends bytes)
unfolding cut_from AllText
ascii_fields start [] bytes h = tt
ascii_fields start (end ∷ ends) bytes h = (IsUtf8-from_ascii _ (IsAscii-take (drop start bytes) _ (IsAscii-drop bytes start h)), ascii_fields end ends bytes h)

-- a field that has a value is text
value_text : (row column : ℕ) (c : Column) (field : List ℕ) (v : Value) → field_value row column c field ≡ Ok v → is_utf8 field ≡ true
value_text row column c field v e =
    elim (is_utf8 field) as (λ b. cond (not b) (Err (fault.NotUtf8 row column)) (if spells_null field then (if c.nullable then Ok Null else not_null_value c.col_type row column field) else present_value c.col_type row column field) ≡ Ok v → b ≡ true) [
      | true ↦ λ _. refl
      | false ↦ λ wrong. cc wrong
    ] e

pub column_there : (columns : List Column) (index : ℕ) → index < length columns → (c : Column) × (slice_get columns index ≡ Some c)
column_there [] index h = absurd (omega arith)
column_there (c ∷ columns) zero h = (c, refl)
column_there (c ∷ columns) (suc index) h = column_there columns index (omega arith)

first_ok : {X E : Type 0} (r : Result X E) (rs : Result (List X) E) (xs : List X) → with_result r rs ≡ Ok xs → (x : X) × (ys : List X) × (r ≡ Ok x) × (rs ≡ Ok ys)
first_ok (Err f) rs xs e = cc e
first_ok (Ok x) (Err f) xs e = cc e
first_ok (Ok x) (Ok ys) xs e = (x, ys, refl, refl)

-- fields that all have values are texts
pub valued_fields : (columns : List Column) (order : List ℕ) (row : ℕ) (fields : Record) (values : List Value) → list_all (λ index. nat_lt index (length columns)) order ≡ true → length order ≡ length fields → file_values columns order row fields ≡ Ok values → AllText fields
unfolding AllText
valued_fields columns [] row [] values within long e = tt
valued_fields columns [] row (f ∷ fields) values within long e = absurd (omega arith)
valued_fields columns (index ∷ order) row [] values within long e = absurd (omega arith)
valued_fields columns (index ∷ order) row (f ∷ fields) values within long e =
    let parts = and_parts _ _ within in
    let (c, there) = column_there columns index (ltb-true index (length columns) parts.0) in
    let (v, vs, first, rest) = first_ok (value_at row index (slice_get columns index) f) _ values e in (
      IsUtf8-from_is_utf8 f (value_text row index c f v (ap (λ d. value_at row index d f) (sym there) ∙ first)),
      valued_fields columns order row fields vs parts.1 (omega arith) rest,
    )

-- ---- the order of a header's columns

named_within : (p : Column → Bool) (c : Column) (columns : List Column) → unwrap_or (position p (c ∷ columns)) 0 < length (c ∷ columns)
named_within p c columns =
    let n = position_or_len p (c ∷ columns) in
    elim (nat_lt n (length (c ∷ columns))) as (λ b. nat_lt n (length (c ∷ columns)) ≡ b → unwrap_or (cond b (Some n) None) 0 < length (c ∷ columns)) [
      | true ↦ λ t. ltb-true n (length (c ∷ columns)) t
      | false ↦ λ t. omega arith
    ] refl

order_within : (c : Column) (columns : List Column) (header : Record) → list_all (λ index. nat_lt index (length (c ∷ columns))) (file_order (c ∷ columns) header) ≡ true
order_within c columns [] = refl
order_within c columns (field ∷ header) =
    let first = lt-ltb _ (length (c ∷ columns)) (named_within (names field) c columns) in
    let rest = order_within c columns header in
    cc (first, rest)

all_within : (columns : List Column) (header : Record) → length header ≡ length columns → list_all (λ index. nat_lt index (length columns)) (file_order columns header) ≡ true
all_within [] [] long = refl
all_within [] (field ∷ header) long = absurd (omega arith)
all_within (c ∷ columns) header long = order_within c columns header

pub order_is : (columns : List Column) (header : Record) (order : List ℕ) → order_of columns header ≡ Ok order → IsOrderOf columns order
order_is columns header order e =
    elim (is_header columns header) as (λ b. is_header columns header ≡ b → cond b (Ok (file_order columns header)) (Err fault.Header) ≡ Ok order → IsOrderOf columns order) [
      | true ↦ λ t same.
          let parts = and_parts _ _ t in
          let long = eqb-true (length header) (length columns) parts.0 in
          let is : file_order columns header ≡ order = cc same in
          rw (sym is) record {
            long = length-map header (λ field. unwrap_or (position (names field) columns) 0) ∙ long;
            within = all_within columns header long;
          }
      | false ↦ λ t wrong. cc wrong
    ] refl e

pub judged_texts : (values : List Value) (columns : List Column) (order : List ℕ) (row : ℕ) (fields : Record) (r : Result (Unit {0}) LoadFault) → IsOrderOf columns order → length fields ≡ length columns → ReportsIfMemory fault_returned (λ _. values) r (file_values columns order row fields) → OnOk r (AllText fields)
judged_texts values columns order row fields (Ok x) is long returned = valued_fields columns order row fields values is.within (is.long ∙ sym long) returned
judged_texts values columns order row fields (Err f) is long returned = tt

pub order_returned : (columns : List Column) (header : Record) (r : Result FileOrder LoadFault) → ReportsIfMemory fault_returned (λ (o : FileOrder). o.columns.items) r (order_of columns header) → IfOk r (λ o. IsOrderOf columns o.columns.items)
order_returned columns header (Ok o) returned = order_is columns header o.columns.items returned
order_returned columns header (Err f) returned = tt

-- ---- the texts of a column

text_of_type : (col_type : ColType) (nullable : Bool) (t : List ℕ) → is_of col_type nullable (Text t) ≡ true → is_utf8 t ≡ true
text_of_type of_type.Int nullable t e = cc e
text_of_type of_type.Text nullable t e = (and_parts _ _ e).0

pub column_text : (c : ColumnSpec) (i : ℕ) (t : List ℕ) → IsColumn c → i < length c.values → get_or c.values i Null ≡ Text t → is_utf8 t ≡ true
column_text c i t all within e =
    text_of_type c.col_type c.nullable t (ap (is_of c.col_type c.nullable) (sym e) ∙ AllPass-from_list_all (is_of c.col_type c.nullable) c.values all i Null within)

-- one text more
text_more_suc : (fields : Record) (i : ℕ) (field : List ℕ) → AllText (take i fields) → slice_get fields i ≡ Some field → is_utf8 field ≡ true → AllText (take (suc i) fields)
unfolding AllText
text_more_suc [] i field front there text = cc there
text_more_suc (f ∷ fields) zero field front there text = let same : field ≡ f = cc there in (IsUtf8-from_is_utf8 f (ap is_utf8 (sym same) ∙ text), tt)
text_more_suc (f ∷ fields) (suc i) field front there text = (front.0, text_more_suc fields i field front.1 there text)

-- the empty field is text
pub blank_text : is_utf8 [] ≡ true
blank_text = is_utf8-from_IsUtf8 [] (IsUtf8-from_ascii [] (λ i. omega arith))

pub no_text : AllText []
unfolding AllText
no_text = tt

pub text_more : (fields : Record) (i : ℕ) (field : List ℕ) → AllText (take i fields) → slice_get fields i ≡ Some field → is_utf8 field ≡ true → AllText (take (i + 1) fields)
text_more fields i field front there text = subst (λ k. AllText (take k fields)) (sym (add-one i)) (text_more_suc fields i field front there text)
