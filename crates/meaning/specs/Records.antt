-- The table that the records of a CSV file encode under a declaration, or the first fault that they have.
use Rattle.std.specs.Prelude.{ℕ, ◌==◌, nat_lt, nat_le, ℤ, Bool, ◌&&◌, ◌||◌, not, if◌then◌else◌, List, [], ◌∷◌, length, map, take, sum, zip, count_by, position, slice_get, slice_index_or, Option, Some, None, unwrap_or, Result, Ok, Err}
use Rattle.std.specs.List.{list_all, list_any, range_with_len, enumerate_from}
use Rattle.std.specs.Str.{str_eq_ignore_ascii_case, bytes_eq, all_ascii_digits, is_utf8}
use Rattle.std.specs.Str.Parse.{without_leading_sign, signed_digits_value}
use Rattle.meaning.specs.Limits.{max_text_bytes, max_rows}
use Rattle.meaning.specs.declared.value.Value.{Value}
use Rattle.meaning.specs.declared.value.Value.TheVariants.{Null, Int, Text}
use Rattle.meaning.specs.declared.value.ColType.{ColType}
use Rattle.meaning.specs.declared.value.ColType.TheVariants as of_type
use Rattle.meaning.specs.declared.catalog.Column.{Column}
use Rattle.meaning.specs.declared.table.TableFault.{TableFault}
use Rattle.meaning.specs.declared.table.TableFault.TheVariants as fault
use Rattle.meaning.specs.Order.{Row, is_null, same_value, column}
use Rattle.meaning.specs.Operators.{fits_i64}
use Rattle.meaning.specs.Results.{all_ok, and_then}
use Rattle.meaning.specs.Cut.{Cut}
use Rattle.meaning.specs.declared.catalog.Dimension.{Dimension}
use Rattle.meaning.specs.declared.catalog.Catalog.{Catalog}

-- the error code of a refusal
abbrev pub number_of : TableFault → ℕ
number_of fault.Header = 1
number_of (fault.FieldCount row) = 2
number_of (fault.NotAnInteger row column) = 3
number_of (fault.NullNotAllowed row column) = 4
number_of (fault.TextTooLong row column) = 5
number_of (fault.NotUtf8 row column) = 6
number_of (fault.KeyTwice row) = 7
number_of fault.TooManyRows = 8
number_of fault.TooFewRows = 9

-- a record is its fields, and a field its bytes
abbrev pub Record : Type 0
Record = List (List ℕ)

-- ---- the header

-- a field names a column, whatever its case
abbrev pub names : List ℕ → Column → Bool
names field c = str_eq_ignore_ascii_case field c.name

-- each declared column is named by one field, and each field names one column
abbrev pub is_header : List Column → Record → Bool
is_header columns header =
    (length header == length columns) && (list_all (λ c. count_by (λ field. names field c) header == 1) columns
    && list_all (λ field. count_by (λ c. names field c) columns == 1) header)

-- the numbers of the columns that the header names, in the order of the file
abbrev pub file_order : List Column → Record → List ℕ
file_order columns header = map (λ field. unwrap_or (position (names field) columns) 0) header

-- ---- one field

-- NULL is spelled by nothing, or by a backslash and an N
abbrev pub spells_null : List ℕ → Bool
spells_null field = (length field == 0) || bytes_eq field (92 ∷ 78 ∷ [])

-- a sign or none and one digit or more, within 64 bits
abbrev pub integer_of : List ℕ → Option ℤ
integer_of field =
    let digits = without_leading_sign field in
    if nat_lt 0 (length digits) && (all_ascii_digits digits && fits_i64 (signed_digits_value 10 field))
    then Some (signed_digits_value 10 field) else None

abbrev pub integer_value : ℕ → ℕ → Option ℤ → Result Value TableFault
integer_value row column (Some n) = Ok (Int n)
integer_value row column None = Err (fault.NotAnInteger row column)

-- a text of the column, which isn't NULL
abbrev pub present_value : ColType → ℕ → ℕ → List ℕ → Result Value TableFault
present_value of_type.Int row column field = integer_value row column (integer_of field)
present_value of_type.Text row column field =
    if nat_le (length field) max_text_bytes then Ok (Text field) else Err (fault.TextTooLong row column)

-- what looks like NULL where the column takes none: a text is itself, an integer is missing
abbrev pub not_null_value : ColType → ℕ → ℕ → List ℕ → Result Value TableFault
not_null_value of_type.Int row column field = Err (fault.NullNotAllowed row column)
not_null_value of_type.Text row column field = Ok (Text field)

-- the value that a field encodes in a column
abbrev pub field_value : ℕ → ℕ → Column → List ℕ → Result Value TableFault
field_value row column c field =
    if not (is_utf8 field) then Err (fault.NotUtf8 row column)
    else (if spells_null field
    then (if c.nullable then Ok Null else not_null_value c.col_type row column field)
    else present_value c.col_type row column field)

-- ---- one record

-- the value of a field of the column with this number
abbrev pub value_at : ℕ → ℕ → Option Column → List ℕ → Result Value TableFault
value_at row k None field = Ok Null
value_at row k (Some c) field = field_value row k c field

-- the values in the order of the file, or the first fault in that order
abbrev pub file_values : List Column → List ℕ → ℕ → Record → Result (List Value) TableFault
file_values columns order row fields =
    all_ok (map (λ p. value_at row p.0 (slice_get columns p.0) p.1) (zip order fields))

-- the values in the order of the catalogue
abbrev pub catalog_row : List ℕ → List Value → Row
catalog_row order values = map (λ k. slice_index_or values (unwrap_or (position (λ p. p == k) order) 0) Null)
    (range_with_len 0 (length order))

-- the row that a record encodes
abbrev pub row_of : List Column → List ℕ → ℕ → Record → Result Row TableFault
row_of columns order row fields =
    if length fields == length columns
    then and_then (file_values columns order row fields) (λ values. Ok (catalog_row order values))
    else Err (fault.FieldCount row)

-- ---- all records

-- the key of a row that may be missing
abbrev pub key_of : ℕ → Result Row TableFault → Value
key_of key (Ok row) = column row key
key_of key (Err f) = Null

-- a key that isn't NULL and stands among others
abbrev pub is_repeated : Value → List Value → Bool
is_repeated v others = not (is_null v) && list_any (same_value v) others

-- the row, unless it has a key that an earlier one has
abbrev pub unless_repeated : Option ℕ → ℕ → List (Result Row TableFault) → Row → Result Row TableFault
unless_repeated None i earlier row = Ok row
unless_repeated (Some key) i earlier row =
    if is_repeated (column row key) (map (key_of key) earlier) then Err (fault.KeyTwice i) else Ok row

-- what becomes of a record with its number: too many come first, then its own faults, then its key
abbrev pub judged_record : List Column → Option ℕ → ℕ → List ℕ → List Record → ℕ × Record → Result Row TableFault
judged_record columns key most order records p =
    if nat_le most p.0 then Err fault.TooManyRows
    else and_then (row_of columns order p.0 p.1)
    (unless_repeated key p.0 (map (λ e. row_of columns order e.0 e.1) (enumerate_from 0 (take p.0 records))))

-- the rows, unless they are too few
abbrev pub unless_few : ℕ → List Row → Result (List Row) TableFault
unless_few fewest rows = if nat_lt (length rows) fewest then Err fault.TooFewRows else Ok rows

-- the table that records encode: a header, then `fewest` to `most` rows; the first fault from record to record
abbrev pub table_of : List Column → Option ℕ → ℕ → ℕ → List Record → Result (List Row) TableFault
table_of columns key fewest most [] = Err fault.Header
table_of columns key fewest most (header ∷ records) =
    if is_header columns header
    then and_then (all_ok (map (judged_record columns key most (file_order columns header) records)
    (enumerate_from 0 records))) (unless_few fewest)
    else Err fault.Header

-- the fact's rows, just as many as the cut has
abbrev pub fact_of : Catalog → Cut → List Record → Result (List Row) TableFault
fact_of catalog cut records = table_of catalog.fact.columns None (sum cut) (sum cut) records

-- a dimension's rows, at most 1,048,576, of which no two have one key
abbrev pub dimension_of : Dimension → List Record → Result (List Row) TableFault
dimension_of d records = table_of d.table.columns (Some d.key) 0 max_rows records
