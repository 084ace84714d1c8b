-- The steps from records to columns.
use Rattle.std.specs.Prelude.{◌≡◌, ℕ, ◌<◌, ◌^◌, ◌+◌, ◌==◌, nat_lt, if◌then◌else◌, List, [], ◌∷◌, map, zip, length, take, drop, sum, count_by, position, unwrap_or, Option, Some, is_some, Result, Ok, Err, Bool, true, false, ⊤}
use Rattle.std.specs.List.{range_with_len, enumerate_from, list_all}
use Rattle.std.specs.Str.Parse.{IsNumeral, digits_value}
use Rattle.meaning.specs.declared.value.Value.{Value}
use Rattle.meaning.specs.declared.value.Value.TheVariants as value
use Rattle.meaning.specs.declared.catalog.Column.{Column}
use Rattle.meaning.specs.declared.table.TableFault.{TableFault}
use Rattle.meaning.specs.declared.table.TableFault.TheVariants as fault
use Rattle.meaning.specs.Order.{Row}
use Rattle.meaning.specs.Records.{Record, is_header, names, file_order, judged_record, row_of}
use Rattle.meaning.specs.Results.{all_ok, and_then}
use Rattle.csv.specs.declared.reader.Reader.{Reader}
use Rattle.columns.specs.Column.{ColumnSpec, with_value}
use Rattle.loader.specs.Source.{IsLeft}
use Rattle.loader.specs.declared.fault.LoadFault.{LoadFault}
use Rattle.loader.specs.declared.fault.LoadFault.TheVariants.{Memory, Table, Device}
use Rattle.columns.specs.Rows.{columns_of}
use Rattle.loader.specs.Columns.{with_row}
use Rattle.loader.specs.declared.field.Parsed.{Parsed}
use Rattle.loader.specs.declared.field.Parsed.TheVariants as parsed

-- a field names just one of the columns
unfoldable pub names_one : List Column → List ℕ → Bool
names_one columns field = count_by (λ column. names field column) columns == 1

-- the columns of the fields, if the record is a header
abbrev pub order_of : List Column → Record → Result (List ℕ) TableFault
order_of columns header = if is_header columns header then Ok (file_order columns header) else Err fault.Header

-- one of the declared columns for each of as many fields
pub record IsOrderOf (declared : List Column) (order : List ℕ) : Type 0 where
  pub long : length order ≡ length declared
  pub within : list_all (λ index. nat_lt index (length declared)) order ≡ true

-- the field of each column, by the columns of the fields
abbrev pub inverse_order : List ℕ → List ℕ
inverse_order order = map (λ index. unwrap_or (position (λ p. p == index) order) 0) (range_with_len 0 (length order))

-- each column has a field
abbrev pub has_each : List ℕ → Bool
has_each order = list_all (λ index. is_some (position (λ p. p == index) order)) (range_with_len 0 (length order))

-- each field is that of the column with the same index
abbrev pub is_in_order : List ℕ → Bool
is_in_order order = list_all (λ p. p.1 == p.0) (enumerate_from 0 order)

-- the value of a field that was judged
abbrev pub value_of : Parsed × List ℕ → Value
value_of (parsed.Null, field) = value.Null
value_of (parsed.Int n, field) = value.Int n
value_of (parsed.Text, field) = value.Text field

-- the values of the fields of a record
abbrev pub values_of : List Parsed → Record → List Value
values_of judged fields = map value_of (zip judged fields)

-- a numeral of at most 18 digits, which fits 64 bits, and its number
abbrev pub IsShortNumber : List ℕ → ℕ → Type 0
IsShortNumber digits n = IsNumeral 10 digits × (n ≡ digits_value 10 digits) × (n < 10 ^ 18)

-- what judging a field gave is the value or the fault that is meant
abbrev pub ReadsField : List ℕ → Result Parsed TableFault → Result Value TableFault → Type 0
ReadsField field (Ok p) meant = meant ≡ Ok (value_of (p, field))
ReadsField field (Err fault) meant = meant ≡ Err fault

-- a field's value stands behind the last, or its fault is returned; no reader is asked, so none fails
abbrev pub TakesField : Result Value TableFault → ColumnSpec → ColumnSpec → Result (Unit {0}) LoadFault → Type 0
TakesField judged before after (Ok _) = (v : Value) × (judged ≡ Ok v) × (after ≡ with_value before v)
TakesField judged before after (Err (Table fault)) = judged ≡ Err fault
TakesField judged before after (Err Memory) = ⊤
TakesField judged before after (Err Device) = ⊥

-- a record's row stands behind the last rows, or its first fault is returned
abbrev pub TakesRow : Result Row TableFault → List ColumnSpec → List ColumnSpec → Result (Unit {0}) LoadFault → Type 0
TakesRow judged before after (Ok _) = (row : Row) × (judged ≡ Ok row) × (after ≡ with_row before row)
TakesRow judged before after (Err (Table fault)) = judged ≡ Err fault
TakesRow judged before after (Err Memory) = ⊤
TakesRow judged before after (Err Device) = ⊥

-- a record's first fault, unless memory runs out
abbrev pub IsFaultOf : Result Row TableFault → LoadFault → Type 0
IsFaultOf judged (Table fault) = judged ≡ Err fault
IsFaultOf judged Memory = ⊤
IsFaultOf judged Device = ⊥

-- the row of a record with its number
abbrev pub numbered_row : List Column → List ℕ → ℕ × Record → Result Row TableFault
numbered_row declared order p = row_of declared order p.0 p.1

-- the rows of records whose numbers begin with `first`
abbrev pub rows_of : List Column → List ℕ → ℕ → List Record → Result (List Row) TableFault
rows_of declared order first records = all_ok (map (numbered_row declared order) (enumerate_from first records))

-- the columns with rows behind their last
abbrev pub with_rows : List ColumnSpec → List Row → List ColumnSpec
with_rows columns [] = columns
with_rows columns (row ∷ rows) = with_rows (with_row columns row) rows

-- the next record's row stands behind the last rows, or there was no record, or its first fault is returned
abbrev pub TakesNextRow : {R : Type 0} → (R → Option (List ℕ)) → List Column → List ℕ → ℕ → List Record → List ColumnSpec → List ColumnSpec → Reader R → Result Bool LoadFault → Type 0
TakesNextRow known declared order row rest before after reader (Ok true) =
    (fields : Record) × (others : List Record) × (r : Row) × (rest ≡ fields ∷ others) × (row_of declared order row fields ≡ Ok r) × (after ≡ with_row before r) × IsLeft known reader others
TakesNextRow known declared order row rest before after reader (Ok false) = (rest ≡ []) × (after ≡ before)
TakesNextRow known declared order row rest before after reader (Err (Table fault)) = (fields : Record) × (others : List Record) × (rest ≡ fields ∷ others) × (row_of declared order row fields ≡ Err fault)
TakesNextRow known declared order row rest before after reader (Err Memory) = ⊤
TakesNextRow known declared order row rest before after reader (Err Device) = ⊤

-- the rows of so many records, where there are as many
abbrev pub enough_rows : List Column → List ℕ → ℕ → ℕ → List Record → Result (List Row) TableFault
enough_rows declared order first count records =
    and_then (rows_of declared order first (take count records)) (λ rows. if nat_lt (length records) count then Err fault.TooFewRows else Ok rows)

-- the rows of so many records stand behind the last rows, or the first fault is returned
abbrev pub TakesRows : {R : Type 0} → (R → Option (List ℕ)) → List Column → List ℕ → ℕ → ℕ → List Record → List ColumnSpec → List ColumnSpec → Reader R → Result (Unit {0}) LoadFault → Type 0
TakesRows known declared order first count rest before after reader (Ok _) =
    (rows : List Row) × (enough_rows declared order first count rest ≡ Ok rows) × (after ≡ with_rows before rows) × IsLeft known reader (drop count rest)
TakesRows known declared order first count rest before after reader (Err (Table fault)) = enough_rows declared order first count rest ≡ Err fault
TakesRows known declared order first count rest before after reader (Err Memory) = ⊤
TakesRows known declared order first count rest before after reader (Err Device) = ⊤

-- the columns of a fragment, or the first fault
abbrev pub TakesFragment : {R : Type 0} → (R → Option (List ℕ)) → List Column → List ℕ → ℕ → ℕ → List Record → Reader R → Result (List ColumnSpec) LoadFault → Type 0
TakesFragment known declared order first count rest reader (Ok fragment) =
    (rows : List Row) × (enough_rows declared order first count rest ≡ Ok rows) × (fragment ≡ columns_of declared rows) × IsLeft known reader (drop count rest)
TakesFragment known declared order first count rest reader (Err (Table fault)) = enough_rows declared order first count rest ≡ Err fault
TakesFragment known declared order first count rest reader (Err Memory) = ⊤
TakesFragment known declared order first count rest reader (Err Device) = ⊤

-- each fragment's columns, of records whose numbers begin with `first`
abbrev pub fragments_at : List Column → List ℕ → ℕ → List ℕ → List Record → Result (List (List ColumnSpec)) TableFault
fragments_at declared order first [] records = Ok []
fragments_at declared order first (n ∷ lengths) records =
    and_then (enough_rows declared order first n records) (λ rows.
    and_then (fragments_at declared order (first + n) lengths (drop n records)) (λ others. Ok (columns_of declared rows ∷ others)))

-- some record is to come
abbrev pub is_more : List Record → Bool
is_more [] = false
is_more (r ∷ rs) = true

-- the fragments' columns, where no record is left over
abbrev pub unless_more : List Record → List (List ColumnSpec) → Result (List (List ColumnSpec)) TableFault
unless_more [] fragments = Ok fragments
unless_more (r ∷ rs) fragments = Err fault.TooManyRows

-- each fragment's columns, of records whose numbers begin with `first`, where no record is left over
abbrev pub fragments_left : List Column → List ℕ → ℕ → List ℕ → List Record → Result (List (List ColumnSpec)) TableFault
fragments_left declared order first lengths records =
    and_then (fragments_at declared order first lengths records) (unless_more (drop (sum lengths) records))

-- the records behind the header are to come, or the header is missing or another one
abbrev pub Opens : {R X : Type 0} → (X → List ℕ) → (X → Reader R) → (R → Option (List ℕ)) → List Column → List Record → Result X LoadFault → Type 0
Opens order reader known declared records (Ok rows) =
    (header : Record) × (others : List Record) × (records ≡ header ∷ others) × (order_of declared header ≡ Ok (order rows)) × IsLeft known (reader rows) others
Opens order reader known declared [] (Err (Table f)) = f ≡ fault.Header
Opens order reader known declared (header ∷ others) (Err (Table f)) = order_of declared header ≡ Err f
Opens order reader known declared records (Err Memory) = ⊤
Opens order reader known declared records (Err Device) = ⊤

-- the rows of records, of which no two have one key, or the first fault
abbrev pub keyed_rows : List Column → List ℕ → ℕ → ℕ → List Record → Result (List Row) TableFault
keyed_rows declared order key most records = all_ok (map (judged_record declared (Some key) most order records) (enumerate_from 0 records))

-- the rows of all records stand behind the last rows, or the first fault is returned
abbrev pub TakesAll : List Column → List ℕ → ℕ → ℕ → List Record → List ColumnSpec → List ColumnSpec → Result (Unit {0}) LoadFault → Type 0
TakesAll declared order key most rest before after (Ok _) = (rows : List Row) × (keyed_rows declared order key most rest ≡ Ok rows) × (after ≡ with_rows before rows)
TakesAll declared order key most rest before after (Err (Table fault)) = keyed_rows declared order key most rest ≡ Err fault
TakesAll declared order key most rest before after (Err Memory) = ⊤
TakesAll declared order key most rest before after (Err Device) = ⊤

-- the columns of the rows, or the first fault
abbrev pub TakesTable : List Column → Result (List Row) TableFault → Result (List ColumnSpec) LoadFault → Type 0
TakesTable declared rows (Ok columns) = (zs : List Row) × (rows ≡ Ok zs) × (columns ≡ columns_of declared zs)
TakesTable declared rows (Err (Table fault)) = rows ≡ Err fault
TakesTable declared rows (Err Memory) = ⊤
TakesTable declared rows (Err Device) = ⊤
