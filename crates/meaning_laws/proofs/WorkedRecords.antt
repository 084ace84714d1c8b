-- Worked examples: the table that the records of a CSV file encode, and how a table is cut.
use Rattle.std.proofs.Common.{◌≡◌, ℕ, pos, negsuc, true, false, List, [], ◌∷◌, map, replicate, codes, Some, Result, Ok, Err, refl}
use lib.Utf8.{encode}
use Rattle.std.specs.Str.{is_utf8, chars}
use Rattle.meaning.specs.declared.value.Value.TheVariants.{Null, Int, Text}
use Rattle.meaning.specs.declared.value.ColType.TheVariants as of_type
use Rattle.meaning.specs.declared.catalog.Column.{Column}
use Rattle.meaning.specs.declared.table.TableFault.{TableFault}
use Rattle.meaning.specs.declared.table.TableFault.TheVariants as fault
use Rattle.meaning.specs.declared.cut.CutFault.TheVariants.{NoFragment, TooManyFragments, FragmentTooLong}
use Rattle.meaning.specs.Order.{Row}
use Rattle.meaning.specs.Records.{Record, table_of}
use Rattle.meaning.specs.Cut.{cut_of, even_lengths}

-- k int, n int null, t text
abbrev columns : List Column
columns =
    record { name = codes "k"; col_type = of_type.Int; nullable = false }
    ∷ record { name = codes "n"; col_type = of_type.Int; nullable = true }
    ∷ record { name = codes "t"; col_type = of_type.Text; nullable = false }
    ∷ []

-- T,K,N
abbrev header : Record
header = codes "T" ∷ codes "K" ∷ codes "n" ∷ []

-- the table of 1 to 3 rows whose key is the first column
abbrev read : List Record → Result (List Row) TableFault
read records = table_of columns (Some 0) 1 3 records

abbrev row : List ℕ → List ℕ → List ℕ → Record
row t k n = t ∷ k ∷ n ∷ []

-- columns in the order of the file become columns in the order of the declaration
rows : read (header ∷ row (codes "a") (codes "-7") (codes "+08") ∷ row (codes "b") (codes "2") [] ∷ [])
    ≡ Ok ((Int (negsuc 6) ∷ Int (pos 8) ∷ Text (codes "a") ∷ []) ∷ (Int (pos 2) ∷ Null ∷ Text (codes "b") ∷ []) ∷ [])
unfolding is_utf8 chars encode
rows = refl

-- NULL is also a backslash and an N; in a column without NULL these are a text as any other
spelled_null : read (header ∷ row (92 ∷ 78 ∷ []) (codes "1") (92 ∷ 78 ∷ []) ∷ row [] (codes "2") [] ∷ [])
    ≡ Ok ((Int (pos 1) ∷ Null ∷ Text (92 ∷ 78 ∷ []) ∷ []) ∷ (Int (pos 2) ∷ Null ∷ Text [] ∷ []) ∷ [])
unfolding is_utf8 chars encode
spelled_null = refl

-- ---- the header

no_header : read [] ≡ Err fault.Header
no_header = refl

column_twice : read ((codes "t" ∷ codes "k" ∷ codes "T" ∷ []) ∷ []) ≡ Err fault.Header
column_twice = refl

column_more : read ((codes "t" ∷ codes "k" ∷ codes "n" ∷ codes "m" ∷ []) ∷ []) ≡ Err fault.Header
column_more = refl

-- ---- faults in their order

-- fields are judged in the order of the file: t is not UTF-8, k is no integer
file_order_counts : read (header ∷ row (255 ∷ []) (codes "x") [] ∷ []) ≡ Err (fault.NotUtf8 0 2)
unfolding is_utf8 chars encode
file_order_counts = refl

no_integer : map (λ k. read (header ∷ row (codes "a") k [] ∷ []))
    (codes "x" ∷ codes " 1" ∷ codes "-" ∷ codes "9223372036854775808" ∷ codes "-9223372036854775809" ∷ codes "1.0"
    ∷ []) ≡ replicate 6 (Err (fault.NotAnInteger 0 0))
unfolding is_utf8 chars encode
no_integer = refl

least_and_greatest : read (header ∷ row (codes "a") (codes "-9223372036854775808") (codes "9223372036854775807") ∷ [])
    ≡ Ok ((Int (negsuc 9223372036854775807) ∷ Int (pos 9223372036854775807) ∷ Text (codes "a") ∷ []) ∷ [])
unfolding is_utf8 chars encode
least_and_greatest = refl

null_key : map (λ k. read (header ∷ row (codes "a") k [] ∷ [])) ([] ∷ (92 ∷ 78 ∷ []) ∷ [])
    ≡ replicate 2 (Err (fault.NullNotAllowed 0 0))
unfolding is_utf8 chars encode
null_key = refl

-- a wrong number of fields comes before any field
field_count : read (header ∷ (codes "a" ∷ codes "x" ∷ []) ∷ []) ≡ Err (fault.FieldCount 0)
field_count = refl

-- the second row has a key again, but its own faults come first
key_twice : read (header ∷ row (codes "a") (codes "1") [] ∷ row (codes "b") (codes "+1") [] ∷ [])
    ≡ Err (fault.KeyTwice 1)
unfolding is_utf8 chars encode
key_twice = refl

own_fault_before_key : read (header ∷ row (codes "a") (codes "1") [] ∷ row (codes "b") (codes "1") (codes "x") ∷ [])
    ≡ Err (fault.NotAnInteger 1 1)
unfolding is_utf8 chars encode
own_fault_before_key = refl

-- in one record too many comes before its fields; a fault in an earlier record before too many
too_many : read (header ∷ row (codes "a") (codes "1") [] ∷ row (codes "a") (codes "2") []
    ∷ row (codes "a") (codes "3") [] ∷ (codes "a" ∷ []) ∷ []) ≡ Err fault.TooManyRows
unfolding is_utf8 chars encode
too_many = refl

earlier_record_first : read (header ∷ row (codes "a") (codes "1") [] ∷ row (codes "a") (codes "2") []
    ∷ row (codes "a") (codes "x") [] ∷ (codes "a" ∷ []) ∷ []) ≡ Err (fault.NotAnInteger 2 0)
unfolding is_utf8 chars encode
earlier_record_first = refl

too_few : read (header ∷ []) ≡ Err fault.TooFewRows
too_few = refl

-- NULL stands twice in a key that allows it
null_keys : table_of columns (Some 1) 0 9
    (header ∷ row (codes "a") (codes "1") [] ∷ row (codes "b") (codes "2") [] ∷ [])
    ≡ Ok ((Int (pos 1) ∷ Null ∷ Text (codes "a") ∷ []) ∷ (Int (pos 2) ∷ Null ∷ Text (codes "b") ∷ []) ∷ [])
unfolding is_utf8 chars encode
null_keys = refl

-- ---- cuts

even_cuts : map (λ rows. even_lengths rows 2) (0 ∷ 1 ∷ 2 ∷ 4 ∷ 5 ∷ [])
    ≡ (0 ∷ []) ∷ (1 ∷ []) ∷ (2 ∷ []) ∷ (2 ∷ 2 ∷ []) ∷ (2 ∷ 2 ∷ 1 ∷ []) ∷ []
even_cuts = refl

cut_refusals : map cut_of ([] ∷ (0 ∷ []) ∷ (1048576 ∷ 0 ∷ 3 ∷ []) ∷ (1 ∷ 1048577 ∷ []) ∷ [])
    ≡ Err NoFragment ∷ Ok (0 ∷ []) ∷ Ok (1048576 ∷ 0 ∷ 3 ∷ []) ∷ Err FragmentTooLong ∷ []
cut_refusals = refl

-- too many fragments are reported before one that is too long
many_before_long : cut_of (1048577 ∷ replicate 4096 0) ≡ Err TooManyFragments
many_before_long = refl
