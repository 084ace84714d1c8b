-- The columns that may be the key of a table.
use Rattle.std.specs.Prelude.{◌≡◌, ℕ, ◌<◌, Bool, true, false, not, ◌&&◌, List, length, filter, slice_get, Option, None, Some, Result, Ok, Err, is_ok}
use Rattle.std.specs.List.{range_with_len}
use Rattle.meaning.specs.declared.catalog.Column.{Column}
use Rattle.meaning.specs.declared.catalog.Table.{Table}
use Rattle.meaning.specs.declared.table.TableFault.{TableFault}
use Rattle.meaning.specs.declared.table.TableFault.TheVariants as fault
use Rattle.meaning.specs.Records.{Record, dimension_of}

abbrev pub is_nullable : Option Column → Bool
is_nullable None = true
is_nullable (Some column) = column.nullable

-- the column of this index takes no NULL, and the records load with it as the key
abbrev pub is_key : Table → List Record → ℕ → Bool
is_key table records index = not (is_nullable (slice_get table.columns index)) && is_ok (dimension_of (record { table = table; key = index }) records)

abbrev pub keys_of : Table → List Record → List ℕ
keys_of table records = filter (is_key table records) (range_with_len 0 (length table.columns))

-- ---- other faults

abbrev pub is_key_twice : TableFault → Bool
is_key_twice (fault.KeyTwice row) = true
is_key_twice _ = false

-- accepted, or refused for a key that is there twice
abbrev pub is_passed : {A : Type 0} → Result A TableFault → Bool
is_passed (Ok rows) = true
is_passed (Err e) = is_key_twice e

-- with each column before this one that takes no NULL as the key, the records load, or the first thing wrong with them is a key that is there twice
abbrev pub ArePassed : Table → List Record → ℕ → Type 0
ArePassed table records index = (earlier : ℕ) → earlier < index → is_nullable (slice_get table.columns earlier) ≡ false → is_passed (dimension_of (record { table = table; key = earlier }) records) ≡ true
