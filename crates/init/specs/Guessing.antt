-- Why no catalogue is made for a folder: the first thing that is wrong, in the order in which one is guessed.
use Rattle.std.specs.Prelude.{◌≡◌, ◌⊎◌, ℕ, ◌+◌, ◌<◌, ◌≤◌, Bool, true, false, List, [], ◌∷◌, ◌++◌, length, take, get_or, slice_get, All, Option, None, Some, Result, Err, ⊤, string_bytes}
use Rattle.std.specs.List.{list_any}
use Rattle.std.specs.Cmp.Lexicographic.{slice_cmp}
use Rattle.std.specs.List.Sorted.{IsPermutation, IsSortedByKey}
use Rattle.std.specs.Ordering.{nat_cmp}
use Rattle.std.specs.Str.{bytes_eq}
use Rattle.meaning.specs.declared.catalog.CatalogFault.{CatalogFault}
use Rattle.meaning.specs.declared.catalog.Column.{Column}
use Rattle.meaning.specs.declared.catalog.Dimension.{Dimension}
use Rattle.meaning.specs.declared.catalog.Table.{Table}
use Rattle.meaning.specs.Limits.{max_dimensions}
use Rattle.catalog_reader.specs.CatalogText.{catalog_of}
use Rattle.loader.specs.Source.{csv_records}
use Rattle.folders.specs.Folder.{Holds, catalog_path, csv_path}
use Rattle.init.specs.declared.fault.ColumnFault.{ColumnFault}
use Rattle.init.specs.declared.fault.InitFault.{InitFault}
use Rattle.init.specs.declared.fault.InitFault.TheVariants as fault
use Rattle.init.specs.declared.fault.PathFault.TheVariants as path_fault
use Rattle.init.specs.declared.listing.CsvFile.{CsvFile}
use Rattle.init.specs.Guessed.{AreDimensionsOf, AreShown, IsGuess, others}
use Rattle.init.specs.Keys.{ArePassed, is_key_twice, is_nullable, keys_of}
use Rattle.init.specs.Refusing.{IsCatalogRefused, IsDimensionRefused, IsNotAbsent, IsUnwritten}
use Rattle.init.specs.Shown.{IsLack, is_short_name, shown}

-- ---- a table, from its file

-- memory ran out, or the table has no name
abbrev pub IsUnnamed : List ℕ → List ℕ → InitFault → Type 0
IsUnnamed path table fault.Memory = ⊤
IsUnnamed path table (fault.Path file path_fault.NoTableName) = (string_bytes file ≡ path) × (is_short_name table ≡ false)
IsUnnamed path table _ = ⊥

-- memory ran out, or the column of this index has no name of its own
abbrev pub IsColumnUnnamed : List ℕ → ℕ → Result (List ℕ) ColumnFault → InitFault → Type 0
IsColumnUnnamed path index meant fault.Memory = ⊤
IsColumnUnnamed path index meant (fault.Column file column found) = (string_bytes file ≡ path) × (column ≡ index + 1) × (meant ≡ Err found)
IsColumnUnnamed path index meant _ = ⊥

-- memory ran out, or the file of this path can't be read, or its header is refused
abbrev pub IsHeaderRefused : List ℕ → InitFault → Type 0
IsHeaderRefused path fault.Memory = ⊤
IsHeaderRefused path (fault.Path file path_fault.CannotRead) = string_bytes file ≡ path
IsHeaderRefused path (fault.Path file path_fault.NoHeader) = string_bytes file ≡ path
IsHeaderRefused path (fault.Path file path_fault.TooManyColumns) = string_bytes file ≡ path
IsHeaderRefused path (fault.Column file column found) = string_bytes file ≡ path
IsHeaderRefused path _ = ⊥

-- the same of the file of this path, whose header lacks this where its bytes are known
abbrev pub IsHeaderLacking : Holds → List ℕ → InitFault → Type 0
IsHeaderLacking holds path e = IsHeaderRefused path e × ((csv : List ℕ) → holds path ≡ Some csv → IsLack (shown (csv_records csv)) e)

-- the table has no name; or it has one, and its file's header is refused
abbrev pub IsTableRefused : Holds → List ℕ → List ℕ → InitFault → Type 0
IsTableRefused holds path table e = IsUnnamed path table e ⊎ ((is_short_name table ≡ true) × IsHeaderLacking holds path e)

-- ---- a dimension

-- memory ran out, or the file of this path has none of these keys
abbrev pub IsKeyless : List ℕ → List ℕ → InitFault → Type 0
IsKeyless path keys fault.Memory = ⊤
IsKeyless path keys (fault.Path file path_fault.NoKey) = (string_bytes file ≡ path) × (keys ≡ [])
IsKeyless path keys _ = ⊥

-- the records aren't refused for a key that is there twice
abbrev pub IsOtherFault : InitFault → Type 0
IsOtherFault (fault.Table file e) = is_key_twice e ≡ false
IsOtherFault _ = ⊤

-- the file of this path can't be read, or its records have a fault, with the first column as the key that takes no NULL and under which they have one other than a key that is there twice
pub record IsFirstFault (holds : Holds) (path : List ℕ) (table : Table) (e : InitFault) : Type 0 where
  pub index : ℕ
  pub takes_no_null : is_nullable (slice_get table.columns index) ≡ false
  pub refused : IsDimensionRefused holds path (record { table = table; key = index }) e
  pub other : IsOtherFault e
  pub passed : (csv : List ℕ) → holds path ≡ Some csv → ArePassed table (csv_records csv) index

-- memory ran out, or that is so
abbrev pub AreRecordsRefused : Holds → List ℕ → Table → InitFault → Type 0
AreRecordsRefused holds path table e = (e ≡ fault.Memory) ⊎ IsFirstFault holds path table e

-- memory ran out, or no column may be the key and none is refused for anything but a key that is there twice
abbrev pub IsUnkeyed : Holds → List ℕ → Table → InitFault → Type 0
IsUnkeyed holds path table e = (keys : List ℕ) × IsKeyless path keys e
    × ((csv : List ℕ) → holds path ≡ Some csv → (keys ≡ keys_of table (csv_records csv)) × ArePassed table (csv_records csv) (length table.columns))

-- the table's records are refused, or it has no key
abbrev pub IsKeyRefused : Holds → List ℕ → Table → InitFault → Type 0
IsKeyRefused holds path table e = AreRecordsRefused holds path table e ⊎ IsUnkeyed holds path table e

-- memory ran out, or standard error failed
abbrev pub IsUnreported : InitFault → Type 0
IsUnreported e = (e ≡ fault.Memory) ⊎ (e ≡ fault.CannotReport)

-- there is no table, or it has no key, or its key can't be said
abbrev pub IsDimensionUnmade : Holds → List ℕ → List ℕ → InitFault → Type 0
IsDimensionUnmade holds path table e = IsTableRefused holds path table e
    ⊎ ((is_short_name table ≡ true) × (columns : List Column) × AreShown holds path columns × (IsKeyRefused holds path (record { name = table; columns = columns }) e ⊎ IsUnreported e))

-- ---- the files

-- memory ran out, or the folder's files can't be listed
abbrev pub IsUnlisted : (List ℕ → Type 0) → List ℕ → InitFault → Type 0
IsUnlisted hides folder fault.Memory = ⊤
IsUnlisted hides folder (fault.Path name path_fault.CannotRead) = (string_bytes name ≡ folder) × hides folder
IsUnlisted hides folder _ = ⊥

-- the file of a path was asked for; or the path is the folder's, whose files can't be listed
abbrev pub IsAskedOrHidden : (List ℕ → Type 0) → (List ℕ → Type 0) → List ℕ → List ℕ → Type 0
IsAskedOrHidden asks hides folder path = asks path ⊎ ((path ≡ folder) × hides folder)

-- no file's name is less than that of the file before it
abbrev pub AreByName : List CsvFile → Type 0
AreByName files = IsSortedByKey (λ file. string_bytes file.table) (slice_cmp nat_cmp) files

-- the folder's files, by their names
abbrev pub IsListed : (List ℕ → List CsvFile → Type 0) → List ℕ → List CsvFile → Type 0
IsListed lists folder files = (found : List CsvFile) × lists folder found × IsPermutation found files × AreByName files

abbrev pub has_file : List CsvFile → List ℕ → Bool
has_file files table = list_any (λ file. bytes_eq (string_bytes file.table) table) files

-- the table of the largest file, and of several so large of the first
pub record IsLargest (files : List CsvFile) (table : List ℕ) : Type 0 where
  pub index : ℕ
  pub file : CsvFile
  pub within : index < length files
  pub there : file ≡ get_or files index file
  pub named : table ≡ string_bytes file.table
  pub first : All (λ other. other.bytes < file.bytes) (take index files)
  pub largest : All (λ other. other.bytes ≤ file.bytes) files

-- the fact: the table that was asked for, which has a file, or that of the largest file
abbrev pub IsFactOf : Option (List ℕ) → List CsvFile → List ℕ → Type 0
IsFactOf None files fact = IsLargest files fact
IsFactOf (Some asked) files fact = (fact ≡ asked) × (has_file files asked ≡ true)

-- memory ran out, or standard error failed; or the fact was named, and has no file; or it wasn't, and there is none at all
abbrev pub IsFactUnfound : Option (List ℕ) → List CsvFile → List ℕ → InitFault → Type 0
IsFactUnfound asked files folder fault.Memory = ⊤
IsFactUnfound asked files folder fault.CannotReport = ⊤
IsFactUnfound asked files folder (fault.Path file path_fault.NoFact) = (name : List ℕ) × (asked ≡ Some name) × (has_file files name ≡ false) × (string_bytes file ≡ csv_path folder name)
IsFactUnfound asked files folder (fault.Path file path_fault.NoFile) = (asked ≡ None) × (files ≡ []) × (string_bytes file ≡ folder)
IsFactUnfound asked files folder _ = ⊥

-- a file makes no dimension, and those before it make one each
pub record IsFirstUnmade (holds : Holds) (folder : List ℕ) (files : List CsvFile) (e : InitFault) : Type 0 where
  pub front : List CsvFile
  pub file : CsvFile
  pub behind : List CsvFile
  pub files_are : files ≡ front ++ file ∷ behind
  pub dims : List Dimension
  pub made : AreDimensionsOf holds folder front dims
  pub unmade : IsDimensionUnmade holds (csv_path folder (string_bytes file.table)) (string_bytes file.table) e

-- memory ran out, or one of the files but the fact's makes no dimension, and is the first that makes none
abbrev pub AreDimensionsUnmade : Holds → List ℕ → List CsvFile → List ℕ → InitFault → Type 0
AreDimensionsUnmade holds folder files fact e = (e ≡ fault.Memory) ⊎ IsFirstUnmade holds folder (others fact files) e

-- the file of the fact of this name makes a table
abbrev pub IsFactMade : Holds → List ℕ → List ℕ → Type 0
IsFactMade holds folder fact = (is_short_name fact ≡ true) × (columns : List Column) × AreShown holds (csv_path folder fact) columns

-- the fact's file makes no table; or it makes one, and another file makes no dimension
abbrev pub IsTextUnmade : Holds → List ℕ → List CsvFile → List ℕ → InitFault → Type 0
IsTextUnmade holds folder files fact e = IsTableRefused holds (csv_path folder fact) fact e ⊎ (IsFactMade holds folder fact × AreDimensionsUnmade holds folder files fact e)

-- memory ran out, or the text is no catalogue
abbrev pub IsNoCatalog : List ℕ → InitFault → Type 0
IsNoCatalog text e = (e ≡ fault.Memory) ⊎ ((f : CatalogFault) × (catalog_of text ≡ Err f) × (e ≡ fault.Catalog f))

-- no text was made; or the one that was is no catalogue
abbrev pub IsTextUndeclared : Holds → List ℕ → List CsvFile → List ℕ → InitFault → Type 0
IsTextUndeclared holds folder files fact e = IsTextUnmade holds folder files fact e ⊎ ((text : List ℕ) × IsNoCatalog text e)

-- no text declares the files' tables; or one does, and the files don't load under it
abbrev pub IsTextRefused : Holds → List ℕ → List CsvFile → List ℕ → InitFault → Type 0
IsTextRefused holds folder files fact e = IsTextUndeclared holds folder files fact e
    ⊎ ((text : List ℕ) × IsGuess holds folder files fact text × IsCatalogRefused holds folder text e)

-- ---- all of them

-- there are more files beside the fact's than a catalogue has dimensions
abbrev pub AreTooMany : List CsvFile → Type 0
AreTooMany files = max_dimensions + 1 < length files

-- of the files that are there: the fact isn't found; or they are too many; or they aren't, and no text of this fact passes
abbrev pub IsGuessRefusedOf : Holds → List ℕ → Option (List ℕ) → List CsvFile → InitFault → Type 0
IsGuessRefusedOf holds folder asked files e = IsFactUnfound asked files folder e
    ⊎ ((fact : List ℕ) × IsFactOf asked files fact
    × ((AreTooMany files × (e ≡ fault.TooManyDimensions)) ⊎ ((length files ≤ max_dimensions + 1) × IsTextRefused holds folder files fact e)))

-- the folder's files can't be listed, or this is wrong with those that are
abbrev pub IsGuessRefused : Holds → (List ℕ → List CsvFile → Type 0) → (List ℕ → Type 0) → List ℕ → Option (List ℕ) → InitFault → Type 0
IsGuessRefused holds lists hides folder asked e = IsUnlisted hides folder e ⊎ ((files : List CsvFile) × IsListed lists folder files × IsGuessRefusedOf holds folder asked files e)

-- the text declares the tables of the folder's files, which are not too many, and of which one is the fact's
pub record IsGuessable (holds : Holds) (lists : List ℕ → List CsvFile → Type 0) (folder : List ℕ) (asked : Option (List ℕ)) (text : List ℕ) : Type 0 where
  pub files : List CsvFile
  pub listed : IsListed lists folder files
  pub few : length files ≤ max_dimensions + 1
  pub fact : List ℕ
  pub is_fact : IsFactOf asked files fact
  pub guess : IsGuess holds folder files fact text

-- there is a catalogue, or there may be one; or there is none, and none is guessed, or it can't be written
abbrev pub IsMakeRefused : Holds → (List ℕ → Type 0) → (List ℕ → Type 0) → (List ℕ → List CsvFile → Type 0) → (List ℕ → Type 0) → List ℕ → Option (List ℕ) → InitFault → Type 0
IsMakeRefused holds opens lacks lists hides folder asked e = IsNotAbsent opens (catalog_path folder) e
    ⊎ (lacks (catalog_path folder) × (IsGuessRefused holds lists hides folder asked e ⊎ IsUnwritten (catalog_path folder) e))
