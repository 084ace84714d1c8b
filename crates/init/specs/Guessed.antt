-- What a guessed catalogue declares: the tables of a folder's files, as these show them.
use Rattle.std.specs.Prelude.{◌≡◌, ℕ, true, List, [], ◌∷◌, filter, not, Some, Ok, ⊤, string_bytes}
use Rattle.std.specs.Str.{bytes_eq}
use Rattle.meaning.specs.declared.catalog.Catalog.{Catalog}
use Rattle.meaning.specs.declared.catalog.Column.{Column}
use Rattle.meaning.specs.declared.catalog.Dimension.{Dimension}
use Rattle.meaning.specs.declared.catalog.Table.{Table}
use Rattle.catalog_reader.specs.CatalogText.{catalog_of}
use Rattle.loader.specs.Source.{csv_records}
use Rattle.folders.specs.Folder.{Holds, csv_path}
use Rattle.init.specs.declared.listing.CsvFile.{CsvFile}
use Rattle.init.specs.Keys.{keys_of}
use Rattle.init.specs.Shown.{is_short_name, shown}

-- the columns are those that the file of this path shows, where its bytes are known
abbrev pub AreShown : Holds → List ℕ → List Column → Type 0
AreShown holds path columns = (csv : List ℕ) → holds path ≡ Some csv → shown (csv_records csv) ≡ Ok columns

-- the key is the first that the file of this path shows, where its bytes are known
abbrev pub IsFirstKey : Holds → List ℕ → Dimension → Type 0
IsFirstKey holds path dimension = (csv : List ℕ) → holds path ≡ Some csv → (behind : List ℕ) × (keys_of dimension.table (csv_records csv) ≡ dimension.key ∷ behind)

-- the dimension has the name of the file, which is one of a table, and the columns and the key that it shows
abbrev pub IsDimensionOf : Holds → List ℕ → CsvFile → Dimension → Type 0
IsDimensionOf holds folder file dimension =
    (dimension.table.name ≡ string_bytes file.table) × (is_short_name (string_bytes file.table) ≡ true) × AreShown holds (csv_path folder (string_bytes file.table)) dimension.table.columns × IsFirstKey holds (csv_path folder (string_bytes file.table)) dimension

-- there is one dimension for each file, in their order
abbrev pub AreDimensionsOf : Holds → List ℕ → List CsvFile → List Dimension → Type 0
AreDimensionsOf holds folder [] [] = ⊤
AreDimensionsOf holds folder (file ∷ files) (dimension ∷ dims) = IsDimensionOf holds folder file dimension × AreDimensionsOf holds folder files dims
AreDimensionsOf holds folder _ _ = ⊥

-- the files but the fact's
abbrev pub others : List ℕ → List CsvFile → List CsvFile
others fact files = filter (λ file. not (bytes_eq (string_bytes file.table) fact)) files

-- the text declares this fact, and the dimensions of all other files
abbrev pub DeclaresFiles : Holds → List ℕ → List CsvFile → Table → List ℕ → Type 0
DeclaresFiles holds folder files fact text =
    (catalog : Catalog) × (catalog_of text ≡ Ok catalog) × (catalog.fact ≡ fact) × AreDimensionsOf holds folder (others fact.name files) catalog.dims

-- the text declares the fact of this name, with the columns that its file shows, and the dimensions of all other files
abbrev pub IsGuess : Holds → List ℕ → List CsvFile → List ℕ → List ℕ → Type 0
IsGuess holds folder files fact text =
    (table : Table) × (table.name ≡ fact) × AreShown holds (csv_path folder fact) table.columns × DeclaresFiles holds folder files table text
