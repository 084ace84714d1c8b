-- What is said of the choices that a catalogue is made by.
use Rattle.std.specs.Prelude.{◌≡◌, ℕ, List, [], ◌∷◌, ◌++◌, codes, decimal, if◌then◌else◌, slice_get, Option, None, Some, Ok}
use Rattle.std.specs.Io.KnownBytes.{Appends}
use Rattle.std.specs.List.{join_by}
use Rattle.meaning.specs.declared.catalog.Catalog.{Catalog}
use Rattle.meaning.specs.declared.catalog.Column.{Column}
use Rattle.meaning.specs.declared.catalog.Dimension.{Dimension}
use Rattle.meaning.specs.declared.catalog.Table.{Table}
use Rattle.catalog_reader.specs.CatalogText.{catalog_of}
use Rattle.loader.specs.Source.{csv_records}
use Rattle.folders.specs.Folder.{Holds, csv_path}
use Rattle.init.specs.declared.reporting.Reason.{Reason}
use Rattle.init.specs.declared.reporting.Reason.TheVariants.{Asked, Largest}
use Rattle.init.specs.Keys.{keys_of}
use Rattle.init.specs.declared.looks.Evidence.{Evidence}
use Rattle.init.specs.declared.looks.Look.{Look}
use Rattle.init.specs.declared.looks.Look.TheVariants as look

-- ---- the fact

abbrev pub reason_text : Reason → List ℕ
reason_text Asked = codes "as was asked for"
reason_text Largest = codes "whose file is the largest"

-- the fact was named, or else it is that of the largest file
abbrev pub reason_of : Option (List ℕ) → Reason
reason_of None = Largest
reason_of (Some name) = Asked

abbrev pub reason_line : List ℕ → List ℕ → List ℕ
reason_line fact why = fact ++ codes " is the fact, " ++ why ++ codes "\n"

abbrev pub fact_line : Reason → List ℕ → List ℕ
fact_line reason fact = reason_line fact (reason_text reason)

-- ---- a dimension

abbrev pub name_in : Option Column → List ℕ
name_in None = []
name_in (Some column) = column.name

-- the name of the column of this index
abbrev pub column_name : Table → ℕ → List ℕ
column_name table index = name_in (slice_get table.columns index)

-- the names of columns, with commas between
abbrev pub names_text : Table → List ℕ → List ℕ
names_text table indexes = join_by (column_name table) (codes ", ") indexes

-- the other columns that may be the key, if there are some
abbrev pub others_text : Table → List ℕ → List ℕ
others_text table [] = []
others_text table (first ∷ others) = codes "; so do those of " ++ names_text table (first ∷ others)

abbrev pub key_line : List ℕ → List ℕ → List ℕ → List ℕ
key_line name key others = name ++ codes " is a dimension by " ++ key ++ codes ", its first column whose values differ and are never NULL" ++ others ++ codes "\n"

abbrev pub dimension_line : Dimension → List ℕ → List ℕ
dimension_line d others = key_line d.table.name (column_name d.table d.key) (others_text d.table others)

-- the key and these others are the columns that may be the key, where the bytes of the file of this path are known
abbrev pub AreKeysOf : Holds → List ℕ → Dimension → List ℕ → Type 0
AreKeysOf holds path d others = (csv : List ℕ) → holds path ≡ Some csv → d.key ∷ others ≡ keys_of d.table (csv_records csv)

-- ---- the dimensions

-- a line for each dimension, in their order, with the columns of its file that may be the key
abbrev pub AreSaid : Holds → List ℕ → List Dimension → List ℕ → Type 0
AreSaid holds folder [] text = text ≡ []
AreSaid holds folder (d ∷ dims) text =
    (others : List ℕ) × (behind : List ℕ) × AreKeysOf holds (csv_path folder d.table.name) d others × AreSaid holds folder dims behind × (text ≡ dimension_line d others ++ behind)

-- a line for each dimension that the text declares
abbrev pub SaysDimensions : Holds → List ℕ → List ℕ → Option (List ℕ) → Option (List ℕ) → Type 0
SaysDimensions holds folder text before after = (catalog : Catalog) × (catalog_of text ≡ Ok catalog) × (said : List ℕ) × AreSaid holds folder catalog.dims said × Appends before after said

-- a line for the fact that the text declares, and one for each dimension
abbrev pub SaysTables : Holds → List ℕ → Option (List ℕ) → List ℕ → Option (List ℕ) → Option (List ℕ) → Type 0
SaysTables holds folder asked text before after =
    (catalog : Catalog) × (catalog_of text ≡ Ok catalog) × (said : List ℕ) × AreSaid holds folder catalog.dims said × Appends before after (fact_line (reason_of asked) catalog.fact.name ++ said)

-- ---- columns that are texts

-- what the look of a field says of its column
abbrev pub words_text : Look → List ℕ
words_text look.Padded = codes ", whose zeros an integer would lose"
words_text _ = []

-- the first field of a column that is no integer, with its line and what its look says
abbrev pub text_line : List ℕ → List ℕ → ℕ → List ℕ → List ℕ → List ℕ
text_line column table line shown words = column ++ (codes " is text: " ++ (table ++ (codes ".csv line " ++ (decimal line ++ (codes " has " ++ (shown ++ (words ++ codes "\n")))))))

-- what all fields of a column look like
abbrev pub looks_text : Evidence → List ℕ
looks_text evidence = if evidence.decimals then codes " looks like decimals: there are only integers, so store cents, as 1990 for 19.90"
    else (if evidence.dates then codes " looks like dates: they are texts, which sort and compare rightly as YYYY-MM-DD" else [])

-- notes come behind what was said
abbrev pub AddsNotes : Option (List ℕ) → Option (List ℕ) → Type 0
AddsNotes before after = (notes : List ℕ) × Appends before after notes

-- the lines of the tables, and behind them notes on the columns that are texts
abbrev pub SaysChoices : Holds → List ℕ → Option (List ℕ) → List ℕ → Option (List ℕ) → Option (List ℕ) → Type 0
SaysChoices holds folder asked text before after = (between : Option (List ℕ)) × SaysTables holds folder asked text before between × AddsNotes between after
