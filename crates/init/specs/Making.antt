-- A catalogue under which the files of a folder load.
use Rattle.std.specs.Prelude.{◌≡◌, ℕ, List, length, drop, sum, Option, None, Some, Result, Ok, All, ⊤}
use Rattle.meaning.specs.declared.catalog.Catalog.{Catalog}
use Rattle.meaning.specs.declared.catalog.Dimension.{Dimension}
use Rattle.meaning.specs.declared.catalog.Table.{Table}
use Rattle.meaning.specs.declared.table.TableFault.{TableFault}
use Rattle.meaning.specs.Cut.{Cut}
use Rattle.meaning.specs.Order.{Row}
use Rattle.meaning.specs.Records.{Record, dimension_of, fact_of}
use Rattle.catalog_reader.specs.CatalogText.{catalog_of}
use Rattle.loader.specs.Source.{csv_records}
use Rattle.folders.specs.Folder.{Holds, csv_path}

-- these are columns, and no fault
abbrev pub AreColumns : {A : Type 0} → Result A TableFault → Type 0
AreColumns {A} meant = (columns : A) × (meant ≡ Ok columns)

-- the records are a fact table, whatever the cut of their rows
abbrev pub IsFact : Catalog → List Record → Type 0
IsFact catalog records = (rows : List Row) × ((cut : Cut) → sum cut ≡ length (drop 1 records) → fact_of catalog cut records ≡ Ok rows)

abbrev pub IsDimension : Dimension → List Record → Type 0
IsDimension dimension records = (rows : List Row) × (dimension_of dimension records ≡ Ok rows)

-- the fact's CSV file loads, where its bytes are known
abbrev pub IsFactFit : Holds → List ℕ → Catalog → Type 0
IsFactFit holds folder catalog = (csv : List ℕ) → holds (csv_path folder catalog.fact.name) ≡ Some csv → IsFact catalog (csv_records csv)

-- the same of a dimension's
abbrev pub IsDimensionFit : Holds → List ℕ → Dimension → Type 0
IsDimensionFit holds folder dimension = (csv : List ℕ) → holds (csv_path folder dimension.table.name) ≡ Some csv → IsDimension dimension (csv_records csv)

-- the text declares a catalogue of these tables
abbrev pub Declares : Table → List Dimension → List ℕ → Type 0
Declares fact dims text = (catalog : Catalog) × (catalog_of text ≡ Ok catalog) × (catalog.fact ≡ fact) × (catalog.dims ≡ dims)

-- the text declares a catalogue whose fact has this name
abbrev pub DeclaresFact : List ℕ → List ℕ → Type 0
DeclaresFact name text = (catalog : Catalog) × (catalog_of text ≡ Ok catalog) × (catalog.fact.name ≡ name)

-- where the fact was named, the text declares it
abbrev pub IsAsAsked : Option (List ℕ) → List ℕ → Type 0
IsAsAsked None text = ⊤
IsAsAsked (Some name) text = DeclaresFact name text

-- the text declares tables as which the files of the folder load
pub record IsCatalogFor (holds : Holds) (folder text : List ℕ) : Type 0 where
  pub catalog : Catalog
  pub declared : catalog_of text ≡ Ok catalog
  pub fact : IsFactFit holds folder catalog
  pub dims : All (IsDimensionFit holds folder) catalog.dims
