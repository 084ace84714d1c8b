-- Why a text's catalogue isn't one for a folder: the first thing that is wrong, in the order of the tables.
use Rattle.std.specs.Prelude.{◌≡◌, ◌⊎◌, ℕ, ◌<◌, ◌≤◌, List, ◌∷◌, ◌++◌, length, drop, sum, All, Err, Ok, Some, ⊤, string_bytes}
use Rattle.meaning.specs.declared.catalog.Catalog.{Catalog}
use Rattle.meaning.specs.declared.catalog.CatalogFault.{CatalogFault}
use Rattle.meaning.specs.declared.catalog.CatalogFault.TheVariants as catalog_fault
use Rattle.meaning.specs.declared.catalog.Dimension.{Dimension}
use Rattle.meaning.specs.Cut.{Cut}
use Rattle.meaning.specs.Records.{dimension_of, fact_of}
use Rattle.catalog_reader.specs.CatalogText.{catalog_of}
use Rattle.loader.specs.Source.{csv_records}
use Rattle.loader.specs.declared.fault.LoadFault.{LoadFault}
use Rattle.loader.specs.declared.fault.LoadFault.TheVariants as load_fault
use Rattle.folders.specs.Folder.{Holds, csv_path}
use Rattle.folders.specs.declared.refusal.Refusal.{Refusal}
use Rattle.folders.specs.declared.refusal.Refusal.TheVariants as refusal
use Rattle.init.specs.declared.fault.InitFault.{InitFault}
use Rattle.init.specs.declared.fault.InitFault.TheVariants as fault
use Rattle.init.specs.declared.fault.PathFault.{PathFault}
use Rattle.init.specs.declared.fault.PathFault.TheVariants as path_fault
use Rattle.init.specs.Making.{IsDimensionFit, IsFactFit}

-- ---- a layer's refusal

abbrev pub of_catalog : CatalogFault → InitFault
of_catalog catalog_fault.Memory = fault.Memory
of_catalog e = fault.Catalog e

-- memory ran out, or this is wrong with the file or the folder of this path
abbrev pub IsOfPath : List ℕ → PathFault → InitFault → Type 0
IsOfPath path found fault.Memory = ⊤
IsOfPath path found (fault.Path file kind) = (string_bytes file ≡ path) × (kind ≡ found)
IsOfPath path found _ = ⊥

-- memory ran out, or the file of this path can't be read
abbrev pub IsUnread : List ℕ → InitFault → Type 0
IsUnread path fault.Memory = ⊤
IsUnread path (fault.Path file path_fault.CannotRead) = string_bytes file ≡ path
IsUnread path _ = ⊥

-- memory ran out, or the file of this path can't be written
abbrev pub IsUnwritten : List ℕ → InitFault → Type 0
IsUnwritten path fault.Memory = ⊤
IsUnwritten path (fault.Path file path_fault.CannotWrite) = string_bytes file ≡ path
IsUnwritten path _ = ⊥

-- a file that can't be read was asked for
abbrev pub IsAskedFor : (List ℕ → Type 0) → InitFault → Type 0
IsAskedFor asks (fault.Path file path_fault.CannotRead) = asks (string_bytes file)
IsAskedFor asks _ = ⊤

-- a file that can't be written was to be created or put under its path
abbrev pub IsTriedFor : (List ℕ → Type 0) → InitFault → Type 0
IsTriedFor tries (fault.Path file path_fault.CannotWrite) = tries (string_bytes file)
IsTriedFor tries _ = ⊤

-- the refusal of a file that is read or written
abbrev pub IsOfRefusal : Refusal → InitFault → Type 0
IsOfRefusal (refusal.CannotRead path) e = IsUnread path e
IsOfRefusal (refusal.CannotWrite path) e = IsUnwritten path e
IsOfRefusal _ e = e ≡ fault.Memory

-- memory ran out, or a table of this file was not loaded for this reason
abbrev pub IsOfLoad : List ℕ → LoadFault → InitFault → Type 0
IsOfLoad path given fault.Memory = ⊤
IsOfLoad path given (fault.Path file path_fault.CannotRead) = (string_bytes file ≡ path) × (given ≡ load_fault.Device)
IsOfLoad path given (fault.Table file e) = (string_bytes file ≡ path) × (given ≡ load_fault.Table e)
IsOfLoad path given _ = ⊥

-- memory ran out, or a file was opened under the path, or it can't be said whether there is one
abbrev pub IsNotAbsent : (List ℕ → Type 0) → List ℕ → InitFault → Type 0
IsNotAbsent opens path fault.Memory = ⊤
IsNotAbsent opens path (fault.Path file path_fault.CatalogThere) = (string_bytes file ≡ path) × opens path
IsNotAbsent opens path (fault.Path file path_fault.CannotRead) = string_bytes file ≡ path
IsNotAbsent opens path _ = ⊥

-- ---- the fact

-- the rows behind a file's header aren't counted, or are more than 4,294,967,296. What is said of a file's bytes is said where they are known.
abbrev pub IsUncounted : Holds → List ℕ → InitFault → Type 0
IsUncounted holds path fault.Memory = ⊤
IsUncounted holds path (fault.Path file path_fault.CannotRead) = string_bytes file ≡ path
IsUncounted holds path (fault.Path file path_fault.TooManyRows) = (string_bytes file ≡ path)
    × ((csv : List ℕ) → holds path ≡ Some csv → 4294967296 < length (drop 1 (csv_records csv)))
IsUncounted holds path _ = ⊥

-- the fact's file isn't counted, or has no more rows than that and a fault in its records, whatever the cut of their rows
abbrev pub IsFactRefused : Holds → List ℕ → Catalog → InitFault → Type 0
IsFactRefused holds path catalog (fault.Table file e) = (string_bytes file ≡ path)
    × ((csv : List ℕ) → holds path ≡ Some csv → length (drop 1 (csv_records csv)) ≤ 4294967296)
    × ((csv : List ℕ) (cut : Cut) → holds path ≡ Some csv → sum cut ≡ length (drop 1 (csv_records csv)) → fact_of catalog cut (csv_records csv) ≡ Err e)
IsFactRefused holds path catalog e = IsUncounted holds path e

-- ---- dimensions

-- a dimension's file can't be read, or its records have a fault
abbrev pub IsDimensionRefused : Holds → List ℕ → Dimension → InitFault → Type 0
IsDimensionRefused holds path d (fault.Table file e) = (string_bytes file ≡ path)
    × ((csv : List ℕ) → holds path ≡ Some csv → dimension_of d (csv_records csv) ≡ Err e)
IsDimensionRefused holds path d e = IsUnread path e

-- a dimension is refused, and the files of those before it load
pub record IsFirstRefused (holds : Holds) (folder : List ℕ) (dims : List Dimension) (e : InitFault) : Type 0 where
  pub before : List Dimension
  pub dim : Dimension
  pub behind : List Dimension
  pub dims_are : dims ≡ before ++ dim ∷ behind
  pub fit : All (IsDimensionFit holds folder) before
  pub refused : IsDimensionRefused holds (csv_path folder dim.table.name) dim e

-- ---- a catalogue

-- the fact is refused; or its file loads, and a dimension is refused
abbrev pub AreTablesRefused : Holds → List ℕ → Catalog → InitFault → Type 0
AreTablesRefused holds folder catalog e = IsFactRefused holds (csv_path folder catalog.fact.name) catalog e
    ⊎ (IsFactFit holds folder catalog × IsFirstRefused holds folder catalog.dims e)

-- memory ran out, or the text is no catalogue, or the tables that it declares are refused
abbrev pub IsCatalogRefused : Holds → List ℕ → List ℕ → InitFault → Type 0
IsCatalogRefused holds folder text e = (e ≡ fault.Memory)
    ⊎ ((f : CatalogFault) × (catalog_of text ≡ Err f) × (e ≡ fault.Catalog f))
    ⊎ ((catalog : Catalog) × (catalog_of text ≡ Ok catalog) × AreTablesRefused holds folder catalog e)
