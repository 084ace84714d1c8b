-- The first fault that a load of a folder would have.
use Rattle.std.specs.Prelude.{◌≡◌, ◌⊎◌, ℕ, ◌<◌, List, ◌∷◌, ◌++◌, codes, length, take, All, Option, None, Some, slice_get, string_bytes, Bool, true, false, ⊤}
use Rattle.std.specs.Io.KnownBytes.{Appends}
use Rattle.meaning.specs.declared.catalog.Catalog.{Catalog}
use Rattle.meaning.specs.declared.catalog.Dimension.{Dimension}
use Rattle.folders.specs.Folder.{Holds, csv_path}
use Rattle.folders.specs.Refused.{IsAskedFor}
use Rattle.folders.specs.Tables.{IsCatalogRefused, IsCatalogThere}
use Rattle.folders.specs.declared.refusal.Refusal.{Refusal}
use Rattle.folders.specs.declared.refusal.Refusal.TheVariants as refusal
use Rattle.init.specs.Making.{IsDimensionFit, IsFactFit}
use Rattle.init.specs.Refusing.{IsDimensionRefused, IsFactRefused}
use Rattle.init.specs.declared.fault.InitFault.{InitFault}
use Rattle.load_check.specs.declared.checking.Unfit.{Unfit}
use Rattle.load_check.specs.declared.telling.Told.{Told}
use Rattle.load_check.specs.declared.telling.Told.TheVariants as told

-- ---- no fault

-- the files of all tables load, where their bytes are known: the fact's however its rows are cut
abbrev pub AreTablesFit : Holds → List ℕ → Catalog → Type 0
AreTablesFit holds folder catalog = IsFactFit holds folder catalog × All (IsDimensionFit holds folder) catalog.dims

-- the same of the tables that the folder's catalogue declares
abbrev pub IsFolderFit : Holds → List ℕ → Type 0
IsFolderFit holds folder = (catalog : Catalog) × IsCatalogThere holds folder catalog × AreTablesFit holds folder catalog

-- ---- the first fault

-- the dimension of this index is refused, and the files of those before it load
pub record IsFirstRefused (holds : Holds) (folder : List ℕ) (dims : List Dimension) (index : ℕ) (e : InitFault) : Type 0 where
  pub before : All (IsDimensionFit holds folder) (take index dims)
  pub dim : Dimension
  pub there : slice_get dims index ≡ Some dim
  pub refused : IsDimensionRefused holds (csv_path folder dim.table.name) dim e

-- the fact is refused; or its file loads, and that dimension is the first that is refused
abbrev pub IsTableUnfit : Holds → List ℕ → Catalog → Option ℕ → InitFault → Type 0
IsTableUnfit holds folder catalog None e = IsFactRefused holds (csv_path folder catalog.fact.name) catalog e
IsTableUnfit holds folder catalog (Some index) e = IsFactFit holds folder catalog × IsFirstRefused holds folder catalog.dims index e

abbrev pub IsUnfit : Holds → List ℕ → Catalog → Unfit → Type 0
IsUnfit holds folder catalog unfit = IsTableUnfit holds folder catalog unfit.dimension unfit.fault

-- the catalogue is refused; or it declares tables, and one of them is the first that is
abbrev pub HasFault : Holds → List ℕ → Type 0
HasFault holds folder = ((e : Refusal) × IsCatalogRefused holds folder e)
    ⊎ ((catalog : Catalog) × IsCatalogThere holds folder catalog × (unfit : Unfit) × IsUnfit holds folder catalog unfit)

-- ---- what is printed

abbrev pub fit_line : List ℕ → List ℕ
fit_line folder = folder ++ codes ": no fault; each file loads as catalog.txt declares it\n"

-- no fault, or some lines that tell of one
abbrev pub is_fault : Told → Bool
is_fault told.NoFault = false
is_fault (told.Fault text) = true

abbrev pub told_text : List ℕ → Told → List ℕ
told_text folder told.NoFault = fit_line folder
told_text folder (told.Fault text) = string_bytes text

-- of tables that are declared: no fault is told where they load, and one where one of them is refused
abbrev pub TellsTables : Holds → List ℕ → Catalog → Told → Type 0
TellsTables holds folder catalog told.NoFault = AreTablesFit holds folder catalog
TellsTables holds folder catalog (told.Fault text) = (unfit : Unfit) × IsUnfit holds folder catalog unfit

-- the same of a folder
abbrev pub IsTold : Holds → List ℕ → Told → Type 0
IsTold holds folder told.NoFault = IsFolderFit holds folder
IsTold holds folder (told.Fault text) = HasFault holds folder

-- no fault, and the line that says so; or a fault, and the lines that tell it
abbrev pub Tells : Holds → List ℕ → Bool → Option (List ℕ) → Option (List ℕ) → Type 0
Tells holds folder true before after = IsFolderFit holds folder × Appends before after (fit_line folder)
Tells holds folder false before after = HasFault holds folder × ((text : List ℕ) × Appends before after text)
