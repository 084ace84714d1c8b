-- The first table that is refused.
use Rattle.std.proofs.Common.{◌≡◌, ◌<◌, ℕ, Bool, true, false, not, List, All, get_or, inr, length, refl, subst, sym, take}
use Rattle.std.specs.Prelude.{Option, None, Some, string_bytes}
use Rattle.std.specs.Io.KnownBytes.{Appends}
use Rattle.std.proofs.lemmas.Option.{slice_get_read}
use Rattle.meaning.specs.declared.catalog.Catalog.{Catalog}
use Rattle.meaning.specs.declared.catalog.Dimension.{Dimension}
use Rattle.folders.specs.Folder.{Holds, csv_path}
use Rattle.folders.specs.Tables.{IsCatalogThere}
use Rattle.init.specs.Making.{IsDimensionFit, IsFactFit}
use Rattle.init.specs.Refusing.{IsDimensionRefused, IsFactRefused}
use Rattle.init.specs.declared.fault.InitFault.{InitFault}
use Rattle.load_check.specs.Checking.{IsFirstRefused, IsTableUnfit, IsTold, IsUnfit, Tells, TellsTables, is_fault, told_text}
use Rattle.load_check.specs.declared.telling.Told.{Told}
use Rattle.load_check.specs.declared.telling.Told.TheVariants as is
use Rattle.load_check.specs.declared.checking.Unfit.{Unfit}

pub first_refused : (holds : Holds) (folder : List ℕ) (dims : List Dimension) (index : ℕ) (dim : Dimension) (e : InitFault) → index < length dims → dim ≡ get_or dims index dim → All (IsDimensionFit holds folder) (take index dims)
    → IsDimensionRefused holds (csv_path folder dim.table.name) dim e → IsFirstRefused holds folder dims index e
first_refused holds folder dims index dim e within is before refused = record {
  before = before;
  dim = dim;
  there = slice_get_read dims (length dims) index dim refl within is;
  refused = refused;
}

pub fact_unfit : (holds : Holds) (folder : List ℕ) (catalog : Catalog) (unfit : Unfit) → unfit.dimension ≡ None → IsFactRefused holds (csv_path folder catalog.fact.name) catalog unfit.fault → IsUnfit holds folder catalog unfit
fact_unfit holds folder catalog unfit is refused = subst (λ (d : Option ℕ). IsTableUnfit holds folder catalog d unfit.fault) (sym is) refused

pub dimension_unfit : (holds : Holds) (folder : List ℕ) (catalog : Catalog) (unfit : Unfit) (index : ℕ) → unfit.dimension ≡ Some index → IsFactFit holds folder catalog → IsFirstRefused holds folder catalog.dims index unfit.fault → IsUnfit holds folder catalog unfit
dimension_unfit holds folder catalog unfit index is fit refused = subst (λ (d : Option ℕ). IsTableUnfit holds folder catalog d unfit.fault) (sym is) (fit, refused)

-- what is told of the tables that a folder's catalogue declares is told of the folder
pub folder_told : (holds : Holds) (folder : List ℕ) (catalog : Catalog) (told : Told) → IsCatalogThere holds folder catalog → TellsTables holds folder catalog told → IsTold holds folder told
folder_told holds folder catalog is.NoFault there fit = (catalog, there, fit)
folder_told holds folder catalog (is.Fault text) there unfit = inr (catalog, there, unfit.0, unfit.1)

pub fault_told : (holds : Holds) (folder : List ℕ) (catalog : Catalog) (told : Told) (unfit : Unfit) → is_fault told ≡ true → IsUnfit holds folder catalog unfit → TellsTables holds folder catalog told
fault_told holds folder catalog is.NoFault unfit never refused = cc never
fault_told holds folder catalog (is.Fault text) unfit there refused = (unfit, refused)

-- what is told was printed
pub printed : (holds : Holds) (folder : List ℕ) (told : Told) (fit : Bool) (before after : Option (List ℕ)) → IsTold holds folder told → (is_fault told ≡ not fit) × Appends before after (told_text folder told) → Tells holds folder fit before after
printed holds folder is.NoFault true before after said (same, text) = (said, text)
printed holds folder is.NoFault false before after said (same, text) = cc same
printed holds folder (is.Fault lines) true before after said (same, text) = cc same
printed holds folder (is.Fault lines) false before after said (same, text) = (said, (string_bytes lines, text))
