-- Why `load` is refused: the first thing that is wrong in the folder's bytes, in the command's order.
use Rattle.std.specs.Prelude.{◌≡◌, ◌≢◌, ◌⊎◌, ℕ, ◌<◌, ◌≤◌, List, ◌∷◌, ◌++◌, length, Contains, Option, Some, Result, Ok, Err}
use Rattle.meaning.specs.declared.catalog.Catalog.{Catalog}
use Rattle.meaning.specs.declared.catalog.Dimension.{Dimension}
use Rattle.meaning.specs.declared.cut.CutFault.{CutFault}
use Rattle.meaning.specs.declared.table.TableFault.{TableFault}
use Rattle.meaning.specs.Limits.{max_fragments}
use Rattle.meaning.specs.Cut.{Cut, cut_of, even_lengths}
use Rattle.columns.specs.Column.{ColumnSpec}
use Rattle.loader.specs.Columns.{fact_fragments, dimension_columns}
use Rattle.loader.specs.Source.{csv_records}
use Rattle.folders.specs.Each.{AreEach}
use Rattle.folders.specs.Folder.{Change, Holds, AreHeld, Writes, csv_path, cut_path, dimension_path, fragment_path}
use Rattle.folders.specs.Refused.{IsTriedFor, IsUnread, IsUnwritten}
use Rattle.folders.specs.Tables.{IsCatalogRefused, IsCatalogThere}
use Rattle.folders.specs.declared.refusal.Refusal.{Refusal}
use Rattle.folders.specs.declared.refusal.Refusal.TheVariants as refusal
use Rattle.loads.specs.declared.ready.Ready.{Ready}
use Rattle.loads.specs.Loading.{AreFiles, AreFilesBegun, IsDimensionLoaded, IsFactCounted, IsFactLoaded}

-- ---- the fact's rows, cut

-- memory ran out, or so many rows can't be cut evenly into fragments of `rows`
abbrev pub IsUneven : ℕ → ℕ → Refusal → Type 0
IsUneven counted rows e = (e ≡ refusal.Memory)
    ⊎ ((fault : CutFault) × (cut_of (even_lengths counted rows) ≡ Err fault) × (e ≡ refusal.Cut fault))

-- ---- tables that aren't loaded

-- the fact's file can't be read to its end, or its table has a fault under this cut
abbrev pub IsFactUnloaded : Holds → List ℕ → Catalog → Cut → Refusal → Type 0
IsFactUnloaded holds folder catalog cut e = IsUnread (csv_path folder catalog.fact.name) e
    ⊎ ((fault : TableFault) × (e ≡ refusal.Load fault)
    × ((csv : List ℕ) → holds (csv_path folder catalog.fact.name) ≡ Some csv → fact_fragments catalog cut (csv_records csv) ≡ Err fault))

-- the fact's file can't be read to its end, or it isn't cut, or it isn't loaded. What is said of its file is said where its bytes are known.
abbrev pub IsFactRefused : Holds → List ℕ → Catalog → ℕ → Refusal → Type 0
IsFactRefused holds folder catalog rows e = IsUnread (csv_path folder catalog.fact.name) e
    ⊎ ((counted : ℕ) × IsFactCounted holds folder catalog counted
    × (IsUneven counted rows e ⊎ ((cut : Cut) × (cut_of (even_lengths counted rows) ≡ Ok cut) × IsFactUnloaded holds folder catalog cut e)))

-- a dimension's file can't be read, or its table has a fault
abbrev pub IsDimensionRefused : Holds → List ℕ → Dimension → Refusal → Type 0
IsDimensionRefused holds folder d e = IsUnread (csv_path folder d.table.name) e
    ⊎ ((csv : List ℕ) × (fault : TableFault) × AreHeld (holds (csv_path folder d.table.name)) csv
    × (dimension_columns d (csv_records csv) ≡ Err fault) × (e ≡ refusal.Load fault))

-- a dimension is refused, and those before it are loaded
pub record IsFirstRefused (holds : Holds) (folder : List ℕ) (dims : List Dimension) (e : Refusal) : Type 0 where
  pub before : List Dimension
  pub dim : Dimension
  pub behind : List Dimension
  pub dims_are : dims ≡ before ++ dim ∷ behind
  pub columns : List (List ColumnSpec)
  pub loaded : AreEach (IsDimensionLoaded holds folder) before columns
  pub refused : IsDimensionRefused holds folder dim e

-- memory ran out, or one of the dimensions is refused
abbrev pub AreDimensionsRefused : Holds → List ℕ → List Dimension → Refusal → Type 0
AreDimensionsRefused holds folder dims e = (e ≡ refusal.Memory) ⊎ IsFirstRefused holds folder dims e

-- ---- files that aren't written

abbrev pub AreFragmentsUnwritten : List ℕ → List ℕ → ℕ → Refusal → Type 0
AreFragmentsUnwritten folder table fragments e = (k : ℕ) × (k < fragments) × IsUnwritten (fragment_path folder table k) e

abbrev pub AreDimensionsUnwritten : List ℕ → List Dimension → Refusal → Type 0
AreDimensionsUnwritten folder dims e = (d : Dimension) × Contains dims d × IsUnwritten (dimension_path folder d.table.name) e

-- the file of a fragment that the cut doesn't have can't be taken away
abbrev pub IsFragmentLeft : List ℕ → List ℕ → Cut → Refusal → Type 0
IsFragmentLeft folder table cut e = (k : ℕ) × (length cut ≤ k) × (k < max_fragments) × IsUnwritten (fragment_path folder table k) e

-- one of these closed files can't be put under its path
abbrev pub IsNotPut : {P : Type 0} → List (Ready P) → Refusal → Type 0
IsNotPut {P = P} files e = (before behind : List (Ready P)) × (ready : Ready P) × (files ≡ before ++ ready ∷ behind) × IsUnwritten ready.path e

-- the file of one of these paths can't be taken away
abbrev pub IsNotGone : List (List ℕ) → Refusal → Type 0
IsNotGone paths e = (before behind : List (List ℕ)) × (path : List ℕ) × (paths ≡ before ++ path ∷ behind) × IsUnwritten path e

-- a fragment's file, a dimension's or that of the cut can't be written, or that of another fragment can't be taken away
abbrev pub AreFilesUnwritten : List ℕ → Catalog → Cut → Refusal → Type 0
AreFilesUnwritten folder catalog cut e = AreFragmentsUnwritten folder catalog.fact.name (length cut) e
    ⊎ AreDimensionsUnwritten folder catalog.dims e
    ⊎ IsFragmentLeft folder catalog.fact.name cut e
    ⊎ IsUnwritten (cut_path folder) e

-- where a file can't be written, it was tried, or the refusal is the one that was there before
abbrev pub IsTriedOr : {A : Type 0} → (List ℕ → Type 0) → Result A Refusal → Refusal → Type 0
IsTriedOr tries before e = IsTriedFor tries e ⊎ (before ≡ Err e)

-- a file can't be written or the line can't be printed
abbrev pub IsUnsaved : List ℕ → Catalog → Cut → Refusal → Type 0
IsUnsaved folder catalog cut e = AreFilesUnwritten folder catalog cut e ⊎ (e ≡ refusal.CannotPrint)

-- a dimension is refused; or all are loaded, and a file can't be written or the line can't be printed
abbrev pub IsUnfinished : Holds → List ℕ → Catalog → Cut → Refusal → Type 0
IsUnfinished holds folder catalog cut e = AreDimensionsRefused holds folder catalog.dims e
    ⊎ ((dims : List (List ColumnSpec)) × AreEach (IsDimensionLoaded holds folder) catalog.dims dims × IsUnsaved folder catalog cut e)

-- ---- the command

-- the fact is refused; or it is loaded, and what comes behind isn't done
abbrev pub IsCatalogLoadRefused : Holds → List ℕ → Catalog → ℕ → Refusal → Type 0
IsCatalogLoadRefused holds folder catalog rows e = IsFactRefused holds folder catalog rows e
    ⊎ ((cut : Cut) × (fragments : List (List ColumnSpec)) × IsFactLoaded holds folder catalog rows cut fragments × IsUnfinished holds folder catalog cut e)

-- the catalogue is refused, or its tables
abbrev pub IsLoadRefused : Holds → List ℕ → ℕ → Refusal → Type 0
IsLoadRefused holds folder rows e = IsCatalogRefused holds folder e
    ⊎ ((catalog : Catalog) × IsCatalogThere holds folder catalog × IsCatalogLoadRefused holds folder catalog rows e)

-- ---- what a refusal leaves

-- the first of a load's files were written; or all of them, where standard output failed behind them
abbrev pub IsWrittenSoFar : List ℕ → ℕ → Catalog → Cut → List (List ColumnSpec) → List (List ColumnSpec) → Refusal → Option (List Change) → Option (List Change) → Type 0
IsWrittenSoFar folder load catalog cut fragments dims e before after =
    ((e ≢ refusal.CannotPrint) × Writes (AreFilesBegun folder load catalog cut fragments dims) before after)
    ⊎ ((e ≡ refusal.CannotPrint) × Writes (AreFiles folder load catalog cut fragments dims) before after)

-- nothing was printed, unless standard output failed
abbrev pub IsQuiet : Refusal → Option (List ℕ) → Option (List ℕ) → Type 0
IsQuiet e before after = (e ≡ refusal.CannotPrint) ⊎ (after ≡ before)

-- a closed file can't be put under a path, or the path's file can't be taken away
abbrev pub IsStuck : (List ℕ → Type 0) → Refusal → Type 0
IsStuck stays e = (path : List ℕ) × stays path × IsUnwritten path e

-- No file was written or taken away, unless one can't be put under its path or taken away, or standard output failed behind
-- them all: what else is refused comes before the first of them.
abbrev pub IsWholeUnlessStuck : (List ℕ → Type 0) → Refusal → Option (List Change) → Option (List Change) → Type 0
IsWholeUnlessStuck stays e before after = (after ≡ before) ⊎ IsStuck stays e ⊎ (e ≡ refusal.CannotPrint)

-- no file was written, and standard output didn't fail
abbrev pub IsUntouched : Refusal → Option (List Change) → Option (List Change) → Type 0
IsUntouched e before after = (e ≢ refusal.CannotPrint) × (after ≡ before)

-- all tables are loaded, and the first of their files were written, or all where standard output failed behind them
pub record IsSavedSoFar (holds : Holds) (folder : List ℕ) (load rows : ℕ) (catalog : Catalog) (e : Refusal) (before after : Option (List Change)) : Type 0 where
  pub cut : Cut
  pub fragments : List (List ColumnSpec)
  pub fact : IsFactLoaded holds folder catalog rows cut fragments
  pub dims : List (List ColumnSpec)
  pub each : AreEach (IsDimensionLoaded holds folder) catalog.dims dims
  pub written : IsWrittenSoFar folder load catalog cut fragments dims e before after

-- a load that is refused wrote no file, or no more than some; where standard output failed it wrote all
abbrev pub IsCatalogLoadLeft : Holds → List ℕ → ℕ → ℕ → Catalog → Refusal → Option (List Change) → Option (List Change) → Type 0
IsCatalogLoadLeft holds folder load rows catalog e before after = IsUntouched e before after ⊎ IsSavedSoFar holds folder load rows catalog e before after

-- the same, by the catalogue that lies there
abbrev pub IsLoadLeft : Holds → List ℕ → ℕ → ℕ → Refusal → Option (List Change) → Option (List Change) → Type 0
IsLoadLeft holds folder load rows e before after = IsUntouched e before after
    ⊎ ((catalog : Catalog) × IsCatalogThere holds folder catalog × IsSavedSoFar holds folder load rows catalog e before after)
