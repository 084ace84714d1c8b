-- What a layer's refusal is as one of a command's, and how it is known that a file was not read or written.
use Rattle.std.specs.Prelude.{◌≡◌, ◌⊎◌, ℕ, List, ◌∷◌, ◌++◌, All, ⊤}
use Rattle.meaning.specs.declared.catalog.CatalogFault.{CatalogFault}
use Rattle.meaning.specs.declared.catalog.CatalogFault.TheVariants as catalog_fault
use Rattle.meaning.specs.declared.cut.CutFault.{CutFault}
use Rattle.meaning.specs.declared.cut.CutFault.TheVariants as cut_fault
use Rattle.loader.specs.declared.fault.LoadFault.{LoadFault}
use Rattle.loader.specs.declared.fault.LoadFault.TheVariants as load_fault
use Rattle.fragment_file.specs.declared.fault.FileFault.{FileFault}
use Rattle.fragment_file.specs.declared.fault.FileFault.TheVariants as file_fault
use Rattle.job_files.specs.declared.fault.WorkFault.{WorkFault}
use Rattle.job_files.specs.declared.fault.WorkFault.TheVariants as work_fault
use Rattle.folders.specs.Folder.{csv_path}
use Rattle.folders.specs.declared.refusal.Refusal.{Refusal}
use Rattle.folders.specs.declared.refusal.Refusal.TheVariants as refusal

-- ---- files

-- the path's file can't be read, or memory ran out
abbrev pub IsUnread : List ℕ → Refusal → Type 0
IsUnread path e = (e ≡ refusal.Memory) ⊎ (e ≡ refusal.CannotRead path)

-- a file that can't be read was asked for
abbrev pub IsAskedFor : (List ℕ → Type 0) → Refusal → Type 0
IsAskedFor asks e = (path : List ℕ) → e ≡ refusal.CannotRead path → asks path

-- a file that can't be had as a disk is such
abbrev pub IsShut : (List ℕ → Type 0) → Refusal → Type 0
IsShut shuts e = (path : List ℕ) → e ≡ refusal.CannotRead path → shuts path

-- a file that can't be written was to be created, put under its path or taken away
abbrev pub IsTriedFor : (List ℕ → Type 0) → Refusal → Type 0
IsTriedFor tries e = (path : List ℕ) → e ≡ refusal.CannotWrite path → tries path

-- the path's file can't be written, or memory ran out
abbrev pub IsUnwritten : List ℕ → Refusal → Type 0
IsUnwritten path e = (e ≡ refusal.Memory) ⊎ (e ≡ refusal.CannotWrite path)

-- the path is one of these, and the files of those before it were opened
abbrev pub IsNextOpened : (List ℕ → Type 0) → List (List ℕ) → List ℕ → Type 0
IsNextOpened opens paths path = (before behind : List (List ℕ)) × (paths ≡ before ++ path ∷ behind) × All opens before

-- where a file can't be read, it is one of these, and those before it were opened
abbrev pub IsFirstUnread : (List ℕ → Type 0) → List (List ℕ) → Refusal → Type 0
IsFirstUnread opens paths e = (path : List ℕ) → e ≡ refusal.CannotRead path → IsNextOpened opens paths path

-- this refusal, unless memory runs out
abbrev pub IsReturnedAs : Refusal → Refusal → Type 0
IsReturnedAs meant e = (e ≡ refusal.Memory) ⊎ (e ≡ meant)

-- ---- a layer's refusal; out of memory is returned as such

abbrev pub of_catalog : CatalogFault → Refusal
of_catalog catalog_fault.Memory = refusal.Memory
of_catalog e = refusal.Catalog e

abbrev pub of_cut : CutFault → Refusal
of_cut cut_fault.Memory = refusal.Memory
of_cut e = refusal.Cut e

-- of the file of the cut
abbrev pub of_file : FileFault → Refusal
of_file file_fault.Memory = refusal.Memory
of_file e = refusal.File e

abbrev pub of_work : WorkFault → Refusal
of_work work_fault.Memory = refusal.Memory
of_work e = refusal.Work e

-- the refusal of a command by which a table of a folder was not loaded
abbrev pub load_refusal : List ℕ → List ℕ → LoadFault → Refusal
load_refusal folder table load_fault.Memory = refusal.Memory
load_refusal folder table (load_fault.Table e) = refusal.Load e
load_refusal folder table load_fault.Device = refusal.CannotRead (csv_path folder table)

-- no path is copied for it
abbrev pub IsLoadPathless : LoadFault → Type 0
IsLoadPathless load_fault.Device = ⊥
IsLoadPathless _ = ⊤
