-- Why a command is refused: the first thing that is wrong in the folder's bytes, in the command's order.
use Rattle.std.specs.Prelude.{◌≡◌, ◌⊎◌, ℕ, ◌<◌, ◌≤◌, List, ◌∷◌, ◌++◌, drop, length, All, Contains, Option, None, Some, IfSome, Ok, Err, ⊤}
use Rattle.disk.specs.Disk.{DiskSpec}
use Rattle.meaning.specs.declared.catalog.Catalog.{Catalog}
use Rattle.meaning.specs.declared.catalog.Dimension.{Dimension}
use Rattle.meaning.specs.declared.plan.Join.{Join}
use Rattle.meaning.specs.declared.plan.Plan.{Plan}
use Rattle.meaning.specs.declared.cut.CutFault.{CutFault}
use Rattle.meaning.specs.declared.table.TableFault.{TableFault}
use Rattle.catalog_reader.specs.CatalogText.{catalog_of}
use Rattle.meaning.specs.Limits.{max_fragments}
use Rattle.meaning.specs.Cut.{Cut, cut_of, even_lengths}
use Rattle.loader.specs.Columns.{fact_fragments, dimension_columns}
use Rattle.loader.specs.Source.{csv_records}
use Rattle.coordinator.specs.Whole.{Input, IsRefused}
use Rattle.coordinator.specs.declared.fault.WholeFault.{WholeFault}
use Rattle.folders.specs.Each.{AreEach}
use Rattle.folders.specs.Folder.{Change, Holds, AreHeld, Writes, catalog_path, csv_path, cut_path, dimension_path, fragment_path}
use Rattle.folders.specs.Refused.{IsTriedFor, IsUnread, IsUnwritten}
use Rattle.cli.specs.WholeRefusal.{refusal_of}
use Rattle.folders.specs.declared.refusal.Refusal.{Refusal}
use Rattle.folders.specs.declared.refusal.Refusal.TheVariants as refusal
use Rattle.jobs.specs.Gathering.{HasFailed, IsGatherLeft, IsGatherRefused, IsGatherSavedFirst, IsGatherUnread}
use Rattle.folders.specs.Tables.{IsCatalogRefused, IsCatalogThere}
use Rattle.jobs.specs.Working.{IsWorkRefused, IsWorkUnread}
use Rattle.loads.specs.Refusing.{IsLoadLeft, IsLoadRefused, IsQuiet, IsUneven}
use Rattle.cli.specs.Running.{AreTables, IsCsvOf, input_over}
use Rattle.command_line.specs.declared.commands.Command.{Command}
use Rattle.command_line.specs.declared.commands.Command.TheVariants.{Whole, Load, Work, Gather}
use Rattle.cli.specs.declared.tables.CsvFile.{CsvFile}
use Rattle.cli.specs.declared.tables.Tables.{Tables}

-- ---- the fact's rows, counted and cut

-- the file at the path can't be read to its end, or its rows can't be cut
abbrev pub IsFileUncut : List ℕ → List ℕ → ℕ → Refusal → Type 0
IsFileUncut path csv rows e = IsUnread path e ⊎ IsUneven (length (drop 1 (csv_records csv))) rows e

-- the same of the fact's file, where it could be read; where not, there are no rows
abbrev pub IsFactUncut : List ℕ → Option CsvFile → ℕ → Refusal → Type 0
IsFactUncut folder None rows e = IsUneven 0 rows e
IsFactUncut folder (Some file) rows e = IsFileUncut (csv_path folder file.table) file.bytes.items rows e

-- ---- the files of a query's tables

-- the files of these tables were asked for
abbrev pub AreAsked : (List ℕ → Type 0) → List ℕ → List CsvFile → Type 0
AreAsked asks folder files = All (λ file. asks (csv_path folder file.table)) files

-- so were those of the dimensions that are joined
abbrev pub AreJoinedAsked : (List ℕ → Type 0) → List ℕ → List Join → Type 0
AreJoinedAsked asks folder joins = All (λ join. asks (csv_path folder join.dim.name)) joins

-- the path of the CSV file of a plan's fact, or of a dimension that it joins
abbrev pub IsCsvOfPlan : List ℕ → Plan → List ℕ → Type 0
IsCsvOfPlan folder plan path = (path ≡ csv_path folder plan.fact.name)
    ⊎ ((join : Join) × Contains plan.joins join × (path ≡ csv_path folder join.dim.name))

-- a file that can't be read is one of them
abbrev pub IsUnreadOfPlan : List ℕ → Plan → Refusal → Type 0
IsUnreadOfPlan folder plan e = (path : List ℕ) → e ≡ refusal.CannotRead path → IsCsvOfPlan folder plan path

-- ---- the commands

-- memory ran out, or the fact isn't cut
abbrev pub AreTablesUncut : Holds → List ℕ → List ℕ → ℕ → Refusal → Type 0
AreTablesUncut holds folder name rows e = (e ≡ refusal.Memory)
    ⊎ ((fact : Option CsvFile) × IfSome fact (λ file. IsCsvOf holds folder file × (file.table ≡ name)) × IsFactUncut folder fact rows e)

-- memory ran out, or a query over files is refused for what stands in them
abbrev pub IsInputRefused : List ℕ → Input → Refusal → Type 0
IsInputRefused folder input e = (e ≡ refusal.Memory) ⊎ ((fault : WholeFault) × IsRefused input fault × (e ≡ refusal_of folder fault))

-- the query is refused over files that could be read
abbrev pub IsRefusedOver : Holds → List ℕ → List ℕ → Catalog → List ℕ → ℕ → ℕ → Refusal → Type 0
IsRefusedOver holds folder text catalog query rows vector e =
    (tables : Tables) × AreTables holds folder catalog.fact.name rows tables × IsInputRefused folder (input_over text tables query vector) e

-- the fact isn't cut, or the query is refused over the files that could be read
abbrev pub IsQueryRefused : Holds → List ℕ → List ℕ → Catalog → List ℕ → ℕ → ℕ → Refusal → Type 0
IsQueryRefused holds folder text catalog query rows vector e = AreTablesUncut holds folder catalog.fact.name rows e
    ⊎ IsRefusedOver holds folder text catalog query rows vector e

-- the catalogue is refused, or the query
abbrev pub IsWholeRefused : Holds → List ℕ → List ℕ → ℕ → ℕ → Refusal → Type 0
IsWholeRefused holds folder query rows vector e = IsCatalogRefused holds folder e
    ⊎ ((text : List ℕ) × (catalog : Catalog) × AreHeld (holds (catalog_path folder)) text × (catalog_of text ≡ Ok catalog)
    × IsQueryRefused holds folder text catalog query rows vector e)

abbrev pub IsRefusedFor : Holds → Command → Refusal → Type 0
IsRefusedFor holds (Whole folder query rows vector) e = IsWholeRefused holds folder query rows vector e
IsRefusedFor holds (Load folder load rows) e = IsLoadRefused holds folder rows e
IsRefusedFor holds (Work command) e = IsWorkRefused holds command e
IsRefusedFor holds (Gather command) e = IsGatherRefused holds command e

-- a file that `work` or `gather` can't read is the first of theirs: those before it were opened; and a journal can't be had as a disk
abbrev pub IsUnreadFirst : Holds → (List ℕ → Type 0) → (List ℕ → Type 0) → Command → Refusal → Type 0
IsUnreadFirst holds opens shuts (Work command) e = IsWorkUnread holds opens command e
IsUnreadFirst holds opens shuts (Gather command) e = IsGatherUnread opens shuts command e
IsUnreadFirst holds opens shuts _ e = ⊤

-- a file that `load`, `work` or `gather` can't write was to be created, put under its path or taken away
abbrev pub IsUnwrittenTried : (List ℕ → Type 0) → Command → Refusal → Type 0
IsUnwrittenTried tries (Load folder load rows) e = IsTriedFor tries e
IsUnwrittenTried tries (Work command) e = IsTriedFor tries e
IsUnwrittenTried tries (Gather command) e = IsTriedFor tries e
IsUnwrittenTried tries (Whole folder query rows vector) e = ⊤

-- ---- what a refusal leaves

-- the files that a refused command leaves: `whole` and `work` write none, `load` no more than the first of its files, and
-- `gather` none but a state whose report can't be printed; where standard output failed, all that was to be written is
abbrev pub LeavesFiles : Holds → Command → Refusal → Option (List ℕ) → Option (List Change) → Option (List Change) → Type 0
LeavesFiles holds (Whole folder query rows vector) e err before after = after ≡ before
LeavesFiles holds (Load folder load rows) e err before after = IsLoadLeft holds folder load rows e before after
LeavesFiles holds (Work command) e err before after = after ≡ before
LeavesFiles holds (Gather command) e err before after = IsGatherLeft holds command err before after × IsGatherSavedFirst holds command err before after e

-- nothing went to standard error but from `gather`, which names the files that it passes over
abbrev pub IsSilent : Command → Option (List ℕ) → Option (List ℕ) → Type 0
IsSilent (Gather command) before after = ⊤
IsSilent _ before after = after ≡ before

-- a disk has said so where `gather` says that a journal's device failed, or is full
abbrev pub IsDiskFailed : {D : Type 0} → (D → DiskSpec) → Command → Refusal → Type 0
IsDiskFailed shown (Gather command) e = HasFailed shown e
IsDiskFailed shown _ e = ⊤

-- a command is refused for this, and what it printed and wrote by then
pub record IsRefusedSo (holds : Holds) (command : Command) (before after err_before : Option (List ℕ)) (wrote_before wrote_after : Option (List Change)) (e : Refusal) : Type 0 where
  pub stands : IsRefusedFor holds command e
  pub quiet : IsQuiet e before after
  pub left : LeavesFiles holds command e err_before wrote_before wrote_after
