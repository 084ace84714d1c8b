-- What a command does.
use Rattle.std.specs.Prelude.{◌≡◌, ℕ, List, ◌∷◌, map, drop, length, Option, None, Some, IfSome, Ok, All}
use Rattle.meaning.specs.declared.catalog.Catalog.{Catalog}
use Rattle.catalog_reader.specs.CatalogText.{catalog_of}
use Rattle.meaning.specs.Cut.{cut_of, even_lengths}
use Rattle.loader.specs.Source.{csv_records}
use Rattle.gathering.specs.Gathering.{GatherSpec}
use Rattle.coordinator.specs.Whole.{Files, Input, IsAnswered}
use Rattle.gathering.specs.declared.report.Ended.{Ended}
use Rattle.folders.specs.Folder.{Holds, Change, AreHeld, catalog_path, csv_path}
use Rattle.loads.specs.Loading.{IsLoadDone}
use Rattle.jobs.specs.Gathering.{IsGathered}
use Rattle.jobs.specs.Working.{IsWorked}
use Rattle.command_line.specs.declared.commands.GatherCommand.{GatherCommand}
use Rattle.gathering.specs.declared.report.Report.{Report}
use Rattle.cli.specs.Status.{end_status, report_status}
use Rattle.command_line.specs.declared.commands.Command.{Command}
use Rattle.command_line.specs.declared.commands.Command.TheVariants.{Whole, Load, Work, Gather}
use Rattle.cli.specs.declared.tables.CsvFile.{CsvFile}
use Rattle.cli.specs.declared.tables.Tables.{Tables}

-- a table's bytes are those of its CSV file
abbrev pub IsCsvOf : Holds → List ℕ → CsvFile → Type 0
IsCsvOf holds folder file = AreHeld (holds (csv_path folder file.table)) file.bytes.items

-- the fact's file, where it could be read, before those of the dimensions
abbrev pub files_read : Option CsvFile → List CsvFile → List CsvFile
files_read None dims = dims
files_read (Some fact) dims = fact ∷ dims

-- the files by the names of their tables
abbrev pub files_of : Tables → Files
files_of tables = map (λ file. (file.table, file.bytes.items)) (files_read tables.fact tables.dims.items)

-- how many records stand behind the first of the fact's file; none where it could not be read
abbrev pub rows_behind : Option CsvFile → ℕ
rows_behind None = 0
rows_behind (Some file) = length (drop 1 (csv_records file.bytes.items))

-- tables of the folder's files, the fact, which has this name, cut into fragments of so many rows
pub record AreTables (holds : Holds) (folder name : List ℕ) (rows : ℕ) (tables : Tables) : Type 0 where
  pub fact : IfSome tables.fact (λ file. IsCsvOf holds folder file × (file.table ≡ name))
  pub dims : All (IsCsvOf holds folder) tables.dims.items
  pub evenly : cut_of (even_lengths (rows_behind tables.fact) rows) ≡ Ok tables.cut

-- what a query over them runs over
abbrev pub input_over : List ℕ → Tables → List ℕ → ℕ → Input
input_over catalog tables query vector = record { catalog = catalog; files = files_of tables; query = query; cut = tables.cut; vector_len = vector }

-- a query was answered over tables of the folder's files, of a catalogue that the text declares: what was printed is what it
-- means over them
pub record IsAnsweredSo (holds : Holds) (folder text : List ℕ) (catalog : Catalog) (query : List ℕ) (rows vector : ℕ) (before after : Option (List ℕ)) (end : Ended) : Type 0 where
  pub tables : Tables
  pub loaded : AreTables holds folder catalog.fact.name rows tables
  pub gather : GatherSpec
  pub answered : IsAnswered (input_over text tables query vector) before after end gather

-- a query was answered over a folder's files: what was printed is what it means over them, and the status is that of its end
pub record IsWholeDone (holds : Holds) (folder query : List ℕ) (rows vector : ℕ) (before after : Option (List ℕ)) (status : ℕ) : Type 0 where
  pub text : List ℕ
  pub held : AreHeld (holds (catalog_path folder)) text
  pub catalog : Catalog
  pub declared : catalog_of text ≡ Ok catalog
  pub tables : Tables
  pub loaded : AreTables holds folder catalog.fact.name rows tables
  pub ended : Ended
  pub gather : GatherSpec
  pub answered : IsAnswered (input_over text tables query vector) before after ended gather
  pub ends : status ≡ end_status ended

-- files were gathered, and the status is that of the report
pub record IsReportedAs (holds : Holds) (command : GatherCommand) (before after err_before err_after : Option (List ℕ)) (wrote_before wrote_after : Option (List Change)) (status : ℕ) : Type 0 where
  pub report : Report
  pub gathered : IsGathered holds command before after err_before err_after wrote_before wrote_after report
  pub ends : status ≡ report_status report

-- the command was done; `whole` writes no file, `work` prints nothing, and `gather` alone writes to standard error
abbrev pub IsCommandDone : Holds → Command → Option (List ℕ) → Option (List ℕ) → Option (List ℕ) → Option (List ℕ) → Option (List Change) → Option (List Change) → ℕ → Type 0
IsCommandDone holds (Whole folder query rows vector) before after err_before err_after wrote_before wrote_after status =
    IsWholeDone holds folder query rows vector before after status × (wrote_after ≡ wrote_before) × (err_after ≡ err_before)
IsCommandDone holds (Load folder load rows) before after err_before err_after wrote_before wrote_after status =
    (status ≡ 0) × IsLoadDone holds folder load rows before after wrote_before wrote_after × (err_after ≡ err_before)
IsCommandDone holds (Work command) before after err_before err_after wrote_before wrote_after status =
    (status ≡ 0) × IsWorked holds command wrote_before wrote_after × (after ≡ before) × (err_after ≡ err_before)
IsCommandDone holds (Gather command) before after err_before err_after wrote_before wrote_after status =
    IsReportedAs holds command before after err_before err_after wrote_before wrote_after status
