-- What the commands come to, one behind the other: the report of answers that `work` wrote over the files that `load` wrote.
use Rattle.std.specs.Prelude.{◌≡◌, ℕ, ◌<◌, ◌^◌, List, [], length, Option, Some, Ok, All, Contains}
use Rattle.std.specs.Io.KnownBytes.{Appends}
use Rattle.meaning.specs.Cut.{Cut, numbered}
use Rattle.meaning.specs.Gather.{is_conflict, fragments_where}
use Rattle.meaning.specs.Meaning.{meaning}
use Rattle.meaning.specs.Order.{Row}
use Rattle.meaning.specs.Print.{output_text}
use Rattle.meaning.specs.Records.{dimension_of, fact_of}
use Rattle.meaning.specs.declared.catalog.Catalog.{Catalog}
use Rattle.meaning.specs.declared.catalog.Dimension.{Dimension}
use Rattle.meaning.specs.declared.plan.Join.{Join}
use Rattle.meaning.specs.declared.plan.Plan.{Plan}
use Rattle.catalog_reader.specs.CatalogText.{catalog_of}
use Rattle.loader.specs.Source.{csv_records}
use Rattle.gathering.specs.declared.report.Report.{Report}
use Rattle.folders.specs.Each.{AreEach}
use Rattle.folders.specs.Folder.{Change, Holds, catalog_path, csv_path}
use Rattle.command_line.specs.declared.commands.GatherCommand.{GatherCommand}
use Rattle.command_line.specs.declared.commands.WorkCommand.{WorkCommand}
use Rattle.jobs.specs.Gathering.{IsGathered, Taken}
use Rattle.jobs.specs.Working.{IsSpelled}
use Rattle.loads.specs.Loading.{IsLoadDone}

-- ---- what is premised

-- the folder returns what was written: under the path of each change lie its bytes
abbrev pub Returns : Holds → List Change → Type 0
Returns holds changes = All (λ change. holds change.0 ≡ change.1) changes

-- `work` answered the query for the fragment in these bytes
abbrev pub IsWorkOf : Holds → List ℕ → List ℕ → ℕ → List ℕ → Type 0
IsWorkOf holds folder query k bytes = (command : WorkCommand) × (command.folder ≡ folder) × (command.query ≡ query) × (command.fragment ≡ k) × IsSpelled holds command bytes

-- the file is one of those, and its bytes are what `work` answered for the fragment
abbrev pub IsTakenOf : Holds → GatherCommand → List Taken → ℕ → Type 0
IsTakenOf holds command files k = (file : Taken) × Contains files file × IsWorkOf holds command.folder command.query k file.bytes

-- tables were loaded, and the folder returns the files that this wrote; a query was gathered over it, and what `work` answered
-- for each fragment is among the files that were taken, in any order and with any others; none conflicts
pub record IsRun (holds : Holds) (load rows : ℕ) (command : GatherCommand) (before after err_before err_after : Option (List ℕ)) (wrote_before wrote_after : Option (List Change)) (report : Report) : Type 0 where
  pub printed_before : Option (List ℕ)
  pub printed_after : Option (List ℕ)
  pub changes : List Change
  pub loaded : IsLoadDone holds command.folder load rows printed_before printed_after (Some []) (Some changes)
  pub numbered_load : load < 2 ^ 64
  pub returned : Returns holds changes
  pub gathered : IsGathered holds command before after err_before err_after wrote_before wrote_after report
  pub answered : (k : ℕ) → k < length gathered.gather.job.cut → IsTakenOf holds command gathered.files.files k
  pub calm : fragments_where is_conflict gathered.gather.cells ≡ []

-- ---- the tables

-- the rows are those of a dimension of that name, by its CSV file
pub record IsJoinedTable (holds : Holds) (folder : List ℕ) (catalog : Catalog) (join : Join) (rows : List Row) : Type 0 where
  pub dimension : Dimension
  pub declared : Contains catalog.dims dimension
  pub named : dimension.table.name ≡ join.dim.name
  pub csv : List ℕ
  pub held : holds (csv_path folder dimension.table.name) ≡ Some csv
  pub loaded : dimension_of dimension (csv_records csv) ≡ Ok rows

-- the tables of a plan, by the CSV files: the fact's rows under the cut, and those of each joined dimension
pub record AreTablesOf (holds : Holds) (folder : List ℕ) (catalog : Catalog) (cut : Cut) (plan : Plan) (rows : List Row) (dims : List (List Row)) : Type 0 where
  pub csv : List ℕ
  pub held : holds (csv_path folder catalog.fact.name) ≡ Some csv
  pub fact : fact_of catalog cut (csv_records csv) ≡ Ok rows
  pub joined : AreEach (IsJoinedTable holds folder catalog) plan.joins dims

-- ---- the law

-- what is printed is the query's meaning over the tables that the CSV files are
abbrev pub RunsMean : Type 0
RunsMean = (holds : Holds) (load each : ℕ) (command : GatherCommand) (before after err_before err_after : Option (List ℕ)) (wrote_before wrote_after : Option (List Change)) (report : Report)
    (run : IsRun holds load each command before after err_before err_after wrote_before wrote_after report)
    (text : List ℕ) (catalog : Catalog) (rows : List Row) (dims : List (List Row))
    → holds (catalog_path command.folder) ≡ Some text
    → catalog_of text ≡ Ok catalog
    → AreTablesOf holds command.folder catalog run.gathered.gather.job.cut run.gathered.gather.job.plan rows dims
    → Appends before after (output_text run.gathered.gather.job.plan (meaning run.gathered.gather.job.plan dims (numbered rows)))
