-- A query from CSV files to print: what it runs over, and why it is refused.
use Rattle.std.specs.Prelude.{◌≡◌, ◌⊎◌, ℕ, true, false, List, [], map, zip, find, Option, Some, None, Result, Ok, Err, ⊤, ◌≢◌, length, sum}
use Rattle.std.specs.Borrow.{Bor}
use Rattle.std.specs.List.{range_with_len}
use Rattle.std.specs.Str.{bytes_eq}
use Rattle.std.specs.Io.KnownBytes.{Appends}
use Rattle.meaning.specs.VectorLength.{is_vector_length}
use Rattle.meaning.specs.declared.catalog.Catalog.{Catalog}
use Rattle.meaning.specs.declared.catalog.Dimension.{Dimension}
use Rattle.meaning.specs.declared.catalog.CatalogFault.{CatalogFault}
use Rattle.meaning.specs.declared.plan.Join.{Join}
use Rattle.meaning.specs.declared.plan.Plan.{Plan}
use Rattle.meaning.specs.declared.table.TableFault.{TableFault}
use Rattle.meaning.specs.Order.{Row}
use Rattle.meaning.specs.Cut.{Cut, numbered}
use Rattle.meaning.specs.Meaning.{meaning}
use Rattle.meaning.specs.TableLaws.{are_rows_of}
use Rattle.meaning.specs.Print.{output_text}
use Rattle.meaning.specs.Gather.{joined}
use Rattle.meaning_laws.specs.Laws.{own_answers}
use Rattle.meaning.specs.Results.{all_ok, and_then}
use Rattle.meaning.specs.Records.{Record, fact_of, dimension_of}
use Rattle.catalog_reader.specs.CatalogText.{catalog_of}
use Rattle.sql_reader.specs.Grammar.{IsRefusal}
use Rattle.sql_reader.specs.declared.fault.SqlFault.TheVariants as sql
use Rattle.meaning.specs.declared.catalog.CatalogFault.TheVariants as catalog_fault
use Rattle.columns.specs.Column.{ColumnSpec}
use Rattle.loader.specs.declared.fault.LoadFault.{LoadFault}
use Rattle.loader.specs.declared.fault.LoadFault.TheVariants as load_fault
use Rattle.loader.specs.Columns.{fragments_of}
use Rattle.loader.specs.Source.{csv_records}
use Rattle.gathering.specs.declared.report.Ended.{Ended}
use Rattle.gathering.specs.declared.report.Ended.TheVariants as ended
use Rattle.gathering.specs.declared.report.Report.{Report}
use Rattle.gathering.specs.declared.report.Report.TheVariants as report
use Rattle.gathering.specs.Report.{ended_as}
use Rattle.job_files.specs.RowFiles.{AreFilesOfTables, IsFileOfRows}
use Rattle.meaning.specs.Catalog as catalog_number
use Rattle.meaning.specs.Records as load_number
use Rattle.sql_reader.specs.Faults as sql_number
use Rattle.planner_expressions.specs.Numbers as plan_number
use Rattle.job_files.specs.Fault as work_number
use Rattle.job_files.specs.declared.fault.WorkFault.TheVariants as work_fault
use Rattle.gathering.specs.Gathering as gather_number
use Rattle.gathering.specs.declared.fault.GatherFault.TheVariants as gather_fault
use Rattle.gathering.specs.Gathering.{GatherSpec}
use Rattle.planner.specs.QueryText.{IsPlanned}
use Rattle.planner.specs.declared.query_fault.QueryFault.{QueryFault}
use Rattle.planner.specs.declared.query_fault.QueryFault.TheVariants as query_fault
use Rattle.coordinator.specs.declared.sources.Sources.{Sources}
use Rattle.coordinator.specs.declared.fault.WholeFault.{WholeFault}
use Rattle.coordinator.specs.declared.fault.WholeFault.TheVariants as fault

-- the CSV files by the names of their tables
abbrev pub Files : Type 0
Files = List (List ℕ × List ℕ)

-- the files that are lent
abbrev pub files_in : List (Bor (List ℕ) × Bor (List ℕ)) → Files
files_in csvs = map (λ file. (file.0.now, file.1.now)) csvs

-- ---- a layer's refusal as one of the whole; out of memory is returned as such

abbrev pub of_catalog : CatalogFault → WholeFault
of_catalog catalog_fault.Memory = fault.Memory
of_catalog e = fault.Catalog e

abbrev pub of_query : QueryFault → WholeFault
of_query query_fault.Memory = fault.Memory
of_query (query_fault.Sql e) = fault.Sql e
of_query (query_fault.Plan e) = fault.Plan e

abbrev pub of_load : LoadFault → WholeFault
of_load load_fault.Memory = fault.Memory
of_load (load_fault.Table e) = fault.Load e
-- a slice's reader never fails
of_load load_fault.Device = fault.Memory

-- ---- the plan

-- why the query has no plan
abbrev pub IsPlanRefused : Catalog → List ℕ → WholeFault → Type 0
IsPlanRefused catalog query fault.Memory = ⊤
IsPlanRefused catalog query (fault.Sql e) = (e ≢ sql.Memory) × IsRefusal query e
IsPlanRefused catalog query (fault.Plan e) = IsPlanned catalog query (Err e)
IsPlanRefused catalog query _ = ⊥

-- the error code: a layer's own; a missing file adds 1, and a failed writer has the coordinator's
abbrev pub number_of : WholeFault → ℕ
number_of fault.Memory = 0
number_of (fault.Catalog e) = catalog_number.number_of e
number_of (fault.Sql e) = sql_number.number_of e
number_of (fault.Plan e) = plan_number.number_of e
number_of (fault.MissingCsv table) = 1
number_of (fault.Load e) = load_number.number_of e
number_of fault.VectorLength = work_number.number_of work_fault.VectorLength
number_of fault.Writer = gather_number.number_of gather_fault.Writer

-- ---- the tables

abbrev pub found_csv : List ℕ → Option (List ℕ × List ℕ) → Result (List ℕ) WholeFault
found_csv name None = Err (fault.MissingCsv name)
found_csv name (Some file) = Ok file.1

-- the file of a table
abbrev pub csv_of : Files → List ℕ → Result (List ℕ) WholeFault
csv_of files name = found_csv name (find (λ file. bytes_eq file.0 name) files)

-- a table or its fault
abbrev pub table_from : Result (List Row) TableFault → Result (List Row) WholeFault
table_from (Ok rows) = Ok rows
table_from (Err e) = Err (fault.Load e)

-- the dimension that a join names
abbrev pub rows_of_dimension : Option Dimension → List Record → Result (List Row) WholeFault
rows_of_dimension None records = Ok []
rows_of_dimension (Some d) records = table_from (dimension_of d records)

abbrev pub joined_table : Catalog → Join × List ℕ → Result (List Row) WholeFault
joined_table catalog p = rows_of_dimension (find (λ d. bytes_eq d.table.name p.0.dim.name) catalog.dims) (csv_records p.1)

-- the files of the joins' dimensions
abbrev pub joined_csvs : Files → List Join → Result (List (List ℕ)) WholeFault
joined_csvs files joins = all_ok (map (λ j. csv_of files j.dim.name) joins)

-- the fact's rows and those of each joined dimension: first each file is found, the fact's before the dimensions', then they are
-- loaded in this order
abbrev pub tables_of : Catalog → Files → Cut → Plan → Result (List Row × List (List Row)) WholeFault
tables_of catalog files cut plan =
    and_then (csv_of files plan.fact.name) (λ fact_csv.
    and_then (joined_csvs files plan.joins) (λ csvs.
    and_then (table_from (fact_of catalog cut (csv_records fact_csv))) (λ rows.
    and_then (all_ok (map (joined_table catalog) (zip plan.joins csvs))) (λ dims.
    Ok (rows, dims)))))

-- ---- what is asked

-- all that a call is given but the writer
pub record Input : Type 0 where
  pub catalog : List ℕ
  pub files : Files
  pub query : List ℕ
  pub cut : Cut
  pub vector_len : ℕ

abbrev pub whole_input : List ℕ → List (Bor (List ℕ) × Bor (List ℕ)) → List ℕ → Cut → ℕ → Input
whole_input catalog csvs query cut vector_len = record { catalog = catalog; files = files_in csvs; query = query; cut = cut; vector_len = vector_len }

abbrev pub input_of : List ℕ → List ℕ → Sources → Input
input_of catalog query sources = whole_input catalog sources.csvs.now query sources.cut.now sources.vector_len

-- the plan and the tables of the input
pub record RunsOver (input : Input) (plan : Plan) (rows : List Row) (dims : List (List Row)) : Type 0 where
  pub catalog : Catalog
  pub declared : catalog_of input.catalog ≡ Ok catalog
  pub planned : IsPlanned catalog input.query (Ok plan)
  pub tables : tables_of catalog input.files input.cut plan ≡ Ok (rows, dims)
  pub vectors : is_vector_length input.vector_len ≡ true

-- why the tables or the vectors are refused
abbrev pub IsTablesRefused : Catalog → Files → Cut → Plan → ℕ → WholeFault → Type 0
IsTablesRefused catalog files cut plan vector_len fault.Memory = ⊤
IsTablesRefused catalog files cut plan vector_len (fault.MissingCsv table) = tables_of catalog files cut plan ≡ Err (fault.MissingCsv table)
IsTablesRefused catalog files cut plan vector_len (fault.Load e) = tables_of catalog files cut plan ≡ Err (fault.Load e)
IsTablesRefused catalog files cut plan vector_len fault.VectorLength = (tables : List Row × List (List Row)) × (tables_of catalog files cut plan ≡ Ok tables) × (is_vector_length vector_len ≡ false)
IsTablesRefused catalog files cut plan vector_len _ = ⊥

-- why a query over declared tables doesn't get to run: it has no plan, or else its tables or the vectors are refused
abbrev pub IsPrepareRefused : Catalog → Files → List ℕ → Cut → ℕ → WholeFault → Type 0
IsPrepareRefused catalog files query cut vector_len e =
    IsPlanRefused catalog query e
    ⊎ ((plan : Plan) × IsPlanned catalog query (Ok plan) × IsTablesRefused catalog files cut plan vector_len e)

-- why the catalogue's bytes declare no tables
abbrev pub IsUndeclared : List ℕ → WholeFault → Type 0
IsUndeclared bytes fault.Memory = ⊤
IsUndeclared bytes (fault.Catalog e) = catalog_of bytes ≡ Err e
IsUndeclared bytes _ = ⊥

-- a refusal at the end: out of memory, or the writer failed
abbrev pub IsEndRefusal : WholeFault → Type 0
IsEndRefusal fault.Memory = ⊤
IsEndRefusal fault.Writer = ⊤
IsEndRefusal _ = ⊥

-- it comes when all is well
abbrev pub IsRefusedAtEnd : Input → WholeFault → Type 0
IsRefusedAtEnd input e = IsEndRefusal e × ((plan : Plan) × (rows : List Row) × (dims : List (List Row)) × RunsOver input plan rows dims)

-- where each refusal stands in the input: the catalogue, then what keeps the query from running, and last the writer
abbrev pub IsRefused : Input → WholeFault → Type 0
IsRefused input e =
    IsUndeclared input.catalog e
    ⊎ (((catalog : Catalog) × (catalog_of input.catalog ≡ Ok catalog) × IsPrepareRefused catalog input.files input.query input.cut input.vector_len e)
    ⊎ IsRefusedAtEnd input e)

-- ---- steps

-- the rows of a dimension's CSV file
abbrev pub dimension_table : Dimension → List ℕ → Result (List Row) WholeFault
dimension_table d csv = table_from (dimension_of d (csv_records csv))

-- the rows of a join's dimension, where its file is looked for first
abbrev pub joined_from : Catalog → Files → Join → Result (List Row) WholeFault
joined_from catalog files j = and_then (csv_of files j.dim.name) (λ csv. joined_table catalog (j, csv))

-- a file of the rows that are meant
abbrev pub IsFileOf : Result (List Row) WholeFault → List ℕ → Type 0
IsFileOf meant bytes = (rows : List Row) × (meant ≡ Ok rows) × IsFileOfRows rows bytes

-- the fragments of the fact's rows, just as many as the cut has and each of its column's type, and a file of each join's dimension
pub record AreTablesLoaded (catalog : Catalog) (files : Files) (cut : Cut) (plan : Plan) (fragments : List (List ColumnSpec)) (dim_files : List (List ℕ)) : Type 0 where
  pub rows : List Row
  pub dims : List (List Row)
  pub tables : tables_of catalog files cut plan ≡ Ok (rows, dims)
  pub fragments_are : fragments ≡ fragments_of catalog.fact.columns cut rows
  pub whole : length rows ≡ sum cut
  pub typed : are_rows_of catalog.fact.columns rows ≡ true
  pub dims_are : AreFilesOfTables dims dim_files

-- how a query ended of which this report was printed; a conflict or a missing fragment is no end
abbrev pub ended_in : Report → Ended
ended_in report.Rows = ended.Rows
ended_in report.Fault = ended.Fault
ended_in (report.Conflict ks) = ended.Fault
ended_in (report.Missing ks) = ended.Fault

-- the coordinator of load 0 has taken just every fragment's own answer
pub record HoldsOwnAnswers (plan : Plan) (rows : List Row) (dims : List (List Row)) (cut : Cut) (gather : GatherSpec) : Type 0 where
  pub job : gather.job ≡ record { load = 0; plan = plan; cut = cut }
  pub cells : gather.cells ≡ joined cut (own_answers plan dims cut rows (range_with_len 0 (length cut)))

-- the answer over a fact's rows and those of its dimensions
pub record IsAnsweredOver (plan : Plan) (rows : List Row) (dims : List (List Row)) (cut : Cut) (before after : Option (List ℕ)) (end : Ended) (gather : GatherSpec) : Type 0 where
  pub printed : Appends before after (output_text plan (meaning plan dims (numbered rows)))
  pub ends : end ≡ ended_as (meaning plan dims (numbered rows))
  pub state : HoldsOwnAnswers plan rows dims cut gather

-- what has been printed is what the query means over the tables; it says whether that is rows or a fault; and the state is that
-- of just every fragment's own answer
pub record IsAnswered (input : Input) (before after : Option (List ℕ)) (end : Ended) (gather : GatherSpec) : Type 0 where
  pub plan : Plan
  pub rows : List Row
  pub dims : List (List Row)
  pub over : RunsOver input plan rows dims
  pub printed : Appends before after (output_text plan (meaning plan dims (numbered rows)))
  pub ends : end ≡ ended_as (meaning plan dims (numbered rows))
  pub state : HoldsOwnAnswers plan rows dims input.cut gather
