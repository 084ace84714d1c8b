-- The columns of a table's fragments, those that a file can be written of, and the files of whole tables.
use Rattle.std.specs.Prelude.{◌≡◌, ◌≤◌, ℕ, true, List, length, sum, find, Some, Ok, All, bytes_eq}
use Rattle.meaning.specs.declared.catalog.Catalog.{Catalog}
use Rattle.meaning.specs.declared.catalog.Dimension.{Dimension}
use Rattle.meaning.specs.declared.plan.Join.{Join}
use Rattle.meaning.specs.declared.plan.Plan.{Plan}
use Rattle.meaning.specs.Dimensions.{IsUniqueIn}
use Rattle.meaning.specs.Catalog.{IsWellFormedTable}
use Rattle.meaning.specs.Cut.{Cut}
use Rattle.meaning.specs.Limits.{max_rows}
use Rattle.meaning.specs.Order.{Row}
use Rattle.meaning.specs.TableLaws.{are_rows_of}
use Rattle.meaning.specs.declared.catalog.Table.{Table}
use Rattle.columns.specs.Column.{ColumnSpec}
use Rattle.fragment_file.specs.Fragment.{FragmentSpec, IsFileOf, table_header}
use Rattle.fragment_file.specs.Writing.{AreColumns}
use Rattle.columns.specs.Rows.{columns_of}
use Rattle.loader.specs.Columns.{fragments_of}
use Rattle.partial_codec.specs.Job.{JobSpec}
use Rattle.job_files.specs.Files.{rows_of_file}
use Rattle.job_files.specs.Inputs.{dimension_files_of}
use Rattle.job_files.specs.RowFiles.{rows_of_fragment}
use Rattle.planner.specs.DeclaredPlans.{IsDeclaredColumn}
use Rattle.coordinator.specs.declared.table_files.Rows.{Rows}

-- the columns of each fragment of a table's rows
pub record AreFragments (table : Table) (rows : List Row) (cut : Cut) (fragments : List (List ColumnSpec)) : Type 0 where
  pub fragments_are : fragments ≡ fragments_of table.columns cut rows
  pub whole : length rows ≡ sum cut
  pub typed : are_rows_of table.columns rows ≡ true

-- a file can be written of the rows
pub record IsFileable (rows : Rows) : Type 0 where
  pub table : IsWellFormedTable rows.table.now
  pub few : rows.slice.rows ≤ max_rows
  pub columns : AreColumns rows.table.now.columns rows.slice.rows rows.columns.now

-- of all rows of a table they are those of the job's fragment
pub record AreRowsOfJob (job : JobSpec) (rows : Rows) (all : List Row) : Type 0 where
  pub columns : rows.columns.now ≡ columns_of rows.table.now.columns (rows_of_fragment job.cut rows.slice.fragment all)
  pub counted : length (rows_of_fragment job.cut rows.slice.fragment all) ≡ rows.slice.rows
  pub typed : are_rows_of rows.table.now.columns (rows_of_fragment job.cut rows.slice.fragment all) ≡ true

-- the columns of all rows of a table
pub record AreAllRows (table : Table) (rows : List Row) (columns : List ColumnSpec) : Type 0 where
  pub table_is : IsWellFormedTable table
  pub columns_are : columns ≡ columns_of table.columns rows
  pub few : length rows ≤ max_rows
  pub typed : are_rows_of table.columns rows ≡ true

-- the file of all rows of a table, under load 0
pub record IsTableFile (table : Table) (rows : List Row) (bytes : List ℕ) : Type 0 where
  pub file : FragmentSpec
  pub spelled : IsFileOf bytes file
  pub header_is : file.header ≡ table_header 0 table (record { fragment = 0; first_row = 0; rows = length rows })
  pub rows_are : rows_of_file file ≡ rows

-- the same of a dimension, in which no key stands twice
pub record IsDimensionFile (d : Dimension) (bytes : List ℕ) : Type 0 where
  pub rows : List Row
  pub unique : IsUniqueIn d.key rows
  pub file : IsTableFile d.table rows bytes

-- the file of the dimension that the join names
pub record IsJoinedFile (catalog : Catalog) (j : Join) (bytes : List ℕ) : Type 0 where
  pub dimension : Dimension
  pub named : find (λ d. bytes_eq d.table.name j.dim.name) catalog.dims ≡ Some dimension
  pub file : IsDimensionFile dimension bytes

-- the plan's fact, with the columns that the plan reads
pub record IsFactOf (plan : Plan) (table : Table) : Type 0 where
  pub name : table.name ≡ plan.fact.name
  pub columns : All (IsDeclaredColumn table.columns) plan.fact.columns

-- these files are those of the job's dimensions, and nothing is wrong with them
abbrev pub Opens : JobSpec → List (List ℕ) → Type 0
Opens job files = (read : List FragmentSpec) × (dimension_files_of job files ≡ Ok read)

-- the job of the load that is made here
abbrev pub job_of : Plan → Cut → JobSpec
job_of plan cut = record { load = 0; plan = plan; cut = cut }
