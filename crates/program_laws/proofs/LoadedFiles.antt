-- The files that a load left, where the folder returns them, are those of the tables.
use Rattle.std.specs.Prelude.{◌≡◌, ℕ, zero, suc, ◌+◌, ◌<◌, ◌≤◌, List, [], ◌∷◌, ◌++◌, length, map, get_or, zip, Option, Some, Ok, All, Contains}
use Rattle.std.specs.List.{enumerate_from}
use Rattle.std.proofs.Common.{refl, sym, ap, subst, ◌∙◌, arith}
use Rattle.std.proofs.lemmas.List.{length-map}
use Rattle.std.proofs.lemmas.List.Elements.{All-contains}
use Rattle.meaning.specs.Catalog.{IsWellFormedTable}
use Rattle.meaning.specs.Cut.{Cut}
use Rattle.meaning.specs.Limits.{max_rows}
use Rattle.meaning.specs.Order.{Row, column}
use Rattle.meaning.specs.Records.{dimension_of}
use Rattle.meaning.specs.Results.{and_then}
use Rattle.meaning.specs.declared.catalog.Column.{Column}
use Rattle.meaning.specs.declared.catalog.Dimension.{Dimension}
use Rattle.meaning.specs.declared.catalog.Table.{Table}
use Rattle.meaning.specs.declared.table.TableFault.{TableFault}
use Rattle.meaning_laws.proofs.LoadedTables.{rows_typed}
use Rattle.columns.specs.Column.{ColumnSpec}
use Rattle.columns.specs.Rows.{columns_of}
use Rattle.loader.specs.Columns.{dimension_columns}
use Rattle.loader.specs.Source.{csv_records}
use Rattle.fragment_file.specs.Fragment.{Stands}
use Rattle.job_files.proofs.RowFiles.{file_of_columns}
use Rattle.folders.specs.Each.{AreEach}
use Rattle.folders.specs.Folder.{Change, Holds, csv_path, dimension_path, fragment_path}
use Rattle.jobs.specs.Working.{HoldsRows}
use Rattle.loads.specs.Loading.{IsDimensionFile, IsDimensionLoaded, IsFragmentFile, StandsForFragment, header_of, rows_in}
use Rattle.program_laws.specs.Program.{Returns}
use Rattle.program_laws.proofs.OneJob.{read_known}

-- the bytes of a change lie under its path
pub lies : (holds : Holds) (changes : List Change) (path bytes : List ℕ) → Returns holds changes → Contains changes (path, Some bytes) → holds path ≡ Some bytes
lies holds changes path bytes returned has = All-contains (λ (change : Change). holds change.0 ≡ change.1) changes (path, Some bytes) returned has

-- ---- a fragment

-- the file of the fragment with this number was written of its columns
pub record HasFile (folder : List ℕ) (load : ℕ) (table : Table) (cut : Cut) (k i : ℕ) (fragments : List (List ColumnSpec)) (changes : List Change) : Type 0 where
  pub columns : List ColumnSpec
  pub columns_are : columns ≡ get_or fragments i columns
  pub bytes : List ℕ
  pub written : Contains changes (fragment_path folder table.name k, Some bytes)
  pub stands : StandsForFragment load table cut (k, columns) bytes

behind : (folder : List ℕ) (load : ℕ) (table : Table) (cut : Cut) (k i : ℕ) (f : List ColumnSpec) (fragments : List (List ColumnSpec)) (change : Change) (changes : List Change)
    → HasFile folder load table cut k i fragments changes → HasFile folder load table cut k (suc i) (f ∷ fragments) (change ∷ changes)
behind folder load table cut k i f fragments change changes has = record {
  columns = has.columns;
  columns_are = has.columns_are;
  bytes = has.bytes;
  written = (suc has.written.0, omega (arith, has.written.1), has.written.2);
  stands = has.stands;
}

fragment_from : (folder : List ℕ) (load : ℕ) (table : Table) (cut : Cut) (n i : ℕ) (fragments : List (List ColumnSpec)) (changes : List Change) → AreEach (IsFragmentFile folder load table cut) (enumerate_from n fragments) changes
    → i < length fragments → HasFile folder load table cut (n + i) i fragments changes
fragment_from folder load table cut n i [] changes are below = absurd (omega arith)
fragment_from folder load table cut n i (f ∷ fragments) [] are below = absurd are
fragment_from folder load table cut n zero (f ∷ fragments) (change ∷ changes) are below =
    let (bytes, is, stands) = are.0 in
    let here : n ≡ n + 0 = omega arith in
    subst (λ k. HasFile folder load table cut k 0 (f ∷ fragments) (change ∷ changes)) here
    (record { columns = f; columns_are = refl; bytes = bytes; written = (0, omega arith, is); stands = stands })
fragment_from folder load table cut n (suc i) (f ∷ fragments) (change ∷ changes) are below =
    let next : (n + 1) + i ≡ n + suc i = omega arith in
    subst (λ k. HasFile folder load table cut k (suc i) (f ∷ fragments) (change ∷ changes)) next
    (behind folder load table cut ((n + 1) + i) i f fragments change changes (fragment_from folder load table cut (n + 1) i fragments changes are.1 (omega (arith, below))))

pub fragment_file : (folder : List ℕ) (load : ℕ) (table : Table) (cut : Cut) (k : ℕ) (fragments : List (List ColumnSpec)) (changes : List Change) → AreEach (IsFragmentFile folder load table cut) (enumerate_from 0 fragments) changes
    → k < length fragments → HasFile folder load table cut k k fragments changes
fragment_file folder load table cut k fragments changes are below =
    let same : 0 + k ≡ k = omega arith in
    subst (λ n. HasFile folder load table cut n k fragments changes) same (fragment_from folder load table cut 0 k fragments changes are below)

-- ---- a dimension

-- the file of the dimension was written of the columns of its CSV file
pub record HasDimensionFile (holds : Holds) (folder : List ℕ) (load : ℕ) (d : Dimension) (changes : List Change) : Type 0 where
  pub columns : List ColumnSpec
  pub loaded : IsDimensionLoaded holds folder d columns
  pub bytes : List ℕ
  pub written : Contains changes (dimension_path folder d.table.name, Some bytes)
  pub stands : Stands bytes (header_of load d.table 0 0 (rows_in columns)) columns

dimension_at : (holds : Holds) (folder : List ℕ) (load : ℕ) (ds : List Dimension) (dims : List (List ColumnSpec)) (changes : List Change) (d : Dimension) (i : ℕ) → AreEach (IsDimensionFile folder load) (zip ds dims) changes
    → AreEach (IsDimensionLoaded holds folder) ds dims → i < length ds → get_or ds i d ≡ d → HasDimensionFile holds folder load d changes
dimension_at holds folder load [] dims changes d i files loaded below is = absurd (omega arith)
dimension_at holds folder load (e ∷ ds) [] changes d i files loaded below is = absurd loaded
dimension_at holds folder load (e ∷ ds) (c ∷ dims) [] d i files loaded below is = absurd files
dimension_at holds folder load (e ∷ ds) (c ∷ dims) (change ∷ changes) d zero files loaded below is =
    let (bytes, here, stands) = files.0 in
    subst (λ (x : Dimension). HasDimensionFile holds folder load x (change ∷ changes)) is
    (record { columns = c; loaded = loaded.0; bytes = bytes; written = (0, omega arith, here); stands = stands })
dimension_at holds folder load (e ∷ ds) (c ∷ dims) (change ∷ changes) d (suc i) files loaded below is =
    let has = dimension_at holds folder load ds dims changes d i files.1 loaded.1 (omega (arith, below)) is in
    record { columns = has.columns; loaded = has.loaded; bytes = has.bytes; written = (suc has.written.0, omega (arith, has.written.1), has.written.2); stands = has.stands }

pub dimension_file : (holds : Holds) (folder : List ℕ) (load : ℕ) (ds : List Dimension) (dims : List (List ColumnSpec)) (changes : List Change) (d : Dimension) → AreEach (IsDimensionFile folder load) (zip ds dims) changes
    → AreEach (IsDimensionLoaded holds folder) ds dims → Contains ds d → HasDimensionFile holds folder load d changes
dimension_file holds folder load ds dims changes d files loaded (i, below, is) = dimension_at holds folder load ds dims changes d i files loaded below is

as_many : (declared : List Column) (rows : List Row) (columns : List ColumnSpec) → 1 ≤ length declared → columns ≡ columns_of declared rows → length rows ≡ rows_in columns
as_many [] rows columns some is = absurd (omega (arith, some))
as_many (c ∷ declared) rows columns some is = sym (length-map rows (λ row. column row 0)) ∙ ap rows_in (sym is)

columns_from : (d : Dimension) (csv : List ℕ) (columns : List ColumnSpec) (rows : List Row) → dimension_columns d (csv_records csv) ≡ Ok columns → dimension_of d (csv_records csv) ≡ Ok rows → columns ≡ columns_of d.table.columns rows
columns_from d csv columns rows made loaded =
    let step : dimension_columns d (csv_records csv) ≡ Ok (columns_of d.table.columns rows) = ap (λ r. and_then {E = TableFault} r (λ rs. Ok (columns_of d.table.columns rs))) loaded in
    let same : Ok columns ≡ Ok (columns_of d.table.columns rows) = sym made ∙ step in
    cc same

-- the folder holds the dimension's rows
pub dimension_held : (holds : Holds) (folder : List ℕ) (load : ℕ) (d : Dimension) (changes : List Change) (csv : List ℕ) (rows : List Row) → IsWellFormedTable d.table → Returns holds changes → HasDimensionFile holds folder load d changes
    → holds (csv_path folder d.table.name) ≡ Some csv → dimension_of d (csv_records csv) ≡ Ok rows → HoldsRows (holds (dimension_path folder d.table.name)) rows
dimension_held holds folder load d changes csv rows well returned has held loaded =
    let read = read_known (holds (csv_path folder d.table.name)) csv has.loaded.bytes held has.loaded.held in
    let made : dimension_columns d (csv_records csv) ≡ Ok has.columns = ap (λ bs. dimension_columns d (csv_records bs)) (sym read) ∙ has.loaded.loaded in
    let columns = columns_from d csv has.columns rows made loaded in
    let typed = rows_typed d.table (Some d.key) 0 max_rows (csv_records csv) rows well loaded in
    record {
      bytes = has.bytes;
      known = lies holds changes (dimension_path folder d.table.name) has.bytes returned has.written;
      is_file = file_of_columns has.bytes (header_of load d.table 0 0 (rows_in has.columns)) has.columns rows has.stands columns (as_many d.table.columns rows has.columns well.some columns) typed;
    }
