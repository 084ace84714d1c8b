-- Files of tables, one after the other.
use Rattle.std.specs.Prelude.{◌≡◌, ◌≤◌, ℕ, List, [], ◌∷◌, ◌++◌, length, find, cond, Bool, true, false, slice_get, Some, Result, Ok, Err}
use Rattle.std.specs.List.{AllByRecursion}
use Rattle.std.proofs.Common.{sym, ap, subst, ◌∙◌, arith}
use Rattle.std.proofs.lemmas.List.{length-map}
use Rattle.meaning.specs.declared.catalog.Column.{Column}
use Rattle.meaning.specs.declared.catalog.Dimension.{Dimension}
use Rattle.meaning.specs.declared.catalog.Table.{Table}
use Rattle.meaning.specs.declared.table.TableFault.{TableFault}
use Rattle.meaning.specs.Catalog.{IsWellFormedTable}
use Rattle.meaning.specs.Dimensions.{IsUniqueIn}
use Rattle.meaning.specs.Limits.{max_rows}
use Rattle.meaning.specs.Order.{Row, column}
use Rattle.meaning.specs.Records.{dimension_of}
use Rattle.meaning.specs.Results.{and_then}
use Rattle.meaning_laws.proofs.LoadedTables.{keys_unique, rows_typed}
use Rattle.columns.specs.Column.{ColumnSpec}
use Rattle.fragment_file.specs.Fragment.{Stands, table_header}
use Rattle.fragment_file.specs.Writing.{AreColumns}
use Rattle.fragment_file.proofs.FileLaws.{file_again}
use Rattle.columns.specs.Rows.{column_of, columns_of}
use Rattle.loader.specs.Columns.{dimension_columns}
use Rattle.loader.specs.Source.{csv_records}
use Rattle.coordinator.specs.declared.table_files.Rows.{Rows}
use Rattle.coordinator.specs.declared.fault.WholeFault.TheVariants as fault
use Rattle.job_files.specs.RowFiles.{AreFilesOfTables, IsFileOfRows}
use Rattle.job_files.proofs.RowFiles.{file_of_columns, read_rows}
use Rattle.coordinator.specs.Fragment.{AreAllRows, IsFileable, IsTableFile}
use Rattle.coordinator.specs.Whole.{dimension_table, table_from}
use Rattle.coordinator.proofs.CountedRows.{counted_dimension, went_on}
use Rattle.coordinator.proofs.FragmentColumns.{columns_from}

-- one file more
pub one_more : (tables : List (List Row)) (files : List (List ℕ)) (rows : List Row) (bytes : List ℕ) → AreFilesOfTables tables files → IsFileOfRows rows bytes → AreFilesOfTables (tables ++ rows ∷ []) (files ++ bytes ∷ [])
one_more [] [] rows bytes are is = (is, tt)
one_more [] (b ∷ files) rows bytes are is = absurd are
one_more (r ∷ tables) [] rows bytes are is = absurd are
one_more (r ∷ tables) (b ∷ files) rows bytes are is = (are.0, one_more tables files rows bytes are.1 is)

-- what holds of all elements holds of the one that is found
pub found_holds : {A : Type 0} (P : A → Type 0) (test : A → Bool) (xs : List A) (x : A) → AllByRecursion P xs → find test xs ≡ Some x → P x
found_holds P test [] x all found = absurd cc
found_holds {A = A} P test (y ∷ ys) x all found = elim (test y) as (λ b. cond b (Some y) (find test ys) ≡ Some x → P x) [
  | true ↦ λ e. let same : y ≡ x = cc e in subst P same all.0
  | false ↦ λ e. found_holds P test ys x all.1 e
] found

-- the first column has as many values as there are rows
pub counted_first : (table : Table) (rows : List Row) (columns : List ColumnSpec) (n : ℕ) → AreAllRows table rows columns → ((c : ColumnSpec) → slice_get columns 0 ≡ Some c → n ≡ length c.values) → n ≡ length rows
counted_first table rows columns n are counted = from_first table.columns are.table_is.some are.columns_are
  where
    from_first : (declared : List Column) → 1 ≤ length declared → columns ≡ columns_of declared rows → n ≡ length rows
    from_first [] some is = absurd (omega (arith, some))
    from_first (d ∷ declared) some is = counted (column_of rows (0, d)) (ap (λ cs. slice_get cs 0) is) ∙ length-map rows (λ row. column row 0)

-- a file can be written of all rows
pub all_fileable : (rows : Rows) (all : List Row) (n : ℕ) → AreAllRows rows.table.now all rows.columns.now → n ≡ length all → rows.slice.rows ≡ n → IsFileable rows
all_fileable rows all n are counted is = record {
  table = are.table_is;
  few = let few = are.few in omega (arith, few, counted, is);
  columns = subst (λ cs. AreColumns rows.table.now.columns rows.slice.rows cs) (sym are.columns_are)
      (subst (λ m. AreColumns rows.table.now.columns m (columns_of rows.table.now.columns all)) (sym (is ∙ counted)) (columns_from all 0 rows.table.now.columns));
}

-- what is written of all rows is the table's file
pub table_stands : (table : Table) (rows : List Row) (columns : List ColumnSpec) (n : ℕ) (bytes : List ℕ) → AreAllRows table rows columns → n ≡ length rows
    → Stands bytes (table_header 0 table (record { fragment = 0; first_row = 0; rows = n })) columns → IsTableFile table rows bytes
table_stands table rows columns n bytes are counted stands =
    let header = λ (m : ℕ). table_header 0 table (record { fragment = 0; first_row = 0; rows = m }) in
    let f = stands.file in
    let header_is = stands.header_is ∙ ap header counted in
    let held = file_of_columns bytes (header n) columns rows stands are.columns_are (sym counted) are.typed in
    record {
      file = f;
      spelled = stands.spelled;
      header_is = header_is;
      rows_are = read_rows rows bytes f held (file_again bytes f stands.spelled);
    }

-- what a table's file holds, loaded from a CSV file
pub all_rows_of_dimension : (d : Dimension) (csv : List ℕ) (columns : List ColumnSpec) → IsWellFormedTable d.table → dimension_columns d (csv_records csv) ≡ Ok columns
    → (rows : List Row) × (dimension_table d csv ≡ Ok rows) × AreAllRows d.table rows columns × IsUniqueIn d.key rows
all_rows_of_dimension d csv columns well made =
    let (rows, loaded, gives) = went_on (dimension_of d (csv_records csv)) (λ rows. Ok (columns_of d.table.columns rows)) columns made in
    let same : columns_of d.table.columns rows ≡ columns = cc gives in (
      rows,
      ap table_from loaded,
      record {
        table_is = well;
        columns_are = sym same;
        few = counted_dimension d (csv_records csv) rows loaded;
        typed = rows_typed d.table (Some d.key) 0 max_rows (csv_records csv) rows well loaded;
      },
      keys_unique d.table.columns d.key 0 max_rows (csv_records csv) rows loaded,
    )

-- why a dimension isn't loaded
pub dimension_refused : (d : Dimension) (csv : List ℕ) (e : TableFault) → dimension_columns d (csv_records csv) ≡ Err e → dimension_table d csv ≡ Err (fault.Load e)
dimension_refused d csv e refused = ap table_from (stops_there (dimension_of d (csv_records csv)) (columns_of d.table.columns) e refused)
  where
    stops_there : {X Y E : Type 0} (r : Result X E) (f : X → Y) (e : E) → and_then r (λ x. Ok (f x)) ≡ Err e → r ≡ Err e
    stops_there (Ok x) f e is = absurd cc
    stops_there (Err g) f e is = cc is
