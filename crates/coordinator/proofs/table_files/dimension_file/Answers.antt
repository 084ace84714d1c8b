-- Proofs of the goals of `dimension_file` (`table_files`).
use Rattle.std.proofs.Common.{List, refl, sym, subst}
use Rattle.columns.specs.Column.{ColumnSpec}
use Rattle.job_files.specs.RowFiles.{IsFileOfRows}
use Rattle.coordinator.specs.Fragment.{AreAllRows, IsTableFile}
use Rattle.coordinator.proofs.TableFiles.{all_rows_of_dimension}
use Rattle.coordinator.proofs.table_files.dimension_file.Goals as goal

pub table_file-file-requires : goal.table_file-file-requires
table_file-file-requires c =
    let (rows, meant, are, unique) = all_rows_of_dimension c.args.dimension.now c.args.csv.now c.in_ok-columns.columns c.requires.table (c.in_ok-columns.ensures.loaded c.args.csv.now refl) in
    (rows, subst (λ (columns : List ColumnSpec). AreAllRows c.args.dimension.now.table rows columns) (sym c.as_slice.ensures) are)

pub returns-clause-file : goal.returns-clause-file
returns-clause-file c =
    let (rows, meant, are, unique) = all_rows_of_dimension c.args.dimension.now c.args.csv.now c.in_ok-columns.columns c.requires.table (c.in_ok-columns.ensures.loaded c.args.csv.now refl) in (
      rows,
      meant,
      subst (IsFileOfRows rows) (sym c.from_vec.ensures) (c.in_ok-file.ensures.rows rows (subst (λ (columns : List ColumnSpec). AreAllRows c.args.dimension.now.table rows columns) (sym c.as_slice.ensures) are)),
    )

pub returns-clause-of_dimension : goal.returns-clause-of_dimension
returns-clause-of_dimension c =
    let d = c.args.dimension.now in
    let (rows, meant, are, unique) = all_rows_of_dimension d c.args.csv.now c.in_ok-columns.columns c.requires.table (c.in_ok-columns.ensures.loaded c.args.csv.now refl) in
    record {
      rows = rows;
      unique = unique;
      file = subst (IsTableFile d.table rows) (sym c.from_vec.ensures) (c.in_ok-file.ensures.file rows (subst (λ (columns : List ColumnSpec). AreAllRows d.table rows columns) (sym c.as_slice.ensures) are));
    }
