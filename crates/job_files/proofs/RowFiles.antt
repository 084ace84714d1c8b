-- What is read of files of rows.
use Rattle.std.specs.Prelude.{◌≡◌, ℕ, true, List, [], ◌∷◌, length, map, Ok}
use Rattle.std.specs.List.{AllZip}
use Rattle.std.proofs.Common.{refl, sym, ap, subst, ◌∙◌}
use Rattle.meaning.specs.declared.catalog.Column.{Column}
use Rattle.meaning.specs.Order.{Row}
use Rattle.meaning.specs.TableLaws.{are_rows_of}
use Rattle.columns.specs.Column.{ColumnSpec}
use Rattle.columns.specs.Rows.{columns_of}
use Rattle.fragment_file.specs.Fragment.{FragmentSpec, Stands, columns_in}
use Rattle.fragment_file.specs.FragmentReading.{read_fragment}
use Rattle.fragment_file.specs.declared.header.Header.{Header}
use Rattle.fragment_file.proofs.FileLaws.{file_again}
use Rattle.fragment_file.proofs.FileRows.{file_rows}
use Rattle.job_files.specs.Files.{rows_of_file}
use Rattle.job_files.specs.RowFiles.{AreFilesOfTables, IsFileOfRows}
use Rattle.job_files.proofs.GivenInput.{ok_is}

-- bytes that encode the columns of rows are a file of the rows
pub file_of_columns : (bytes : List ℕ) (header : Header) (columns : List ColumnSpec) (rows : List Row) → Stands bytes header columns → columns ≡ columns_of header.columns rows → length rows ≡ header.rows
    → are_rows_of header.columns rows ≡ true → IsFileOfRows rows bytes
file_of_columns bytes header columns rows stands are counted typed =
    let f = stands.file in
    let declared : f.header.columns ≡ header.columns = ap (λ (h : Header). h.columns) stands.header_is in
    let held : columns_in f ≡ columns_of f.header.columns rows = stands.columns_are ∙ are ∙ ap (λ (cs : List Column). columns_of cs rows) (sym declared) in
    let count : length rows ≡ f.header.rows = counted ∙ sym (ap (λ (h : Header). h.rows) stands.header_is) in
    let fitting = subst (λ (cs : List Column). are_rows_of cs rows ≡ true) (sym declared) typed in
    record { file = f; spelled = stands.spelled; rows_are = file_rows f rows stands.spelled.sound held count fitting }

-- what is read of a file of rows has just these
pub read_rows : (rows : List Row) (bytes : List ℕ) (f : FragmentSpec) → IsFileOfRows rows bytes → read_fragment bytes ≡ Ok f → rows_of_file f ≡ rows
read_rows rows bytes f is read =
    let same : is.file ≡ f = ok_is is.file f (sym (file_again bytes is.file is.spelled) ∙ read) in
    ap rows_of_file (sym same) ∙ is.rows_are

-- the same of the files of tables
pub read_tables : (tables : List (List Row)) (files : List (List ℕ)) (found : List FragmentSpec) → AreFilesOfTables tables files → AllZip (λ bytes f. read_fragment bytes ≡ Ok f) files found
    → map rows_of_file found ≡ tables
read_tables [] [] [] are read = refl
read_tables [] [] (f ∷ found) are read = absurd read
read_tables [] (bytes ∷ files) found are read = absurd are
read_tables (rows ∷ tables) [] found are read = absurd are
read_tables (rows ∷ tables) (bytes ∷ files) [] are read = absurd read
read_tables (rows ∷ tables) (bytes ∷ files) (f ∷ found) are read =
    let here = read_rows rows bytes f are.0 read.0 in
    let behind = read_tables tables files found are.1 read.1 in
    λ i. here i ∷ behind i
