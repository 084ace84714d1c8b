-- Columns of loaded tables are such as files are written of.
use Rattle.std.proofs.Common.{◌≡◌, ◌≤◌, ◌<◌, ℕ, ◌+◌, Bool, true, false, List, [], ◌∷◌, length, map, take, Ok, Err, refl, sym, subst, arith}
use Rattle.std.specs.Prelude.{Result, Option, Some, nat_lt, nat_le, if◌then◌else◌}
use Rattle.std.specs.List.{enumerate_from}
use Rattle.std.proofs.lemmas.Bool.{ltb-false, leb-false}
use Rattle.std.proofs.lemmas.List.{length-map}
use Rattle.meaning.specs.Limits.{max_rows}
use Rattle.meaning.specs.declared.catalog.Column.{Column}
use Rattle.meaning.specs.declared.catalog.Dimension.{Dimension}
use Rattle.meaning.specs.declared.table.TableFault.{TableFault}
use Rattle.meaning.specs.declared.table.TableFault.TheVariants as fault
use Rattle.meaning.specs.Order.{Row}
use Rattle.meaning.specs.Records.{Record, dimension_of, file_order, is_header, judged_record, unless_few, row_of, unless_repeated}
use Rattle.meaning.specs.Results.{and_then}
use Rattle.columns.specs.Column.{ColumnSpec}
use Rattle.columns.specs.Rows.{columns_of, column_of}
use Rattle.loader.specs.Source.{csv_records}
use Rattle.loader.proofs.RowRuns.{ok_parts, all_from}
use Rattle.fragment_file.specs.Writing.{AreColumns}
use Rattle.folders.proofs.Each.{each_so}
use Rattle.folders.specs.Folder.{Holds}
use Rattle.folders.specs.Each.{AreEach}
use Rattle.loads.specs.Loading.{AreDimensionColumns, IsDimensionLoaded, rows_in}

-- what goes on ended well only if what came before did
well_before : {X Y E : Type 0} (r : Result X E) (next : X → Result Y E) (y : Y) → and_then r next ≡ Ok y → (x : X) × (r ≡ Ok x) × (next x ≡ Ok y)
well_before (Err e) next y well = cc well
well_before (Ok x) next y well = (x, refl, well)

ok_same : {X : Type 0} (x y : X) (r : Result X TableFault) → r ≡ Ok x → r ≡ Ok y → x ≡ y
ok_same x y r one other = cc

-- ---- columns

columns_from : (rows : List Row) (i : ℕ) (declared : List Column) → AreColumns declared (length rows) (map (column_of rows) (enumerate_from i declared))
columns_from rows i [] = tt
columns_from rows i (c ∷ declared) = (record { col_type = refl; nullable = refl; rows = length-map rows _ }, columns_from rows (i + 1) declared)

own_rows : (declared : List Column) (rows : ℕ) (columns : List ColumnSpec) → AreColumns declared rows columns → AreColumns declared (rows_in columns) columns
own_rows [] rows [] all = tt
own_rows [] rows (s ∷ columns) all = absurd all
own_rows (c ∷ declared) rows [] all = absurd all
own_rows (c ∷ declared) rows (s ∷ columns) all = subst (λ n. AreColumns (c ∷ declared) n (s ∷ columns)) (sym all.0.rows) all

few_rows : (declared : List Column) (rows most : ℕ) (columns : List ColumnSpec) → AreColumns declared rows columns → rows ≤ most → rows_in columns ≤ most
few_rows declared rows most [] all few = omega arith
few_rows [] rows most (s ∷ columns) all few = absurd all
few_rows (c ∷ declared) rows most (s ∷ columns) all few = omega (arith, all.0.rows)

-- ---- how many rows there are

few_tested : (b : Bool) (fewest : ℕ) (rows all : List Row) → nat_lt (length rows) fewest ≡ b → (if b then Err fault.TooFewRows else Ok rows) ≡ Ok all → (rows ≡ all) × (fewest ≤ length rows)
few_tested true fewest rows all test well = cc well
few_tested false fewest rows all test well = (ok_same rows all (Ok rows) refl well, ltb-false (length rows) fewest test)

-- rows that aren't too few are all that there are
not_few : (fewest : ℕ) (rows all : List Row) → unless_few fewest rows ≡ Ok all → (rows ≡ all) × (fewest ≤ length rows)
not_few fewest rows all well = few_tested (nat_lt (length rows) fewest) fewest rows all refl well

under_header : (b : Bool) (r : Result (List Row) TableFault) (fewest : ℕ) (rows : List Row) → (if b then and_then r (unless_few fewest) else Err fault.Header) ≡ Ok rows
    → and_then r (unless_few fewest) ≡ Ok rows
under_header true r fewest rows well = well
under_header false r fewest rows well = cc well

limit_tested : (b : Bool) (most i : ℕ) (r : Result Row TableFault) (row : Row) → nat_le most i ≡ b → (if b then Err fault.TooManyRows else r) ≡ Ok row → i < most
limit_tested true most i r row test well = cc well
limit_tested false most i r row test well = leb-false most i test

module _ (columns : List Column) (key : Option ℕ) (most : ℕ) (order : List ℕ) (whole : List Record) where
  abbrev judge : ℕ × Record → Result Row TableFault
  judge = judged_record columns key most order whole

  abbrev behind_limit : ℕ → Record → Result Row TableFault
  behind_limit i fields = and_then (row_of columns order i fields) (unless_repeated key i (map (λ e. row_of columns order e.0 e.1) (enumerate_from 0 (take i whole))))

  within_limit : (i : ℕ) (records : List Record) (rows : List Row) → i ≤ most → all_from judge i records ≡ Ok rows → i + length rows ≤ most
  within_limit i [] rows le well = subst (λ (l : List Row). i + length l ≤ most) (ok_same [] rows (Ok []) refl well) (omega arith)
  within_limit i (fields ∷ records) rows le well =
      let (row, others, here, there, all) = ok_parts (judge (i, fields)) (all_from judge (i + 1) records) rows well in
      let below = limit_tested (nat_le most i) most i (behind_limit i fields) row refl here in
      let rest = within_limit (i + 1) records others (omega arith) there in
      subst (λ (l : List Row). i + length l ≤ most) (sym all) (omega (arith, rest))

dimension_rows : (d : Dimension) (records : List Record) (rows : List Row) → dimension_of d records ≡ Ok rows → length rows ≤ max_rows
dimension_rows d [] rows well = cc well
dimension_rows d (header ∷ others) rows well =
    let order = file_order d.table.columns header in
    let judged = all_from (judged_record d.table.columns (Some d.key) max_rows order others) 0 others in
    let (all, made, kept) = well_before judged (unless_few 0) rows (under_header (is_header d.table.columns header) judged 0 rows well) in
    let few = not_few 0 all rows kept in
    let most = within_limit d.table.columns (Some d.key) max_rows order others 0 others all (omega arith) made in
    subst (λ (l : List Row). length l ≤ max_rows) few.0 (omega (arith, most))

-- ---- loaded tables

dimension_fits : (d : Dimension) (all : List Row) (columns : List ColumnSpec) → length all ≤ max_rows → columns_of d.table.columns all ≡ columns → AreDimensionColumns d columns
dimension_fits d all columns few same =
    let are = subst (AreColumns d.table.columns (length all)) same (columns_from all 0 d.table.columns) in
    (own_rows d.table.columns (length all) columns are, few_rows d.table.columns (length all) max_rows columns are few)

loaded_fits : (holds : Holds) (folder : List ℕ) (d : Dimension) (columns : List ColumnSpec) → IsDimensionLoaded holds folder d columns → AreDimensionColumns d columns
loaded_fits holds folder d columns is =
    let records = csv_records is.bytes in
    let (all, made, well) = well_before (dimension_of d records) (λ all. Ok (columns_of d.table.columns all)) columns is.loaded in
    dimension_fits d all columns (dimension_rows d records all made) (ok_same (columns_of d.table.columns all) columns (Ok (columns_of d.table.columns all)) refl well)

-- loaded dimensions are within their limit
pub dimensions_fit : (holds : Holds) (folder : List ℕ) (ds : List Dimension) (dims : List (List ColumnSpec)) → AreEach (IsDimensionLoaded holds folder) ds dims → AreEach AreDimensionColumns ds dims
dimensions_fit holds folder ds dims all = each_so (IsDimensionLoaded holds folder) AreDimensionColumns (loaded_fits holds folder) ds dims all
