-- From the header and the rows behind it to a dimension.
use Rattle.std.proofs.Common.{◌≡◌, ◌<◌, ℕ, suc, Bool, true, false, cond, List, [], ◌∷◌, length, map, get_or, Ok, Err, Option, Some, None, refl, sym, subst, ap, ◌∙◌, arith}
use Rattle.std.specs.Prelude.{All, Result, find, if◌then◌else◌}
use Rattle.std.specs.List.{enumerate_from}
use Rattle.std.proofs.lemmas.Bool.{le-ltb}
use Rattle.meaning.specs.Limits.{max_rows}
use Rattle.meaning.specs.declared.catalog.Dimension.{Dimension}
use Rattle.meaning.specs.declared.catalog.Column.{Column}
use Rattle.meaning.specs.Catalog.{HasKey}
use Rattle.meaning.specs.declared.table.TableFault.{TableFault}
use Rattle.meaning.specs.declared.table.TableFault.TheVariants as fault
use Rattle.meaning.specs.Order.{Row}
use Rattle.meaning.specs.Records.{Record, is_header, file_order, judged_record, unless_few}
use Rattle.meaning.specs.Results.{all_ok, and_then}
use Rattle.columns.specs.Column.{ColumnSpec}
use Rattle.loader.specs.declared.fault.LoadFault.{LoadFault}
use Rattle.loader.specs.declared.fault.LoadFault.TheVariants.{Memory, Table, Device}
use Rattle.columns.specs.Rows.{columns_of}
use Rattle.loader.specs.Columns.{dimension_columns}
use Rattle.meaning.specs.Wanting.{ReportsIfMemory}
use Rattle.loader.specs.Fault.{fault_returned}
use Rattle.loader.specs.Steps.{order_of, keyed_rows, TakesTable}
use Rattle.loader.proofs.FactSteps.{ordered}

abbrev in_columns : List Column → Result (List Row) TableFault → Result (List ColumnSpec) TableFault
in_columns declared rows = and_then rows (λ zs. Ok (columns_of declared zs))

-- no table has too few rows where none are asked for
never_few : (rows : Result (List Row) TableFault) → and_then rows (unless_few 0) ≡ rows
never_few (Err f) = refl
never_few (Ok zs) = rw (le-ltb (length zs) 0 (omega arith)) refl

by_header : (declared : List Column) (key : ℕ) (header : Record) (others : List Record) (order : List ℕ) (b : Bool) → ordered b (file_order declared header) ≡ Ok order
    → in_columns declared (if b then and_then (all_ok (map (judged_record declared (Some key) max_rows (file_order declared header) others) (enumerate_from 0 others))) (unless_few 0) else Err fault.Header)
    ≡ in_columns declared (keyed_rows declared order key max_rows others)
by_header declared key header others order true e =
    let same : file_order declared header ≡ order = cc e in
    ap (in_columns declared) (never_few (keyed_rows declared (file_order declared header) key max_rows others)) ∙ ap (λ (o : List ℕ). in_columns declared (keyed_rows declared o key max_rows others)) same
by_header declared key header others order false e = cc e

-- the table of a file whose header was read
pub opened_dimension : (d : Dimension) (declared : List Column) (records : List Record) (header : Record) (others : List Record) (order : List ℕ) → declared ≡ d.table.columns → records ≡ header ∷ others
    → order_of declared header ≡ Ok order → dimension_columns d records ≡ in_columns declared (keyed_rows declared order d.key max_rows others)
opened_dimension d declared records header others order same all ordered_so =
    ap (dimension_columns d) all ∙ by_header d.table.columns d.key header others order (is_header d.table.columns header) (rw same at ordered_so)
    ∙ ap (λ (c : List Column). in_columns c (keyed_rows c order d.key max_rows others)) (sym same)

pub table_loaded : (declared : List Column) (rows : Result (List Row) TableFault) (result : Result (List ColumnSpec) LoadFault) → TakesTable declared rows result → ReportsIfMemory fault_returned (λ (columns : List ColumnSpec). columns) result (in_columns declared rows)
table_loaded declared rows (Ok columns) (zs, e, same) = rw (e, same) refl
table_loaded declared rows (Err (Table f)) e = ap (in_columns declared) e
table_loaded declared rows (Err Memory) e = tt
table_loaded declared rows (Err Device) e = tt

in_front : (x : Dimension) (ds : List Dimension) (d : Dimension) (b : Bool) (later : Option Dimension) → (later ≡ Some d → (i : ℕ) × (i < length ds) × (get_or ds i d ≡ d))
    → cond b (Some x) later ≡ Some d → (i : ℕ) × (i < suc (length ds)) × (get_or (x ∷ ds) i d ≡ d)
in_front x ds d true later found e = let same : x ≡ d = cc e in (0, omega arith, same)
in_front x ds d false later found e = let (i, lt, here) = found e in (suc i, omega (arith, lt), here)

-- what was found is somewhere
found_at : (p : Dimension → Bool) (ds : List Dimension) (d : Dimension) → find p ds ≡ Some d → (i : ℕ) × (i < length ds) × (get_or ds i d ≡ d)
found_at p [] d e = cc e
found_at p (x ∷ ds) d e = in_front x ds d (p x) (find p ds) (found_at p ds d) e

pub key_within : (p : Dimension → Bool) (ds : List Dimension) (d : Dimension) → find p ds ≡ Some d → All HasKey ds → d.key < length d.table.columns
key_within p ds d e keys =
    let (i, lt, here) = found_at p ds d e in
    let has = keys i d lt in
    subst (λ (x : Dimension). x.key < length x.table.columns) here has.within

pub one_found : (o : Option Dimension) (a b : Dimension) → Some a ≡ o → o ≡ Some b → a ≡ b
one_found None a b e f = cc e
one_found (Some x) a b e f = cc (e, f)
