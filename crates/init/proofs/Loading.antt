-- What loads that succeed say of the records.
use Rattle.std.proofs.Common.{◌≡◌, ℕ, ◌+◌, ◌<◌, List, [], ◌∷◌, ◌++◌, length, take, drop, get_or, All, Ok, Err, refl, sym, ap, subst, ◌∙◌}
use Rattle.std.proofs.lemmas.List.{take_more}
use Rattle.std.proofs.lemmas.List.Elements.{All-push}
use Rattle.std.specs.Prelude.{None, Result, sum}
use Rattle.meaning.specs.declared.catalog.Catalog.{Catalog}
use Rattle.meaning.specs.declared.table.TableFault.{TableFault}
use Rattle.meaning.specs.Cut.{Cut}
use Rattle.meaning.specs.Order.{Row}
use Rattle.meaning.specs.declared.catalog.Dimension.{Dimension}
use Rattle.meaning.specs.Records.{Record, dimension_of, fact_of, table_of}
use Rattle.meaning.specs.Results.{and_then}
use Rattle.columns.specs.Column.{ColumnSpec}
use Rattle.columns.specs.Rows.{columns_of}
use Rattle.loader.specs.Columns.{dimension_columns, fact_fragments, fragments_of}
use Rattle.init.specs.Making.{AreColumns, IsDimension, IsFact}

rows_behind : {A : Type 0} (f : List Row → A) (rows : Result (List Row) TableFault) (columns : A) → and_then rows (λ found. Ok (f found)) ≡ Ok columns → (found : List Row) × (rows ≡ Ok found)
rows_behind f (Ok found) columns is = (found, refl)
rows_behind f (Err fault) columns is = cc is

-- the fact's rows don't depend on how they are cut
pub is_fact : (catalog : Catalog) (cut : Cut) (records : List Record) → sum cut ≡ length (drop 1 records) → AreColumns (fact_fragments catalog cut records) → IsFact catalog records
is_fact catalog cut records all (columns, is) =
    let (rows, found) = rows_behind (fragments_of catalog.fact.columns cut) (fact_of catalog cut records) columns is in
    (rows, λ other whole. ap (λ n. table_of catalog.fact.columns None n n records) (whole ∙ sym all) ∙ found)

refused_behind : {A : Type 0} (f : List Row → A) (rows : Result (List Row) TableFault) (e : TableFault) → and_then rows (λ found. Ok (f found)) ≡ Err e → rows ≡ Err e
refused_behind f (Ok found) e is = absurd cc
refused_behind f (Err fault) e is = cc is

-- nor does their fault
pub is_no_fact : (catalog : Catalog) (cut : Cut) (records : List Record) (e : TableFault) → sum cut ≡ length (drop 1 records) → fact_fragments catalog cut records ≡ Err e
    → (other : Cut) → sum other ≡ length (drop 1 records) → fact_of catalog other records ≡ Err e
is_no_fact catalog cut records e all is other whole =
    ap (λ n. table_of catalog.fact.columns None n n records) (whole ∙ sym all) ∙ refused_behind (fragments_of catalog.fact.columns cut) (fact_of catalog cut records) e is

pub is_dimension : (d : Dimension) (records : List Record) (columns : List ColumnSpec) → dimension_columns d records ≡ Ok columns → IsDimension d records
is_dimension d records columns is = rows_behind (columns_of d.table.columns) (dimension_of d records) columns is

-- one element more of those that were gone through
pub next_fits : {A : Type 0} (Fits : A → Type 0) (xs : List A) (k : ℕ) (x : A) → k < length xs → x ≡ get_or xs k x → All Fits (take k xs) → Fits x → All Fits (take (k + 1) xs)
next_fits {A = A} Fits xs k x below at before here =
    subst (All Fits) (sym (take_more xs k x below ∙ ap (λ (y : A). take k xs ++ y ∷ []) (sym at))) (All-push Fits (take k xs) x before here)
