-- The table begun last, as the last of a list.
use Rattle.std.proofs.Common.{◌≡◌, ℕ, ◌+◌, ◌<◌, List, [], ◌∷◌, ◌++◌, length, get_or, set, take, refl, ap, sym, ◌∙◌, arith}
use Rattle.std.proofs.lemmas.List.{take_more, take_more_set, length-set}
use Rattle.std.proofs.Math.Seq.{take-length}
use Rattle.meaning.specs.declared.catalog.Column.{Column}
use Rattle.catalog_reader.specs.declared.catalog_tables.Declared.{Declared}
use Rattle.catalog_reader.specs.CatalogTables.{column_fault, with_column}

module _ {X : Type 0} where
  -- a list is its front and its last element
  split_last : (xs : List X) (i : ℕ) (d : X) → i + 1 ≡ length xs → get_or xs i d ≡ d → xs ≡ take i xs ++ d ∷ []
  split_last xs i d whole last =
      let within : i < length xs = omega arith in
      sym (take-length xs) ∙ ap (λ n. take n xs) (sym whole) ∙ take_more xs i d within
      ∙ ap (λ y. take i xs ++ y ∷ []) last

  -- a write to the last element
  set_last : (xs : List X) (i : ℕ) (y : X) → i + 1 ≡ length xs → set xs i y ≡ take i xs ++ y ∷ []
  set_last xs i y whole =
      let within : i < length xs = omega arith in
      let whole' : i + 1 ≡ length (set xs i y) = omega (arith, length-set xs i y) in
      sym (take-length (set xs i y)) ∙ ap (λ n. take n (set xs i y)) (sym whole') ∙ take_more_set xs i y within

column_fault-front : (front : List Declared) (d : Declared) (line : ℕ) (column : Column)
    → column_fault (front ++ d ∷ []) line column ≡ column_fault (d ∷ []) line column
column_fault-front [] d line column = refl
column_fault-front (t ∷ []) d line column = refl
column_fault-front (t ∷ u ∷ more) d line column = column_fault-front (u ∷ more) d line column

with_column-front : (front : List Declared) (d : Declared) (column : Column) → with_column (front ++ d ∷ []) column
    ≡ front ++ with_column (d ∷ []) column
with_column-front [] d column = refl
with_column-front (t ∷ []) d column = refl
with_column-front (t ∷ u ∷ more) d column = ap (λ tables. t ∷ tables) (with_column-front (u ∷ more) d column)

-- the fault of a column is said of the last table
pub column_fault-last : (tables : List Declared) (i : ℕ) (d : Declared) (line : ℕ) (column : Column) → i + 1
    ≡ length tables → get_or tables i d ≡ d → column_fault tables line column ≡ column_fault (d ∷ []) line column
column_fault-last tables i d line column whole last =
    ap (λ ts. column_fault ts line column) (split_last tables i d whole last)
    ∙ column_fault-front (take i tables) d line column

-- one more column is a write to the last table
pub with_column-last : (tables : List Declared) (i : ℕ) (d : Declared) (column : Column) → i + 1
    ≡ length tables → get_or tables i d
    ≡ d → set tables i (record d { table = record d.table { columns = d.table.columns ++ column ∷ [] } })
    ≡ with_column tables column
with_column-last tables i d column whole last =
    set_last tables i _ whole ∙ sym
    (ap (λ ts. with_column ts column) (split_last tables i d whole last)
    ∙ with_column-front (take i tables) d column)
