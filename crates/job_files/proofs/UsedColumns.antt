-- The columns that a plan uses of a table, read one after the other.
use Rattle.std.proofs.Common.{◌≡◌, ℕ, zero, suc, ◌+◌, ◌<◌, true, List, [], ◌∷◌, ◌++◌, get_or, length, map, take, Some, refl, ap, sym, subst, ◌∙◌, arith}
use Rattle.std.specs.Prelude.{slice_get}
use Rattle.std.specs.List.{AllZip, list_all}
use Rattle.std.proofs.lemmas.Bool.{and_parts}
use Rattle.std.proofs.lemmas.List.{take_more}
use Rattle.meaning.specs.declared.catalog.Column.{Column}
use Rattle.meaning.specs.declared.plan.ColumnUse.{ColumnUse}
use Rattle.meaning.specs.declared.value.ColType.{ColType}
use Rattle.columns.specs.Column.{ColumnSpec}
use Rattle.fragment_file.specs.Fragment.{FragmentSpec, column_in}
use Rattle.hash_join.specs.declared.table.DimColumn.{DimColumn}
use Rattle.job_files.specs.Dimensions.{IsColumnIn}
use Rattle.job_files.specs.Files.{is_column}
use Rattle.job_files.proofs.FileColumns.{column_there}

pub zip_push : {A B : Type 0} (R : A → B → Type 0) (xs : List A) (ys : List B) (x : A) (y : B) → AllZip R xs ys → R x y → AllZip R (xs ++ x ∷ []) (ys ++ y ∷ [])
zip_push R [] [] x y are is = (is, tt)
zip_push R [] (b ∷ ys) x y are is = absurd are
zip_push R (a ∷ xs) [] x y are is = absurd are
zip_push R (a ∷ xs) (b ∷ ys) x y are is = (are.0, zip_push R xs ys x y are.1 is)

pub used_at : (us : List ColumnUse) (cs : List Column) (i : ℕ) (u : ColumnUse) → list_all (λ u. is_column u (slice_get cs u.column)) us ≡ true → i < length us → u ≡ get_or us i u → is_column u (slice_get cs u.column) ≡ true
used_at [] cs i u all lt is = absurd (omega (arith, lt))
used_at (x ∷ us) cs zero u all lt is = ap (λ (y : ColumnUse). is_column y (slice_get cs y.column)) is ∙ (and_parts _ _ all).0
used_at (x ∷ us) cs (suc i) u all lt is = used_at us cs i u (and_parts (is_column x (slice_get cs x.column)) _ all).1 (omega (arith, lt)) is

abbrev pub AreThere : List Column → List ColumnUse → Type 0
AreThere cs us = list_all (λ u. is_column u (slice_get cs u.column)) us ≡ true

-- a used column is one of the file's
pub used_column_within : (us : List ColumnUse) (cs : List Column) (i : ℕ) (u : ColumnUse) → AreThere cs us → i < length us → u ≡ get_or us i u → u.column < length cs
used_column_within us cs i u has lt is = (column_there u cs u.column (used_at us cs i u has lt is)).0

pub type_of : (cs : List Column) (i : ℕ) (kind : ColType) (d : Column) → slice_get (map (λ c. c.col_type) cs) i ≡ Some kind → (get_or cs i d).col_type ≡ kind
type_of [] i kind d e = absurd cc
type_of (c ∷ cs) zero kind d e = cc
type_of (c ∷ cs) (suc i) kind d e = type_of cs i kind d e

-- one used column more
pub one_used : (us : List ColumnUse) (f : FragmentSpec) (i : ℕ) (u : ColumnUse) (d : Column) (c : ColumnSpec) (old new : List DimColumn) → AreThere f.header.columns us → i < length us → u ≡ get_or us i u
    → c ≡ column_in f.groups (u.column, get_or f.header.columns u.column d) → new ≡ old ++ record { number = u.column; column = c } ∷ [] → AllZip (IsColumnIn f) (take i us) old → AllZip (IsColumnIn f) (take (i + 1) us) new
one_used us f i u d c old new has lt is read more are =
    let kind = (column_there u f.header.columns u.column (used_at us f.header.columns i u has lt is)).1 in
    let one : IsColumnIn f u (record { number = u.column; column = c }) = record {
      number = refl;
      type = ap (λ (s : ColumnSpec). s.col_type) read ∙ type_of f.header.columns u.column u.col_type d kind;
      values = ap (λ (s : ColumnSpec). s.values) read;
    } in
    let next : take (i + 1) us ≡ take i us ++ u ∷ [] = take_more us i u lt ∙ ap (λ (x : ColumnUse). take i us ++ x ∷ []) (sym is) in
    subst (AllZip (IsColumnIn f) (take (i + 1) us)) (sym more)
    (subst (λ (xs : List ColumnUse). AllZip (IsColumnIn f) xs (old ++ record { number = u.column; column = c } ∷ [])) (sym next)
    (zip_push (IsColumnIn f) (take i us) old u (record { number = u.column; column = c }) are one))
