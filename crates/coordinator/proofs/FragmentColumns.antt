-- The columns of one fragment after another.
use Rattle.std.specs.Prelude.{◌≡◌, ℕ, zero, suc, ◌+◌, ◌<◌, Bool, true, List, [], ◌∷◌, length, map, take, drop, slice_index, slice_index_or}
use Rattle.std.specs.List.{list_all, enumerate_from}
use Rattle.std.specs.Cmp.Lexicographic.{pointwise}
use Rattle.std.proofs.Common.{refl, sym, ap, subst, ◌∙◌, arith}
use Rattle.std.proofs.Math.Seq.{drop-drop}
use Rattle.std.proofs.lemmas.List.{length-map, length-take-le}
use Rattle.meaning.proofs.Tests.{first_of, second_of, both}
use Rattle.meaning.specs.declared.catalog.Column.{Column}
use Rattle.meaning.specs.declared.catalog.Table.{Table}
use Rattle.meaning.specs.Order.{Row}
use Rattle.meaning.specs.TableLaws.{are_rows_of, is_value_of}
use Rattle.meaning.specs.Cut.{Cut, first_row}
use Rattle.columns.specs.Column.{ColumnSpec}
use Rattle.columns.specs.Rows.{column_of, columns_of}
use Rattle.loader.specs.Columns.{fragments_of}
use Rattle.fragment_file.specs.Writing.{AreColumns}
use Rattle.job_files.specs.RowFiles.{rows_of_fragment}
use Rattle.coordinator.specs.Fragment.{AreFragments}
use Rattle.meaning_laws.proofs.Cuts.{sum_cons}
use Rattle.coordinator.proofs.Slices.{room}

counted : (declared : List Column) (cut : Cut) (rows : List Row) → length (fragments_of declared cut rows) ≡ length cut
counted declared [] rows = refl
counted declared (n ∷ cut) rows = ap suc (counted declared cut (drop n rows))

all_taken : {X : Type 0} (p : X → Bool) (n : ℕ) (xs : List X) → list_all p xs ≡ true → list_all p (take n xs) ≡ true
all_taken p zero xs e = refl
all_taken p (suc n) [] e = refl
all_taken p (suc n) (x ∷ xs) e = both _ _ (first_of _ _ e) (all_taken p n xs (second_of (p x) _ e))

all_dropped : {X : Type 0} (p : X → Bool) (n : ℕ) (xs : List X) → list_all p xs ≡ true → list_all p (drop n xs) ≡ true
all_dropped p zero xs e = e
all_dropped p (suc n) [] e = refl
all_dropped p (suc n) (x ∷ xs) e = all_dropped p n xs (second_of (p x) _ e)

-- each fragment's columns are those of its rows
fragment_at : (declared : List Column) (cut : Cut) (rows : List Row) (k : ℕ) (d : List ColumnSpec) → k < length cut → slice_index_or (fragments_of declared cut rows) k d ≡ columns_of declared (rows_of_fragment cut k rows)
fragment_at declared [] rows k d below = absurd (omega arith)
fragment_at declared (n ∷ cut) rows zero d below = refl
fragment_at declared (n ∷ cut) rows (suc k) d below =
    let first : n + first_row cut k ≡ first_row (n ∷ cut) (suc k) = sym (sum_cons n (take k cut)) in
    fragment_at declared cut (drop n rows) k d (omega arith)
    ∙ ap (λ (rs : List Row). columns_of declared (take (slice_index cut k) rs)) (drop-drop (first_row cut k) n rows ∙ ap (λ m. drop m rows) first)

-- the columns of rows are those of a file
pub columns_from : (rs : List Row) (i : ℕ) (declared : List Column) → AreColumns declared (length rs) (map (column_of rs) (enumerate_from i declared))
columns_from rs i [] = tt
columns_from rs i (c ∷ declared) = (record { col_type = refl; nullable = refl; rows = length-map rs _ }, columns_from rs (i + 1) declared)

module _ (table : Table) (rows : List Row) (cut : Cut) (fragments : List (List ColumnSpec)) (are : AreFragments table rows cut fragments) where
  -- there is a fragment for each length of the cut
  pub as_many : length fragments ≡ length cut
  as_many = ap length are.fragments_are ∙ counted table.columns cut rows

  pub columns_at : (k : ℕ) (found columns : List ColumnSpec) → k < length cut → found ≡ slice_index_or fragments k found → columns ≡ found → columns ≡ columns_of table.columns (rows_of_fragment cut k rows)
  columns_at k found columns below here same =
      same ∙ here ∙ ap (λ (fs : List (List ColumnSpec)). slice_index_or fs k found) are.fragments_are ∙ fragment_at table.columns cut rows k found below

  pub count_at : (k : ℕ) → k < length cut → length (rows_of_fragment cut k rows) ≡ slice_index cut k
  count_at k below = length-take-le (slice_index cut k) (drop (first_row cut k) rows) (room cut k rows below are.whole)

  pub typed_at : (k : ℕ) → are_rows_of table.columns (rows_of_fragment cut k rows) ≡ true
  typed_at k = all_taken (pointwise is_value_of table.columns) (slice_index cut k) (drop (first_row cut k) rows) (all_dropped (pointwise is_value_of table.columns) (first_row cut k) rows are.typed)

  pub fileable_at : (k : ℕ) (columns : List ColumnSpec) → k < length cut → columns ≡ columns_of table.columns (rows_of_fragment cut k rows) → AreColumns table.columns (slice_index cut k) columns
  fileable_at k columns below is =
      subst (AreColumns table.columns (slice_index cut k)) (sym is)
      (subst (λ n. AreColumns table.columns n (columns_of table.columns (rows_of_fragment cut k rows))) (count_at k below) (columns_from (rows_of_fragment cut k rows) 0 table.columns))
