-- The rows of a file are those whose columns it has.
use Rattle.std.specs.Prelude.{◌≡◌, ℕ, zero, suc, ◌+◌, ◌<◌, true, List, [], ◌∷◌, ◌++◌, length, map, flat_map, get_or, zip}
use Rattle.std.specs.List.{AllByRecursion, enumerate_from, range_with_len}
use Rattle.std.specs.Cmp.Lexicographic.{pointwise}
use Rattle.std.proofs.Common.{refl, sym, ap, subst, ◌∙◌, arith}
use Rattle.std.proofs.lemmas.List.{length-map}
use Rattle.meaning.specs.declared.catalog.Column.{Column}
use Rattle.meaning.specs.declared.value.Value.TheVariants.{Null}
use Rattle.meaning.specs.Order.{Row, column}
use Rattle.meaning.specs.TableLaws.{are_rows_of, is_value_of}
use Rattle.meaning.proofs.Tests.{first_of, second_of}
use Rattle.blocks.specs.Block.{Block, values_of}
use Rattle.columns.specs.Column.{ColumnSpec}
use Rattle.columns.specs.Rows.{column_of, columns_of}
use Rattle.fragment_file.specs.Fragment.{FragmentSpec, IsFragment, AreBlocks, AreGroups, group_sizes, column_in, column_values, columns_in}
use Rattle.fragment_file.specs.Rows.{row_in, rows_in}
use Rattle.fragment_file.proofs.RowLaws.{rows_are_columns, rows_are_counted}

-- ---- rows by their columns

-- the same length, and the same value in each column
same_row : (n : ℕ) (r s : Row) → length r ≡ n → length s ≡ n → ((j : ℕ) → j < n → column r j ≡ column s j) → r ≡ s
same_row n [] [] a b same = refl
same_row n [] (y ∷ s) a b same = absurd (omega (arith, a, b))
same_row n (x ∷ r) [] a b same = absurd (omega (arith, a, b))
same_row zero (x ∷ r) (y ∷ s) a b same = absurd (omega (arith, a))
same_row (suc n) (x ∷ r) (y ∷ s) a b same =
    let head : x ≡ y = same 0 (omega arith) in
    let rest : r ≡ s = same_row n r s (omega (arith, a)) (omega (arith, b)) (λ j below. same (suc j) (omega arith)) in
    λ i. head i ∷ rest i

abbrev AreWide : ℕ → List Row → Type 0
AreWide n rows = AllByRecursion (λ (r : Row). length r ≡ n) rows

map_head : {X Y : Type 0} (x : X) (xs : List X) (y : X) (ys : List X) (f : X → Y) → map f (x ∷ xs) ≡ map f (y ∷ ys) → f x ≡ f y
map_head x xs y ys f e = cc e

map_tail : {X Y : Type 0} (x : X) (xs : List X) (y : X) (ys : List X) (f : X → Y) → map f (x ∷ xs) ≡ map f (y ∷ ys) → map f xs ≡ map f ys
map_tail x xs y ys f e = cc e

same_rows : (n : ℕ) (rows others : List Row) → AreWide n rows → AreWide n others → length rows ≡ length others
    → ((j : ℕ) → j < n → map (λ r. column r j) rows ≡ map (λ r. column r j) others) → rows ≡ others
same_rows n [] [] a b count same = refl
same_rows n [] (s ∷ others) a b count same = absurd (omega (arith, count))
same_rows n (r ∷ rows) [] a b count same = absurd (omega (arith, count))
same_rows n (r ∷ rows) (s ∷ others) a b count same =
    let first = same_row n r s a.0 b.0 (λ j below. map_head r rows s others (λ (x : Row). column x j) (same j below)) in
    let rest = same_rows n rows others a.1 b.1 (omega (arith, count)) (λ j below. map_tail r rows s others (λ (x : Row). column x j) (same j below)) in
    λ i. first i ∷ rest i

-- ---- how wide rows are

wide_declared : (columns : List Column) (r : Row) → pointwise is_value_of columns r ≡ true → length r ≡ length columns
wide_declared [] [] e = refl
wide_declared [] (v ∷ r) e = absurd cc
wide_declared (c ∷ columns) [] e = absurd cc
wide_declared (c ∷ columns) (v ∷ r) e = ap suc (wide_declared columns r (second_of (is_value_of c v) _ e))

declared_wide : (columns : List Column) (rows : List Row) → are_rows_of columns rows ≡ true → AreWide (length columns) rows
declared_wide columns [] e = tt
declared_wide columns (r ∷ rows) e = (wide_declared columns r (first_of _ _ e), declared_wide columns rows (second_of (pointwise is_value_of columns r) _ e))

blocks_count : (columns : List Column) (n : ℕ) (blocks : List Block) → AreBlocks columns n blocks → length blocks ≡ length columns
blocks_count [] n [] are = refl
blocks_count [] n (b ∷ blocks) are = absurd are
blocks_count (c ∷ columns) n [] are = absurd are
blocks_count (c ∷ columns) n (b ∷ blocks) are = ap suc (blocks_count columns n blocks are.1)

group_wide : (n : ℕ) (group : List Block) (rows : List ℕ) → length group ≡ n → AreWide n (map (row_in group) rows)
group_wide n group [] count = tt
group_wide n group (i ∷ rows) count = (length-map group (λ b. get_or (values_of b) i Null) ∙ count, group_wide n group rows count)

wide_both : (n : ℕ) (rows others : List Row) → AreWide n rows → AreWide n others → AreWide n (rows ++ others)
wide_both n [] others a b = b
wide_both n (r ∷ rows) others a b = (a.0, wide_both n rows others a.1 b)

groups_wide : (columns : List Column) (sizes : List ℕ) (groups : List (List Block)) → AreGroups columns sizes groups → AreWide (length columns) (flat_map rows_in groups)
groups_wide columns [] [] are = tt
groups_wide columns [] (g ∷ groups) are = absurd are
groups_wide columns (n ∷ sizes) [] are = absurd are
groups_wide columns (n ∷ sizes) (g ∷ groups) are =
    wide_both (length columns) (rows_in g) (flat_map rows_in groups) (group_wide (length columns) g _ (blocks_count columns n g are.0)) (groups_wide columns sizes groups are.1)

-- ---- columns

-- equal columns have equal values in each row
values_from : (groups : List (List Block)) (rows : List Row) (i : ℕ) (declared : List Column)
    → map (column_in groups) (zip (range_with_len i (length declared)) declared) ≡ map (column_of rows) (enumerate_from i declared)
    → (j : ℕ) → j < length declared → column_values (i + j) groups ≡ map (λ r. column r (i + j)) rows
values_from groups rows i [] e j below = absurd (omega arith)
values_from groups rows i (c ∷ declared) e zero below =
    let here : column_values i groups ≡ map (λ r. column r i) rows = ap (λ (s : ColumnSpec). s.values) (first_is e) in
    let same : i + 0 ≡ i = omega arith in
    subst (λ k. column_values k groups ≡ map (λ r. column r k) rows) (sym same) here
  where
    first_is : {xs ys : List ColumnSpec} {x y : ColumnSpec} → x ∷ xs ≡ y ∷ ys → x ≡ y
    first_is e = cc e
values_from groups rows i (c ∷ declared) e (suc j) below =
    let later = values_from groups rows (i + 1) declared (rest_is e) j (omega arith) in
    let same : (i + 1) + j ≡ i + suc j = omega arith in
    subst (λ k. column_values k groups ≡ map (λ r. column r k) rows) same later
  where
    rest_is : {xs ys : List ColumnSpec} {x y : ColumnSpec} → x ∷ xs ≡ y ∷ ys → xs ≡ ys
    rest_is e = cc e

-- the file's rows are those whose columns it has
pub file_rows : (f : FragmentSpec) (rows : List Row) → IsFragment f → columns_in f ≡ columns_of f.header.columns rows
    → length rows ≡ f.header.rows → are_rows_of f.header.columns rows ≡ true → flat_map rows_in f.groups ≡ rows
file_rows f rows is columns count typed =
    let n = length f.header.columns in
    same_rows n (flat_map rows_in f.groups) rows (groups_wide f.header.columns (group_sizes f.header.rows) f.groups is.groups) (declared_wide f.header.columns rows typed)
    (rows_are_counted f is ∙ sym count)
    (λ j below. rows_are_columns f j is below ∙ at j below)
  where
    at : (j : ℕ) → j < length f.header.columns → column_values j f.groups ≡ map (λ r. column r j) rows
    at j below =
        let same : 0 + j ≡ j = omega arith in
        subst (λ k. column_values k f.groups ≡ map (λ r. column r k) rows) same (values_from f.groups rows 0 f.header.columns columns j below)
