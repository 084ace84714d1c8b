-- The rows of a file's row groups: what they have in each column, and how many they are.
use Rattle.std.proofs.Common.{◌≡◌, ℕ, zero, suc, ◌-◌, ◌≤◌, ◌<◌, Bool, true, false, cond, List, [], ◌∷◌, ◌++◌, get_or, length, map, zip, replicate, refl, ap, ◌∙◌, arith}
use Rattle.std.specs.Prelude.{flat_map, sum, nat_lt, if◌then◌else◌}
use Rattle.std.specs.List.{range_with_len}
use Rattle.std.proofs.lemmas.Bool.{ltb-false}
use Rattle.std.proofs.lemmas.List.{length-append, length-map, length-replicate, map-append}
use Rattle.std.proofs.lemmas.List.FromFn.{length-range_with_len}
use Rattle.std.proofs.lemmas.List.Sums.{sum_by-cons}
use Rattle.std.proofs.lemmas.Simd.{pick_l_whole}
use Rattle.std.proofs.lemmas.Slice.Zip.{length-zip}
use Rattle.meaning.specs.declared.catalog.Column.{Column}
use Rattle.meaning.specs.declared.value.Value.{Value}
use Rattle.meaning.specs.declared.value.Value.TheVariants.{Null}
use Rattle.meaning.specs.Limits.{row_group_rows}
use Rattle.meaning.specs.Order.{column}
use Rattle.blocks.specs.Block.{Block, bit_at, cells_of, is_block, mask_of, masked, nulls_of, values_of}
use Rattle.blocks.proofs.Blocks.{block_body}
use Rattle.blocks.proofs.Nulls.{length_cells}
use Rattle.fragment_file.specs.Fragment.{AreBlocks, AreGroups, column_values, group_sizes, no_block}
use Rattle.fragment_file.specs.Rows.{RowsAreColumns, RowsAreCounted, row_in, rows_in}
use Rattle.fragment_file.specs.View.{rows_of}
use Rattle.fragment_file.proofs.Sizes.{first_size, sizes_end, sizes_step}

-- a block has a value for each of its rows
length-nulls : (nullable : Bool) (rows : ℕ) (mask : List ℕ) → length (cond nullable (map (bit_at mask) (range_with_len 0 rows)) (replicate rows false)) ≡ rows
length-nulls true rows mask = length-map (range_with_len 0 rows) (bit_at mask) ∙ length-range_with_len 0 rows
length-nulls false rows mask = length-replicate rows false

pub length-values : (b : Block) → is_block b ≡ true → length (values_of b) ≡ b.rows
length-values b sound =
    let cells = length_cells b.kind b.col_type b.rows _ (block_body b sound) in
    let nulls = length-nulls b.nullable b.rows (mask_of b) in
    let zipped = length-zip (nulls_of b) (cells_of b) in
    let mapped = length-map (zip (nulls_of b) (cells_of b)) masked in
    omega (arith, cells, nulls, zipped, mapped)

-- what a row has in a column is what the column's block has in that row
pub column_of_row : (group : List Block) (i p : ℕ) → p < length group → column (row_in group i) p ≡ get_or (values_of (get_or group p no_block)) i Null
column_of_row [] i p below = absurd (omega arith)
column_of_row (b ∷ bs) i zero below = refl
column_of_row (b ∷ bs) i (suc p) below = column_of_row bs i p (omega (arith, below))

-- ---- columns

blocks_at : (cs : List Column) (n : ℕ) (bs : List Block) (j : ℕ) → AreBlocks cs n bs → j < length cs → (j < length bs) × (is_block (get_or bs j no_block) ≡ true) × ((get_or bs j no_block).rows ≡ n)
blocks_at [] n bs j are below = absurd (omega (arith, below))
blocks_at (c ∷ cs) n [] j are below = absurd are
blocks_at (c ∷ cs) n (b ∷ bs) zero are below = (omega arith, are.0.sound, are.0.rows)
blocks_at (c ∷ cs) n (b ∷ bs) (suc j) are below = let rest = blocks_at cs n bs j are.1 (omega (arith, below)) in let h = rest.0 in (omega (arith, h), rest.1, rest.2)

rows_are : (cs : List Column) (n : ℕ) (bs : List Block) → AreBlocks cs n bs → 0 < length cs → rows_of bs ≡ n
rows_are [] n bs are some = absurd (omega (arith, some))
rows_are (c ∷ cs) n [] are some = absurd are
rows_are (c ∷ cs) n (b ∷ bs) are some = are.0.rows

column_one_by_one : (group : List Block) (j : ℕ) (is : List ℕ) → j < length group → map (λ row. column row j) (map (row_in group) is) ≡ map (λ i. get_or (values_of (get_or group j no_block)) i Null) is
column_one_by_one group j [] below = refl
column_one_by_one group j (i ∷ is) below =
    ap (λ (v : Value). v ∷ map (λ row. column row j) (map (row_in group) is)) (column_of_row group i j below)
    ∙ ap (λ (vs : List Value). get_or (values_of (get_or group j no_block)) i Null ∷ vs) (column_one_by_one group j is below)

group_column : (cs : List Column) (n : ℕ) (group : List Block) (j : ℕ) → AreBlocks cs n group → j < length cs → map (λ row. column row j) (rows_in group) ≡ values_of (get_or group j no_block)
group_column cs n group j are below =
    let at = blocks_at cs n group j are below in
    let vs : List Value = values_of (get_or group j no_block) in
    let rows = rows_are cs n group are (omega (arith, below)) in
    let count = length-values (get_or group j no_block) at.1 in
    let same = at.2 in
    column_one_by_one group j (range_with_len 0 (rows_of group)) at.0 ∙ pick_l_whole Null vs (rows_of group) (omega (arith, rows, count, same))

groups_column : (cs : List Column) (sizes : List ℕ) (groups : List (List Block)) (j : ℕ) → AreGroups cs sizes groups → j < length cs → map (λ row. column row j) (flat_map rows_in groups) ≡ column_values j groups
groups_column cs [] [] j are below = refl
groups_column cs [] (g ∷ gs) j are below = absurd are
groups_column cs (n ∷ ns) [] j are below = absurd are
groups_column cs (n ∷ ns) (g ∷ gs) j are below =
    map-append (λ row. column row j) (rows_in g) (flat_map rows_in gs) ∙ ap (λ (vs : List Value). vs ++ map (λ row. column row j) (flat_map rows_in gs)) (group_column cs n g j are.0 below)
    ∙ ap (λ (vs : List Value). values_of (get_or g j no_block) ++ vs) (groups_column cs ns gs j are.1 below)

pub rows_are_columns : RowsAreColumns
rows_are_columns f j is below = groups_column f.header.columns (group_sizes f.header.rows) f.groups j is.groups below

-- ---- how many rows

first_size_within : (left : ℕ) → 0 < left → (0 < first_size left) × (first_size left ≤ left)
first_size_within left some =
    elim (nat_lt left row_group_rows) as (λ b. nat_lt left row_group_rows ≡ b → (0 < (if b then left else row_group_rows)) × ((if b then left else row_group_rows) ≤ left)) [
      | true ↦ λ e. (some, omega arith)
      | false ↦ λ e. (omega arith, ltb-false _ _ e)
    ] refl

group_sum : (fuel rows : ℕ) → rows ≤ fuel → sum (group_sizes rows) ≡ rows
group_sum fuel zero enough = ap (λ (ns : List ℕ). sum ns) sizes_end
group_sum zero (suc rows) enough = absurd (omega (arith, enough))
group_sum (suc fuel) (suc rows) enough =
    let size = first_size (suc rows) in
    let bound = first_size_within (suc rows) (omega arith) in
    let low = bound.0 in
    let high = bound.1 in
    let rest = group_sum fuel (suc rows - size) (omega (arith, enough, low)) in
    let parts = sum_by-cons (λ (n : ℕ). n) size (group_sizes (suc rows - size)) in
    ap (λ (ns : List ℕ). sum ns) (sizes_step (suc rows) (omega arith)) ∙ omega (arith, rest, parts, low, high)

groups_counted : (cs : List Column) (sizes : List ℕ) (groups : List (List Block)) → AreGroups cs sizes groups → 0 < length cs → length (flat_map rows_in groups) ≡ sum sizes
groups_counted cs [] [] are some = refl
groups_counted cs [] (g ∷ gs) are some = absurd are
groups_counted cs (n ∷ ns) [] are some = absurd are
groups_counted cs (n ∷ ns) (g ∷ gs) are some =
    let rest = groups_counted cs ns gs are.1 some in
    let rows = rows_are cs n g are.0 some in
    let here = length-map (range_with_len 0 (rows_of g)) (row_in g) in
    let range = length-range_with_len 0 (rows_of g) in
    let both = length-append (rows_in g) (flat_map rows_in gs) in
    let parts = sum_by-cons (λ (n : ℕ). n) n ns in
    omega (arith, rest, rows, here, range, both, parts)

pub rows_are_counted : RowsAreCounted
rows_are_counted f is =
    let some = is.header.some in
    groups_counted f.header.columns (group_sizes f.header.rows) f.groups is.groups (omega (arith, some)) ∙ group_sum f.header.rows f.header.rows (omega arith)
