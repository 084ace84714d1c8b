-- The columns of a file, block by block and column by column.
use Rattle.std.proofs.Common.{◌≡◌, ℕ, zero, suc, ◌+◌, ◌<◌, ◌≤◌, false, true, List, [], ◌∷◌, ◌++◌, length, get_or, take, drop, map, zip, refl, sym, ap, subst, ◌∙◌, append_assoc, append-nil, arith}
use Rattle.std.specs.Prelude.{flat_map}
use Rattle.std.specs.List.{range_with_len}
use Rattle.std.proofs.lemmas.List.{get_or_default, length-map, map-append, take_all, take_more}
use Rattle.std.proofs.lemmas.List.FromFn.{get_or-range_with_len, length-range_with_len}
use Rattle.std.proofs.lemmas.Slice.Zip.{get_or-zip, length-zip}
use Rattle.std.proofs.lemmas.Bool.{and_parts, leb-true}
use Rattle.meaning.specs.declared.value.ColType.TheVariants as of_type
use Rattle.meaning.specs.declared.value.Value.{Value}
use Rattle.meaning.specs.declared.catalog.Column.{Column}
use Rattle.meaning.specs.Limits.{row_group_rows}
use Rattle.columns.specs.Column.{ColumnSpec}
use Rattle.blocks.specs.Block.{Block, cells_of, is_block, masked, nulls_of, values_of}
use Rattle.blocks.proofs.Blocks.{block_body}
use Rattle.blocks.proofs.Nulls.{length_cells}
use Rattle.fragment_file.specs.Copying.{with_values}
use Rattle.fragment_file.specs.View.{rows_of}
use Rattle.fragment_file.specs.Fragment.{FragmentSpec, IsBlockOf, AreBlocks, AreGroups, IsFragment, group_sizes, no_block, column_values, column_in, columns_in}
use Rattle.fragment_file.proofs.Written.{flat_map_next}

pub none : Column
none = record { name = []; col_type = of_type.Int; nullable = false }

-- ---- values behind a column's last

pub no_values : (c : ColumnSpec) → c ≡ with_values c []
no_values c = λ i. record { col_type = c.col_type; nullable = c.nullable; values = sym (append-nil c.values) i }

both_values : (c : ColumnSpec) (xs ys : List Value) → with_values (with_values c xs) ys ≡ with_values c (xs ++ ys)
both_values c xs ys = λ i. record { col_type = c.col_type; nullable = c.nullable; values = append_assoc c.values xs ys i }

-- ---- blocks of a row group

blocks_count : (cs : List Column) (n : ℕ) (bs : List Block) → AreBlocks cs n bs → length bs ≡ length cs
blocks_count [] n [] are = refl
blocks_count [] n (b ∷ bs) are = absurd are
blocks_count (c ∷ cs) n [] are = absurd are
blocks_count (c ∷ cs) n (b ∷ bs) are = ap suc (blocks_count cs n bs are.1)

block_is : (cs : List Column) (n : ℕ) (bs : List Block) (j : ℕ) (c : Column) → AreBlocks cs n bs → j < length cs → IsBlockOf (get_or cs j c) n (get_or bs j no_block)
block_is [] n bs j c are lt = absurd (omega arith)
block_is (x ∷ cs) n [] j c are lt = absurd are
block_is (x ∷ cs) n (b ∷ bs) zero c are lt = are.0
block_is (x ∷ cs) n (b ∷ bs) (suc j) c are lt = block_is cs n bs j c are.1 (omega arith)

group_is : (cs : List Column) (sizes : List ℕ) (gs : List (List Block)) (k : ℕ) → AreGroups cs sizes gs → k < length gs → (n : ℕ) × AreBlocks cs n (get_or gs k [])
group_is cs [] [] k are lt = absurd (omega arith)
group_is cs [] (g ∷ gs) k are lt = absurd are
group_is cs (n ∷ ns) [] k are lt = absurd are
group_is cs (n ∷ ns) (g ∷ gs) zero are lt = (n, are.0)
group_is cs (n ∷ ns) (g ∷ gs) (suc k) are lt = group_is cs ns gs k are.1 (omega arith)

pub group_count : (f : FragmentSpec) (k : ℕ) → IsFragment f → k < length f.groups → length (get_or f.groups k []) ≡ length f.header.columns
group_count f k is lt =
    let group = group_is f.header.columns (group_sizes f.header.rows) f.groups k is.groups lt in
    blocks_count f.header.columns group.0 (get_or f.groups k []) group.1

rows_are : (cs : List Column) (n : ℕ) (bs : List Block) → AreBlocks cs n bs → 1 ≤ length cs → rows_of bs ≡ n
rows_are [] n bs are some = absurd (omega arith)
rows_are (c ∷ cs) n [] are some = absurd are
rows_are (c ∷ cs) n (b ∷ bs) are some = are.0.rows

pub group_blocks : (f : FragmentSpec) (k : ℕ) → IsFragment f → k < length f.groups → AreBlocks f.header.columns (rows_of (get_or f.groups k [])) (get_or f.groups k [])
group_blocks f k is lt =
    let group = group_is f.header.columns (group_sizes f.header.rows) f.groups k is.groups lt in
    let rows = rows_are f.header.columns group.0 (get_or f.groups k []) group.1 is.header.some in
    subst (λ (n : ℕ). AreBlocks f.header.columns n (get_or f.groups k [])) (sym rows) group.1

pub declared_is : (f : FragmentSpec) (g : List Block) (b : Block) (k j : ℕ) (c : Column) → IsFragment f → k < length f.groups → g ≡ get_or f.groups k [] → b ≡ get_or g j no_block → j < length f.header.columns
    → (n : ℕ) × IsBlockOf (get_or f.header.columns j c) n b
declared_is f g b k j c is lt same at below =
    let group = group_is f.header.columns (group_sizes f.header.rows) f.groups k is.groups lt in
    let block = block_is f.header.columns group.0 (get_or f.groups k []) j c group.1 below in
    (group.0, subst (IsBlockOf (get_or f.header.columns j c) group.0) (sym (at ∙ ap (λ (bs : List Block). get_or bs j no_block) same)) block)

-- ---- a block's values

length_values : (b : Block) → is_block b ≡ true → length (values_of b) ≤ b.rows
length_values b sound =
    let cells = length_cells b.kind b.col_type b.rows _ (block_body b sound) in
    let zipped = length-zip (nulls_of b) (cells_of b) in
    let mapped = length-map (zip (nulls_of b) (cells_of b)) masked in
    omega (arith, cells, zipped, mapped)

rows_few : (b : Block) → is_block b ≡ true → b.rows ≤ row_group_rows
rows_few b sound = leb-true _ _ (and_parts _ _ (and_parts _ _ sound).1).0

-- a buffer with room for a row group takes them all
pub all_read : (b : Block) (room : ℕ) → is_block b ≡ true → row_group_rows ≤ room → take room (drop 0 (values_of b)) ≡ values_of b
all_read b room sound enough =
    let few = rows_few b sound in
    let count = length_values b sound in
    take_all room (values_of b) (omega (arith, few, count, enough))

-- ---- a column

-- the values of a column in one row group
abbrev in_group : ℕ → List Block → List Value
in_group j g = values_of (get_or g j no_block)

pub block_more : (c old new : ColumnSpec) (gs : List (List Block)) (g : List Block) (b : Block) (k j : ℕ) → k < length gs → g ≡ get_or gs k [] → b ≡ get_or g j no_block
    → old ≡ with_values c (flat_map (in_group j) (take k gs)) → new ≡ with_values old (values_of b) → new ≡ with_values c (flat_map (in_group j) (take (k + 1) gs))
block_more c old new gs g b k j lt same at so_far more =
    let block : values_of b ≡ in_group j (get_or gs k []) = ap values_of (at ∙ ap (λ (bs : List Block). get_or bs j no_block) same) in
    more ∙ ap (λ (x : ColumnSpec). with_values x (values_of b)) so_far ∙ both_values c (flat_map (in_group j) (take k gs)) (values_of b)
    ∙ ap (λ (vs : List Value). with_values c (flat_map (in_group j) (take k gs) ++ vs)) block
    ∙ ap (with_values c) (sym (flat_map_next (in_group j) gs k [] lt))

pub all_groups : (c new : ColumnSpec) (gs : List (List Block)) (k j : ℕ) → length gs ≤ k → new ≡ with_values c (flat_map (in_group j) (take k gs)) → new ≡ with_values c (column_values j gs)
all_groups c new gs k j end so_far = so_far ∙ ap (λ (groups : List (List Block)). with_values c (flat_map (in_group j) groups)) (take_all k gs end)

pub declared_at : (cs : List Column) (j : ℕ) (declared d : Column) → declared ≡ get_or cs j declared → j < length cs → declared ≡ get_or cs j d
declared_at cs j declared d at below = at ∙ get_or_default cs j declared d below

pub column_is : (c new : ColumnSpec) (declared d : Column) (cs : List Column) (gs : List (List Block)) (j : ℕ) → c ≡ record { col_type = declared.col_type; nullable = declared.nullable; values = [] }
    → declared ≡ get_or cs j declared → j < length cs → new ≡ with_values c (column_values j gs) → new ≡ column_in gs (j, get_or cs j d)
column_is c new declared d cs gs j fresh at below all =
    all ∙ ap (λ (x : ColumnSpec). with_values x (column_values j gs)) fresh
    ∙ ap (λ (x : Column). record { col_type = x.col_type; nullable = x.nullable; values = column_values j gs }) (declared_at cs j declared d at below)

-- ---- all columns

abbrev numbered : List Column → List (ℕ × Column)
numbered cs = zip (range_with_len 0 (length cs)) cs

numbered_at : (cs : List Column) (j : ℕ) (d : Column) → j < length cs → (j < length (numbered cs)) × (get_or (numbered cs) j (0, d) ≡ (j, get_or cs j d))
numbered_at cs j d lt =
    let counted = length-range_with_len 0 (length cs) in
    let zipped = length-zip (range_with_len 0 (length cs)) cs in
    let below : j < length (numbered cs) = omega (arith, lt, counted, zipped) in
    let pair = get_or-zip (range_with_len 0 (length cs)) cs j (0, d) (omega (arith, lt, counted)) lt in
    (below, pair ∙ ap (λ (i : ℕ). (i, get_or cs j d)) (get_or-range_with_len 0 (length cs) j 0 lt ∙ omega arith))

pub column_more : (f : FragmentSpec) (j : ℕ) (d : Column) (old new : List ColumnSpec) (c : ColumnSpec) → j < length f.header.columns → old ≡ map (column_in f.groups) (take j (numbered f.header.columns))
    → c ≡ column_in f.groups (j, get_or f.header.columns j d) → new ≡ old ++ c ∷ [] → new ≡ map (column_in f.groups) (take (j + 1) (numbered f.header.columns))
column_more f j d old new c lt so_far is more =
    let all = numbered f.header.columns in
    let at = numbered_at f.header.columns j d lt in
    let next = take_more all j (0, d) at.0 ∙ ap (λ (p : ℕ × Column). take j all ++ p ∷ []) at.1 in
    more ∙ ap (λ (cs : List ColumnSpec). cs ++ c ∷ []) so_far ∙ ap (λ (x : ColumnSpec). map (column_in f.groups) (take j all) ++ x ∷ []) is
    ∙ sym (ap (map (column_in f.groups)) next ∙ map-append (column_in f.groups) (take j all) ((j, get_or f.header.columns j d) ∷ []))

pub columns_are_all : (f : FragmentSpec) (j : ℕ) (cs : List ColumnSpec) → length f.header.columns ≤ j → cs ≡ map (column_in f.groups) (take j (numbered f.header.columns)) → cs ≡ columns_in f
columns_are_all f j cs end so_far =
    let counted = length-range_with_len 0 (length f.header.columns) in
    let zipped = length-zip (range_with_len 0 (length f.header.columns)) f.header.columns in
    so_far ∙ ap (map (column_in f.groups)) (take_all j (numbered f.header.columns) (omega (arith, end, counted, zipped)))
