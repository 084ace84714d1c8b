-- What blocks come to, counted one by one.
use Rattle.std.proofs.Common.{◌≡◌, ◌∙◌, ◌≤◌, ◌<◌, ◌+◌, ℕ, Bool, true, false, cond, List, [], ◌∷◌, ◌++◌, length, take, get_or, arith, ap, sym}
use Rattle.std.specs.Prelude.{if◌then◌else◌, None, Some, filter, map, replicate, slice_get}
use Rattle.std.specs.List.{range_with_len}
use Rattle.std.proofs.lemmas.Bool.{and_parts, leb-true}
use Rattle.std.proofs.lemmas.Grind.{flat_map-append}
use Rattle.std.proofs.lemmas.List.{append-nil, length-map, length-replicate, map-append, take_all, take_more}
use Rattle.std.proofs.lemmas.List.Filters.{length-filter_more}
use Rattle.std.proofs.lemmas.List.FromFn.{length-range_with_len}
use Rattle.blocks.specs.Block.{Block, is_block, nulls_of}
use Rattle.answer_text.specs.Reading.{capped}
use Rattle.table_text.specs.BlockText.{column_blocks, if_any, null_count, total_of}
use Rattle.table_text.specs.declared.blocks_shown.Total.{Total}

-- ---- NULLs

pub few_rows : (b : Block) → is_block b ≡ true → b.rows ≤ 8192
few_rows b is = leb-true _ _ (and_parts _ _ (and_parts _ _ is).1).0

nulls_long : (nullable : Bool) (null_at : ℕ → Bool) (rows : ℕ) → length (if nullable then map null_at (range_with_len 0 rows) else replicate rows false) ≡ rows
nulls_long true null_at rows = length-map (range_with_len 0 rows) null_at ∙ length-range_with_len 0 rows
nulls_long false null_at rows = length-replicate rows false

one_more : (b : Bool) (n next row : ℕ) → next ≡ (if b then capped (n + 1) else n) → n ≤ row → row < 8192 → (next ≡ n + cond b 1 0) × (next ≤ row + 1)
one_more true n next row is few small = (omega (arith, is, few, small), omega (arith, is, few, small))
one_more false n next row is few small = (omega (arith, is), omega (arith, is, few))

pub null_more : (b : Block) (row nulls next : ℕ) → row < b.rows → is_block b ≡ true → nulls ≡ length (filter (λ n. n) (take row (nulls_of b))) → nulls ≤ row → next ≡ (if get_or (nulls_of b) row false then capped (nulls + 1) else nulls)
    → (next ≡ length (filter (λ n. n) (take (row + 1) (nulls_of b)))) × (next ≤ row + 1)
null_more b row nulls next within is so_far few more =
    let rows = few_rows b is in
    let long : length (nulls_of b) ≡ b.rows = nulls_long b.nullable _ b.rows in
    let step = one_more (get_or (nulls_of b) row false) nulls next row more few (omega (arith, within, rows)) in
    let here : row < length (nulls_of b) = omega (arith, within, long) in
    (step.0 ∙ ap (λ n. n + cond (get_or (nulls_of b) row false) 1 0) so_far ∙ sym (length-filter_more (λ n. n) (nulls_of b) row false here), step.1)

pub all_nulls : (b : Block) (row nulls : ℕ) → b.rows ≤ row → nulls ≡ length (filter (λ n. n) (take row (nulls_of b))) → nulls ≡ null_count b
all_nulls b row nulls end so_far =
    let long : length (nulls_of b) ≡ b.rows = nulls_long b.nullable _ b.rows in
    so_far ∙ ap (λ ns. length (filter (λ n. n) ns)) (take_all row (nulls_of b) (omega (arith, end, long)))

-- ---- columns

pub nothing_more : (blocks : List Block) (number : ℕ) (group : List Block) → slice_get group number ≡ None → total_of blocks ≡ total_of (blocks ++ if_any (slice_get group number))
nothing_more blocks number group is = ap total_of (sym (ap (λ o. blocks ++ if_any o) is ∙ append-nil blocks))

pub block_more : (blocks : List Block) (number : ℕ) (group : List Block) (b : Block) → slice_get group number ≡ Some b → total_of (blocks ++ b ∷ []) ≡ total_of (blocks ++ if_any (slice_get group number))
block_more blocks number group b is = ap (λ o. total_of (blocks ++ if_any o)) (sym is)

group_more : (number : ℕ) (groups : List (List Block)) (group : List Block) (total : Total) → total ≡ total_of (column_blocks number groups ++ if_any (slice_get group number)) → total ≡ total_of (column_blocks number (groups ++ group ∷ []))
group_more number groups group total is =
    let each = λ (g : List Block). if_any (slice_get g number) in
    is ∙ ap total_of (sym (flat_map-append each groups (group ∷ []) ∙ ap (λ t. column_blocks number groups ++ t) (append-nil (each group))))

pub group_at : {G : Type 0} (number : ℕ) (items : G → List Block) (groups : List G) (i : ℕ) (g : G) (total : Total) → i < length groups → g ≡ get_or groups i g
    → total ≡ total_of (column_blocks number (map items (take i groups)) ++ if_any (slice_get (items g) number)) → total ≡ total_of (column_blocks number (map items (take (i + 1) groups)))
group_at number items groups i g total below item is =
    let more : map items (take (i + 1) groups) ≡ map items (take i groups) ++ items g ∷ [] = ap (map items) (take_more groups i g below ∙ ap (λ x. take i groups ++ x ∷ []) (sym item)) ∙ map-append items (take i groups) (g ∷ []) in
    group_more number (map items (take i groups)) (items g) total is ∙ ap (λ gs. total_of (column_blocks number gs)) (sym more)
