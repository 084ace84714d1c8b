-- What blocks, row groups and a header that were written are a file of.
use Rattle.std.proofs.Common.{◌≡◌, List, ℕ, zero, suc, ◌<◌, ◌≤◌, ◌+◌, ◌*◌, ◌/◌, ◌%◌, ◌==◌, Bool, true, false, if◌then◌else◌, [], ◌∷◌, ◌++◌, length, get_or, take, drop, map, replicate, refl, subst, sym, ap, ◌∙◌, Option, All, arith}
use Rattle.std.specs.Prelude.{zip}
use Rattle.std.specs.List.{AllByRecursion, range_with_len}
use Rattle.std.proofs.lemmas.List.{take_all, drop-drop}
use Rattle.std.proofs.Math.Seq.{take-add}
use Rattle.std.proofs.lemmas.List.Elements.{All-from_recursion}
use Rattle.std.proofs.lemmas.Bool.{eqb-true}
use Rattle.std.specs.Io.KnownBytes.{Appends}
use Rattle.sha2.specs.declared.Sha256.{Sha256}
use Rattle.sha2.specs.Hashers.{Holds256}
use Rattle.meaning.specs.declared.value.ColType.TheVariants as of_type
use Rattle.meaning.specs.declared.value.Value.{Value}
use Rattle.meaning.specs.declared.catalog.Column.{Column}
use Rattle.meaning.specs.Limits.{row_group_rows}
use Rattle.columns.specs.Column.{ColumnSpec}
use Rattle.blocks.specs.Block.{Block, values_of}
use Rattle.fragment_file.specs.declared.header.Header.{Header}
use Rattle.fragment_file.specs.Fragment.{FragmentSpec, IsFileOf, IsHeader, AreBlocks, AreGroups, groups_bytes, group_sizes, fragment_magic, header_bytes, fragment_bytes, no_block, column_values, column_in, columns_in}
use Rattle.wire.specs.Bytes.{seal_of, sealed}
use Rattle.wire.specs.Writing.{Puts}
use Rattle.fragment_file.specs.Writing.{AreColumns, AreColumnsOf, WritesFile, WritesBest, IsBest, AreRowsOf, AreGroupsOf, WritesGroups}
use Rattle.wire.proofs.Written.{puts_both, puts_sealed}
use Rattle.wire.proofs.Numbers.{ok_is}
use Rattle.fragment_file.proofs.FileLaws.{file_again}
use Rattle.fragment_file.proofs.WrittenGroups.{total, sum_full}

no_column : ColumnSpec
no_column = record { col_type = of_type.Int; nullable = false; values = [] }

-- ---- what is well-formed

are_blocks : (cs : List Column) (rows : ℕ) (cols : List ColumnSpec) (from n : ℕ) (g : List Block) → AreColumns cs rows cols → AreRowsOf cols from n g → AreBlocks cs n g
are_blocks [] rows [] from n [] p q = tt
are_blocks [] rows [] from n (b ∷ bs) p q = absurd q
are_blocks [] rows (s ∷ ss) from n g p q = absurd p
are_blocks (c ∷ cs) rows [] from n g p q = absurd p
are_blocks (c ∷ cs) rows (s ∷ ss) from n [] p q = absurd q
are_blocks (c ∷ cs) rows (s ∷ ss) from n (b ∷ bs) p q = (
  record {
    col_type = q.0.col_type ∙ p.0.col_type;
    nullable = q.0.nullable ∙ p.0.nullable;
    rows = q.0.rows;
    sound = q.0.sound;
    short = q.0.short;
  },
  are_blocks cs rows ss from n bs p.1 q.1,
)

are_groups : (cs : List Column) (rows : ℕ) (cols : List ColumnSpec) (from : ℕ) (sizes : List ℕ) (gs : List (List Block)) → AreColumns cs rows cols
    → AreGroupsOf cols from sizes gs → AreGroups cs sizes gs
are_groups cs rows cols from [] [] p q = tt
are_groups cs rows cols from [] (g ∷ gs) p q = absurd q
are_groups cs rows cols from (n ∷ ns) [] p q = absurd q
are_groups cs rows cols from (n ∷ ns) (g ∷ gs) p q = (are_blocks cs rows cols from n g p q.0, are_groups cs rows cols (from + n) ns gs p q.1)

-- ---- the columns of the file

block_values : (cols : List ColumnSpec) (from n : ℕ) (g : List Block) (j : ℕ) → AreRowsOf cols from n g → j < length cols
    → values_of (get_or g j no_block) ≡ take n (drop from (get_or cols j no_column).values)
block_values [] from n g j p below = absurd (omega arith)
block_values (s ∷ ss) from n [] j p below = absurd p
block_values (s ∷ ss) from n (b ∷ bs) zero p below = p.0.values
block_values (s ∷ ss) from n (b ∷ bs) (suc j) p below = block_values ss from n bs j p.1 (omega arith)

group_values : (cols : List ColumnSpec) (from : ℕ) (sizes : List ℕ) (gs : List (List Block)) (j : ℕ) → AreGroupsOf cols from sizes gs → j < length cols
    → column_values j gs ≡ take (total sizes) (drop from (get_or cols j no_column).values)
group_values cols from [] [] j p below = refl
group_values cols from [] (g ∷ gs) j p below = absurd p
group_values cols from (n ∷ ns) [] j p below = absurd p
group_values cols from (n ∷ ns) (g ∷ gs) j p below =
    let values = (get_or cols j no_column).values in
    let here = block_values cols from n g j p.0 below in
    let behind = group_values cols (from + n) ns gs j p.1 below in
    ap (λ (vs : List Value). vs ++ column_values j gs) here ∙ ap (λ (vs : List Value). take n (drop from values) ++ vs) behind
    ∙ ap (λ (vs : List Value). take n (drop from values) ++ take (total ns) vs) (sym (drop-drop n from values))
    ∙ sym (take-add n (total ns) (drop from values))

total_both : (ms ns : List ℕ) → total (ms ++ ns) ≡ total ms + total ns
total_both [] ns = omega arith
total_both (m ∷ ms) ns =
    let e : total (ms ++ ns) ≡ total ms + total ns = total_both ms ns in
    let all : m + total (ms ++ ns) ≡ m + total ms + total ns = omega arith in
    all

all_rows : (rows : ℕ) → total (group_sizes rows) ≡ rows
all_rows rows =
    let full : total (replicate (rows / row_group_rows) row_group_rows) ≡ rows / row_group_rows * row_group_rows = sum_full (rows / row_group_rows) in
    let rest : total (if rows % row_group_rows == 0 then [] else (rows % row_group_rows) ∷ []) ≡ rows % row_group_rows =
    elim (rows % row_group_rows == 0) as (λ (b : Bool). (rows % row_group_rows == 0) ≡ b → total (if b then [] else (rows % row_group_rows) ∷ []) ≡ rows % row_group_rows)
    [ true ↦ λ e. sym (eqb-true (rows % row_group_rows) 0 e) | false ↦ λ e. omega arith ] refl in
    let both = total_both (replicate (rows / row_group_rows) row_group_rows) (if rows % row_group_rows == 0 then [] else (rows % row_group_rows) ∷ []) in
    let whole : total (replicate (rows / row_group_rows) row_group_rows) + total (if rows % row_group_rows == 0 then [] else (rows % row_group_rows) ∷ []) ≡ rows = omega arith in
    both ∙ whole

column_rows : (cs : List Column) (rows : ℕ) (cols : List ColumnSpec) (j : ℕ) → AreColumns cs rows cols → j < length cols
    → length (get_or cols j no_column).values ≡ rows
column_rows [] rows [] j p below = absurd (omega arith)
column_rows [] rows (s ∷ ss) j p below = absurd p
column_rows (c ∷ cs) rows [] j p below = absurd p
column_rows (c ∷ cs) rows (s ∷ ss) zero p below = p.0.rows
column_rows (c ∷ cs) rows (s ∷ ss) (suc j) p below = column_rows cs rows ss j p.1 (omega arith)

same_columns : (cs : List Column) (rows : ℕ) (cols : List ColumnSpec) (gs : List (List Block)) (k : ℕ) → AreColumns cs rows cols
    → ((j : ℕ) → j < length cols → column_values (k + j) gs ≡ (get_or cols j no_column).values)
    → map (column_in gs) (zip (range_with_len k (length cs)) cs) ≡ cols
same_columns [] rows [] gs k p f = refl
same_columns [] rows (s ∷ ss) gs k p f = absurd p
same_columns (c ∷ cs) rows [] gs k p f = absurd p
same_columns (c ∷ cs) rows (s ∷ ss) gs k p f =
    let at_k : column_values k gs ≡ s.values = ap (λ (i : ℕ). column_values i gs) (omega arith) ∙ f 0 (omega arith) in
    let first : column_in gs (k, c) ≡ s =
    ap (λ t. record { col_type = t; nullable = c.nullable; values = column_values k gs }) (sym p.0.col_type)
    ∙ ap (λ n. record { col_type = s.col_type; nullable = n; values = column_values k gs }) (sym p.0.nullable)
    ∙ ap (λ vs. record { col_type = s.col_type; nullable = s.nullable; values = vs }) at_k in
    let others = same_columns cs rows ss gs (k + 1) p.1 (λ j below. ap (λ (i : ℕ). column_values i gs) (omega arith) ∙ f (suc j) (omega arith)) in
    ap (λ (x : ColumnSpec). x ∷ map (column_in gs) (zip (range_with_len (k + 1) (length cs)) cs)) first ∙ ap (λ (xs : List ColumnSpec). s ∷ xs) others

columns_are : (header : Header) (cols : List ColumnSpec) (gs : List (List Block)) → AreColumnsOf header cols → AreGroupsOf cols 0 (group_sizes header.rows) gs
    → columns_in (record { header = header; groups = gs }) ≡ cols
columns_are header cols gs p q =
    same_columns header.columns header.rows cols gs 0 p (λ j below.
    let values = (get_or cols j no_column).values in
    ap (λ (i : ℕ). column_values i gs) (omega arith) ∙ group_values cols 0 (group_sizes header.rows) gs j q below
    ∙ ap (λ (n : ℕ). take n values) (all_rows header.rows)
    ∙ take_all header.rows values (subst (λ (n : ℕ). n ≤ header.rows) (sym (column_rows header.columns header.rows cols j p below)) (omega arith)))

-- ---- the whole

pub file_written : (a b c d : Option (List ℕ)) (h i j : Sha256) (header : Header) (cols : List ColumnSpec) → IsHeader header → AreColumnsOf header cols → Holds256 h []
    → Puts a b h i (fragment_magic ++ header_bytes header) → WritesGroups b c i j cols (group_sizes header.rows)
    → ((m : List ℕ) → Holds256 j m → Appends c d (seal_of m)) → WritesFile a d header cols
unfolding fragment_bytes groups_bytes
file_written a b c d h i j header cols sound p empty front q seal =
    let file : FragmentSpec = record { header = header; groups = q.groups } in
    let all = puts_both a b c h i j (fragment_magic ++ header_bytes header) (groups_bytes header.rows q.groups) front q.put in (
      sealed (fragment_bytes file),
      puts_sealed a c d h j (fragment_bytes file) empty all seal,
      record {
        file = file;
        spelled = record {
          spelled = refl;
          sound = record { header = sound; groups = are_groups header.columns header.rows cols 0 (group_sizes header.rows) q.groups p q.are };
        };
        header_is = refl;
        columns_are = columns_are header cols q.groups p q.are;
      },
    )

-- ---- the kinds

best_blocks : (cols : List ColumnSpec) (from n : ℕ) (bs : List Block) → AreRowsOf cols from n bs → AllByRecursion IsBest bs
best_blocks [] from n [] p = tt
best_blocks [] from n (b ∷ bs) p = absurd p
best_blocks (s ∷ ss) from n [] p = absurd p
best_blocks (s ∷ ss) from n (b ∷ bs) p = (p.0.best, best_blocks ss from n bs p.1)

best_groups : (cols : List ColumnSpec) (from : ℕ) (sizes : List ℕ) (gs : List (List Block)) → AreGroupsOf cols from sizes gs → AllByRecursion (All IsBest) gs
best_groups cols from [] [] p = tt
best_groups cols from [] (g ∷ gs) p = absurd p
best_groups cols from (n ∷ ns) [] p = absurd p
best_groups cols from (n ∷ ns) (g ∷ gs) p = (All-from_recursion IsBest g (best_blocks cols from n g p.0), best_groups cols (from + n) ns gs p.1)

pub best_written : (a b c d : Option (List ℕ)) (h i j : Sha256) (header : Header) (cols : List ColumnSpec) → IsHeader header → AreColumnsOf header cols → Holds256 h []
    → Puts a b h i (fragment_magic ++ header_bytes header) → WritesGroups b c i j cols (group_sizes header.rows)
    → ((m : List ℕ) → Holds256 j m → Appends c d (seal_of m)) → WritesBest a d
unfolding fragment_bytes groups_bytes
best_written a b c d h i j header cols sound p empty front q seal =
    let file : FragmentSpec = record { header = header; groups = q.groups } in
    let all = puts_both a b c h i j (fragment_magic ++ header_bytes header) (groups_bytes header.rows q.groups) front q.put in
    let own : IsFileOf (sealed (fragment_bytes file)) file =
    record { spelled = refl; sound = record { header = sound; groups = are_groups header.columns header.rows cols 0 (group_sizes header.rows) q.groups p q.are } } in
    let best : All (All IsBest) file.groups = All-from_recursion (All IsBest) q.groups (best_groups cols 0 (group_sizes header.rows) q.groups q.are) in (
      sealed (fragment_bytes file),
      puts_sealed a c d h j (fragment_bytes file) empty all seal,
      λ other is.
          let same : file ≡ other = ok_is file other (sym (file_again (sealed (fragment_bytes file)) file own) ∙ file_again (sealed (fragment_bytes file)) other is) in
          subst (λ (f : FragmentSpec). All (All IsBest) f.groups) same best,
    )

pub long_columns : (cs : List Column) (rows : ℕ) (cols : List ColumnSpec) → AreColumns cs rows cols → All (λ c. rows ≤ length c.values) cols
long_columns cs rows cols p = All-from_recursion (λ c. rows ≤ length c.values) cols (go cs cols p)
  where
    go : (cs : List Column) (cols : List ColumnSpec) → AreColumns cs rows cols → AllByRecursion (λ c. rows ≤ length c.values) cols
    go [] [] p = tt
    go [] (s ∷ ss) p = absurd p
    go (c ∷ cs) [] p = absurd p
    go (c ∷ cs) (s ∷ ss) p = (subst (λ (n : ℕ). rows ≤ n) (sym p.0.rows) (omega arith), go cs ss p.1)
