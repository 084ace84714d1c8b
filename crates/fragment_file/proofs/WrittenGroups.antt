-- Blocks, row groups and files that are written part by part.
use Rattle.std.proofs.Common.{◌≡◌, List, ℕ, zero, suc, ◌<◌, ◌+◌, ◌*◌, ◌/◌, ◌%◌, ◌==◌, if◌then◌else◌, [], ◌∷◌, ◌++◌, length, get_or, take, replicate, refl, subst, sym, ap, ◌∙◌, append_assoc, append-nil, Option, arith}
use Rattle.std.specs.Prelude.{flat_map, zip}
use Rattle.std.proofs.lemmas.List.{take_more, replicate_more}
use Rattle.std.proofs.lemmas.Grind.{flat_map-append}
use Rattle.std.proofs.lemmas.Bool.{ne_eqb}
use Rattle.meaning.specs.Limits.{row_group_rows}
use Rattle.sha2.specs.declared.Sha256.{Sha256}
use Rattle.columns.specs.Column.{ColumnSpec}
use Rattle.blocks.specs.Block.{Block}
use Rattle.wire.specs.Bytes.{number_bytes}
use Rattle.fragment_file.specs.Fragment.{block_bytes, group_bytes, group_sizes}
use Rattle.fragment_file.specs.Writing.{IsRowsOf, AreRowsOf, AreGroupsOf, PutsBlock, PutsBlocks, PutsGroup, WritesGroup, WritesGroups}
use Rattle.wire.proofs.Written.{puts_nothing, puts_more}

-- ---- blocks

blocks_more : (cols : List ColumnSpec) (c : ColumnSpec) (from n : ℕ) (bs : List Block) (b : Block) → AreRowsOf cols from n bs → IsRowsOf c from n b
    → AreRowsOf (cols ++ c ∷ []) from n (bs ++ b ∷ [])
blocks_more [] c from n [] b p q = (q, tt)
blocks_more [] c from n (x ∷ bs) b p q = absurd p
blocks_more (s ∷ ss) c from n [] b p q = absurd p
blocks_more (s ∷ ss) c from n (x ∷ bs) b p q = (p.0, blocks_more ss c from n bs b p.1 q)

flat_map_last : {X Y : Type 0} (f : X → List Y) (xs : List X) (x : X) → flat_map f (xs ++ x ∷ []) ≡ flat_map f xs ++ f x
flat_map_last f xs x = flat_map-append f xs (x ∷ []) ∙ ap (λ ys. flat_map f xs ++ ys) (append-nil (f x))

pub puts_block_more : (start middle end : List ℕ) (cols : List ColumnSpec) (i from n : ℕ) (x : ColumnSpec) → i < length cols → x ≡ get_or cols i x
    → PutsBlocks start middle (take i cols) from n → PutsBlock middle end x from n → PutsBlocks start end (take (i + 1) cols) from n
puts_block_more start middle end cols i from n x below same p q =
    let bs = p.blocks ++ q.block ∷ [] in
    let taken : take i cols ++ x ∷ [] ≡ take (i + 1) cols = ap (λ z. take i cols ++ z ∷ []) same ∙ sym (take_more cols i x below) in
    record {
      blocks = bs;
      are = subst (λ cs. AreRowsOf cs from n bs) taken (blocks_more (take i cols) x from n p.blocks q.block p.are q.is);
      put = q.put ∙ ap (λ xs. xs ++ block_bytes q.block) p.put ∙ append_assoc start (flat_map block_bytes p.blocks) (block_bytes q.block)
          ∙ ap (λ xs. start ++ xs) (sym (flat_map_last block_bytes p.blocks q.block));
    }

pub puts_group : (start middle end : List ℕ) (cols : List ColumnSpec) (from n : ℕ) → middle ≡ start ++ number_bytes 4 n
    → PutsBlocks middle end cols from n → PutsGroup start end cols from n
unfolding group_bytes
puts_group start middle end cols from n e p =
    record {
      blocks = p.blocks;
      are = p.are;
      put = p.put ∙ ap (λ xs. xs ++ flat_map block_bytes p.blocks) e ∙ append_assoc start (number_bytes 4 n) (flat_map block_bytes p.blocks);
    }

-- ---- row groups

-- how many rows groups of these sizes have
abbrev pub total : List ℕ → ℕ
total [] = 0
total (n ∷ ns) = n + total ns

groups_last : (cols : List ColumnSpec) (from : ℕ) (sizes : List ℕ) (n : ℕ) (gs : List (List Block)) (g : List Block) → AreGroupsOf cols from sizes gs
    → AreRowsOf cols (from + total sizes) n g → AreGroupsOf cols from (sizes ++ n ∷ []) (gs ++ g ∷ [])
groups_last cols from [] n [] g p q = (subst (λ k. AreRowsOf cols k n g) (omega arith) q, tt)
groups_last cols from [] n (x ∷ gs) g p q = absurd p
groups_last cols from (m ∷ ms) n [] g p q = absurd p
groups_last cols from (m ∷ ms) n (x ∷ gs) g p q =
    let e : from + (m + total ms) ≡ (from + m) + total ms = omega arith in
    (p.0, groups_last cols (from + m) ms n gs g p.1 (subst (λ k. AreRowsOf cols k n g) e q))

spelled_last : (cols : List ColumnSpec) (from : ℕ) (sizes : List ℕ) (n : ℕ) (gs : List (List Block)) (g : List Block) → AreGroupsOf cols from sizes gs
    → flat_map group_bytes (zip (sizes ++ n ∷ []) (gs ++ g ∷ [])) ≡ flat_map group_bytes (zip sizes gs) ++ group_bytes (n, g)
spelled_last cols from [] n [] g p = append-nil (group_bytes (n, g))
spelled_last cols from [] n (x ∷ gs) g p = absurd p
spelled_last cols from (m ∷ ms) n [] g p = absurd p
spelled_last cols from (m ∷ ms) n (x ∷ gs) g p =
    ap (λ ys. group_bytes (m, x) ++ ys) (spelled_last cols (from + m) ms n gs g p.1)
    ∙ sym (append_assoc (group_bytes (m, x)) (flat_map group_bytes (zip ms gs)) (group_bytes (n, g)))

pub writes_nothing : (a : Option (List ℕ)) (h : Sha256) (cols : List ColumnSpec) → WritesGroups a a h h cols []
writes_nothing a h cols = record { groups = []; are = tt; put = puts_nothing a h }

writes_last : (a b c : Option (List ℕ)) (h i j : Sha256) (cols : List ColumnSpec) (sizes : List ℕ) (from n : ℕ) → from ≡ total sizes
    → WritesGroups a b h i cols sizes → WritesGroup b c i j cols from n → WritesGroups a c h j cols (sizes ++ n ∷ [])
writes_last a b c h i j cols sizes from n e p q =
    record {
      groups = p.groups ++ q.blocks ∷ [];
      are = groups_last cols 0 sizes n p.groups q.blocks p.are (subst (λ k. AreRowsOf cols k n q.blocks) (e ∙ omega arith) q.are);
      put = puts_more a b c h i j (flat_map group_bytes (zip sizes p.groups)) (group_bytes (n, q.blocks)) _ p.put q.put (spelled_last cols 0 sizes n p.groups q.blocks p.are);
    }

pub sum_full : (n : ℕ) → total (replicate n row_group_rows) ≡ n * row_group_rows
sum_full zero = refl
sum_full (suc n) =
    let e : total (replicate n row_group_rows) ≡ n * row_group_rows = sum_full n in
    let all : row_group_rows + total (replicate n row_group_rows) ≡ suc n * row_group_rows = omega arith in
    all

pub writes_full : (a b c : Option (List ℕ)) (h i j : Sha256) (cols : List ColumnSpec) (n m : ℕ) → m ≡ row_group_rows
    → WritesGroups a b h i cols (replicate n row_group_rows) → WritesGroup b c i j cols (n * row_group_rows) m → WritesGroups a c h j cols (replicate (n + 1) row_group_rows)
writes_full a b c h i j cols n m e p q =
    subst (WritesGroups a c h j cols) (replicate_more n row_group_rows)
    (writes_last a b c h i j cols (replicate n row_group_rows) (n * row_group_rows) row_group_rows (sym (sum_full n)) p (subst (WritesGroup b c i j cols (n * row_group_rows)) e q))

pub writes_rest : (a b c : Option (List ℕ)) (h i j : Sha256) (cols : List ColumnSpec) (rows m : ℕ) → m ≡ rows % row_group_rows → (rows % row_group_rows ≡ 0 → ⊥)
    → WritesGroups a b h i cols (replicate (rows / row_group_rows) row_group_rows) → WritesGroup b c i j cols (rows / row_group_rows * row_group_rows) m → WritesGroups a c h j cols (group_sizes rows)
writes_rest a b c h i j cols rows m e some p q =
    let last : (rows % row_group_rows) ∷ [] ≡ (if rows % row_group_rows == 0 then [] else (rows % row_group_rows) ∷ []) = sym (ap (λ t. if t then [] else (rows % row_group_rows) ∷ []) (ne_eqb (rows % row_group_rows) 0 some)) in
    subst (λ (ns : List ℕ). WritesGroups a c h j cols (replicate (rows / row_group_rows) row_group_rows ++ ns)) last
    (writes_last a b c h i j cols (replicate (rows / row_group_rows) row_group_rows) (rows / row_group_rows * row_group_rows) (rows % row_group_rows) (sym (sum_full (rows / row_group_rows))) p
    (subst (WritesGroup b c i j cols (rows / row_group_rows * row_group_rows)) e q))
