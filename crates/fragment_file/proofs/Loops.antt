-- Reading parts one after the other in a loop: those that are left are read behind those that were.
use Rattle.std.proofs.Common.{◌≡◌, ℕ, suc, ◌-◌, ◌+◌, ◌≤◌, ◌<◌, List, [], ◌∷◌, ◌++◌, length, drop, get_or, Ok, Err, refl, sym, ap, ◌∙◌, append_assoc, arith}
use Rattle.std.proofs.Math.Seq.{drop-cons}
use Rattle.std.proofs.lemmas.List.{append-nil, drop_all, length-append}
use Rattle.meaning.specs.declared.catalog.Column.{Column}
use Rattle.blocks.specs.Block.{Block}
use Rattle.fragment_file.specs.declared.fault.FileFault.{FileFault}
use Rattle.wire.specs.Reading.{◌>>=◌, Read}
use Rattle.fragment_file.specs.Fragment.{group_sizes}
use Rattle.fragment_file.proofs.Sizes.{first_size, sizes_step}
use Rattle.fragment_file.specs.FragmentReading.{column_at, columns_at, block_at, blocks_at, group_at, groups_at}

-- ---- columns

pub columns_go_on : (before : List Column) (count i : ℕ) (bytes : List ℕ) (c : Column) (rest : List ℕ) (all : Read FileFault (List Column)) → i < count → column_at before bytes ≡ Ok (c, rest)
    → columns_at (count - i) before bytes ≡ all → columns_at (count - (i + 1)) (before ++ c ∷ []) rest ≡ all
unfolding columns_at
columns_go_on before count i bytes c rest all lt first so_far =
    let left : count - i ≡ suc (count - (i + 1)) = omega arith in
    let one : columns_at (count - i) before bytes ≡ columns_at (count - (i + 1)) (before ++ c ∷ []) rest = rw (left, first) refl in
    sym one ∙ so_far

pub columns_fail : (before : List Column) (count i : ℕ) (bytes : List ℕ) (e : FileFault) (all : Read FileFault (List Column)) → i < count → column_at before bytes ≡ Err e
    → columns_at (count - i) before bytes ≡ all → all ≡ Err e
unfolding columns_at
columns_fail before count i bytes e all lt first so_far =
    let left : count - i ≡ suc (count - (i + 1)) = omega arith in
    let one : columns_at (count - i) before bytes ≡ Err e = rw (left, first) refl in
    sym so_far ∙ one

pub columns_finish : (before : List Column) (count i : ℕ) (bytes : List ℕ) (all : Read FileFault (List Column)) → count ≤ i → columns_at (count - i) before bytes ≡ all → all ≡ Ok (before, bytes)
unfolding columns_at
columns_finish before count i bytes all le so_far =
    let left : count - i ≡ 0 = omega arith in
    let one : columns_at (count - i) before bytes ≡ Ok (before, bytes) = rw left refl in
    sym so_far ∙ one

-- ---- what is read behind what was read

abbrev pub behind : {X : Type 0} → List X → Read FileFault (List X) → Read FileFault (List X)
behind before read = read >>= λ others. Ok (before ++ others.0, others.1)

abbrev behind_one : {X : Type 0} → X → Read FileFault (List X) → Read FileFault (List X)
behind_one x read = read >>= λ others. Ok (x ∷ others.0, others.1)

pub moved : {X : Type 0} (before : List X) (x : X) (read : Read FileFault (List X)) → behind before (behind_one x read) ≡ behind (before ++ x ∷ []) read
moved {X} before x (Ok others) = ap (λ (xs : List X). Ok (xs, others.1)) (sym (append_assoc before (x ∷ []) others.0))
moved before x (Err e) = refl

pub begins : {X : Type 0} (read all : Read FileFault (List X)) → read ≡ all → behind [] read ≡ all
begins (Ok p) all e = e
begins (Err d) all e = e

-- ---- blocks

pub blocks_go_on : (before : List Block) (group : ℕ) (columns : List Column) (rows i : ℕ) (bytes : List ℕ) (c : Column) (b : Block) (rest : List ℕ) (all : Read FileFault (List Block)) → i < length columns → get_or columns i c ≡ c
    → block_at group i c rows bytes ≡ Ok (b, rest)
    → behind before (blocks_at group i (drop i columns) rows bytes) ≡ all → behind (before ++ b ∷ []) (blocks_at group (i + 1) (drop (i + 1) columns) rows rest) ≡ all
unfolding blocks_at
blocks_go_on before group columns rows i bytes c b rest all lt at first so_far =
    let next : i + 1 ≡ suc i = omega arith in
    let one : behind before (blocks_at group i (drop i columns) rows bytes) ≡ behind (before ++ b ∷ []) (blocks_at group (i + 1) (drop (i + 1) columns) rows rest) =
    rw (drop-cons columns i c lt, at, first, next) (moved before b (blocks_at group (suc i) (drop (suc i) columns) rows rest)) in
    sym one ∙ so_far

pub blocks_fail : (before : List Block) (group : ℕ) (columns : List Column) (rows i : ℕ) (bytes : List ℕ) (c : Column) (e : FileFault) (all : Read FileFault (List Block)) → i < length columns → get_or columns i c ≡ c
    → block_at group i c rows bytes ≡ Err e
    → behind before (blocks_at group i (drop i columns) rows bytes) ≡ all → all ≡ Err e
unfolding blocks_at
blocks_fail before group columns rows i bytes c e all lt at first so_far =
    let one : behind before (blocks_at group i (drop i columns) rows bytes) ≡ Err e = rw (drop-cons columns i c lt, at, first) refl in
    sym so_far ∙ one

pub blocks_finish : (before : List Block) (group : ℕ) (columns : List Column) (rows i : ℕ) (bytes : List ℕ) (all : Read FileFault (List Block)) → length columns ≤ i
    → behind before (blocks_at group i (drop i columns) rows bytes) ≡ all → all ≡ Ok (before, bytes)
unfolding blocks_at
blocks_finish before group columns rows i bytes all le so_far =
    let one : behind before (blocks_at group i (drop i columns) rows bytes) ≡ Ok (before, bytes) = rw (drop_all i columns le) (ap (λ (xs : List Block). Ok (xs, bytes)) (append-nil before)) in
    sym so_far ∙ one

-- ---- row groups

pub groups_go_on : (before : List (List Block)) (columns : List Column) (left size : ℕ) (bytes : List ℕ) (g : List Block) (rest : List ℕ) (all : Read FileFault (List (List Block))) → 0 < left → size ≡ first_size left
    → group_at (length before) columns size bytes ≡ Ok (g, rest)
    → behind before (groups_at (length before) columns (group_sizes left) bytes) ≡ all → behind (before ++ g ∷ []) (groups_at (length (before ++ g ∷ [])) columns (group_sizes (left - size)) rest) ≡ all
unfolding groups_at
groups_go_on before columns left size bytes g rest all some is first so_far =
    let sizes : group_sizes left ≡ size ∷ group_sizes (left - size) = rw is (sizes_step left some) in
    let next : length (before ++ g ∷ []) ≡ suc (length before) = omega (arith, length-append before (g ∷ [])) in
    let one : behind before (groups_at (length before) columns (size ∷ group_sizes (left - size)) bytes) ≡ behind (before ++ g ∷ []) (groups_at (suc (length before)) columns (group_sizes (left - size)) rest) =
    rw first (moved before g (groups_at (suc (length before)) columns (group_sizes (left - size)) rest)) in
    ap (λ (n : ℕ). behind (before ++ g ∷ []) (groups_at n columns (group_sizes (left - size)) rest)) next ∙ sym one
    ∙ ap (λ (sizes : List ℕ). behind before (groups_at (length before) columns sizes bytes)) (sym sizes) ∙ so_far

pub groups_fail : (before : List (List Block)) (columns : List Column) (left size : ℕ) (bytes : List ℕ) (e : FileFault) (all : Read FileFault (List (List Block))) → 0 < left → size ≡ first_size left
    → group_at (length before) columns size bytes ≡ Err e
    → behind before (groups_at (length before) columns (group_sizes left) bytes) ≡ all → all ≡ Err e
unfolding groups_at
groups_fail before columns left size bytes e all some is first so_far =
    let sizes : group_sizes left ≡ size ∷ group_sizes (left - size) = rw is (sizes_step left some) in
    let one : behind before (groups_at (length before) columns (size ∷ group_sizes (left - size)) bytes) ≡ Err e = rw first refl in
    sym so_far ∙ ap (λ (sizes : List ℕ). behind before (groups_at (length before) columns sizes bytes)) sizes ∙ one

pub groups_finish : (before : List (List Block)) (columns : List Column) (left : ℕ) (bytes : List ℕ) (all : Read FileFault (List (List Block))) → left ≤ 0
    → behind before (groups_at (length before) columns (group_sizes left) bytes) ≡ all → all ≡ Ok (before, bytes)
unfolding groups_at
groups_finish before columns left bytes all le so_far =
    let none : left ≡ 0 = omega arith in
    let one : behind before (groups_at (length before) columns (group_sizes left) bytes) ≡ Ok (before, bytes) = rw none (ap (λ (gs : List (List Block)). Ok (gs, bytes)) (append-nil before)) in
    sym so_far ∙ one
