-- The laws.
use Rattle.std.proofs.Common.{◌≡◌, ℕ, zero, suc, ◌+◌, ◌-◌, ◌≤◌, ◌<◌, min, List, [], ◌∷◌, ◌++◌, map, refl, ap, sym, subst, ◌∙◌, append_assoc, arith}
use Rattle.std.specs.Prelude.{flat_map, All}
use Rattle.std.specs.List.{range_with_len}
use Rattle.std.proofs.lemmas.List.{map-append}
use Rattle.meaning.specs.declared.outcome.Truth.TheVariants.{True, False, Unknown}
use Rattle.meaning.specs.declared.outcome.Outcome.{Outcome}
use Rattle.meaning.specs.declared.outcome.Outcome.TheVariants as gives
use Rattle.meaning.specs.Expr.{eval}
use Rattle.meaning.specs.Judge.{filtered_by}
use Rattle.meaning.specs.Order.{Row}
use Rattle.blocks.specs.Block.{Block}
use Rattle.fragment_file.specs.View.{rows_of}
use Rattle.fragment_file.specs.Rows.{row_in, rows_in}
use Rattle.scan_select.specs.Pieces.{sizes, pieces_at, pieces_of, pieces, rows_of_piece}
use Rattle.scan_select.specs.Selected.{behind, conditions, filter_of}
use Rattle.scan_select.specs.Laws.{BatchesAreRows, ConditionsJudge}
use Rattle.std.proofs.lemmas.List.FromFn.{get_or-range_with_len, length-range_with_len}
use Rattle.scan_select.proofs.Sizes.{sizes_end, sizes_step}

pub conditions_judge : ConditionsJudge
conditions_judge [] row = refl
conditions_judge (c ∷ cs) row = ap (filtered_by (eval c row)) (conditions_judge cs row) ∙ one (eval c row) (conditions cs row)
  where
    one : (a b : Outcome) → filtered_by a (filter_of b) ≡ filter_of (behind a b)
    one (gives.Fault f) b = refl
    one (gives.Value v) b = refl
    one (gives.Truth True) b = refl
    one (gives.Truth Unknown) b = refl
    one (gives.Truth False) b = refl

-- ---- batches

range_parts : (a n m : ℕ) → range_with_len a (n + m) ≡ range_with_len a n ++ range_with_len (a + n) m
range_parts a zero m =
    let none : 0 + m ≡ m = omega arith in
    let here : a + 0 ≡ a = omega arith in
    rw (none, here) refl
range_parts a (suc n) m =
    let more : suc n + m ≡ suc (n + m) = omega arith in
    let behind : a + suc n ≡ a + 1 + n = omega arith in
    rw (more, behind) (ap (λ (ks : List ℕ). a ∷ ks) (range_parts (a + 1) n m))

-- with a limit on the steps: from a row on, the pieces have the rows from there
rows_from : (fuel n : ℕ) (group : List Block) (from left : ℕ) → left ≤ fuel → 0 < n → flat_map rows_of_piece (pieces_at group from (sizes n left)) ≡ map (row_in group) (range_with_len from left)
rows_from fuel n group from zero enough some = ap (λ (ns : List ℕ). flat_map rows_of_piece (pieces_at group from ns)) (sizes_end n some)
rows_from zero n group from (suc left) enough some = absurd (omega (arith, enough))
rows_from (suc fuel) n group from (suc left) enough some =
    let s = min n (suc left) in
    let all : s + (suc left - s) ≡ suc left = omega arith in
    let rest = rows_from fuel n group (from + s) (suc left - s) (omega (arith, enough, some)) some in
    ap (λ (ns : List ℕ). flat_map rows_of_piece (pieces_at group from ns)) (sizes_step n (suc left) some (omega arith))
    ∙ ap (λ (rows : List Row). map (row_in group) (range_with_len from s) ++ rows) rest
    ∙ sym (map-append (row_in group) (range_with_len from s) (range_with_len (from + s) (suc left - s)))
    ∙ ap (map (row_in group)) (sym (range_parts from s (suc left - s)) ∙ ap (range_with_len from) all)

one_group : (n : ℕ) (group : List Block) → 0 < n → flat_map rows_of_piece (pieces_of n group) ≡ rows_in group
one_group n group some = rows_from (rows_of group) n group 0 (rows_of group) (omega arith) some

flat_map_both : {X Y : Type 0} (f : X → List Y) (xs ys : List X) → flat_map f (xs ++ ys) ≡ flat_map f xs ++ flat_map f ys
flat_map_both f [] ys = refl
flat_map_both f (x ∷ xs) ys = ap (λ (zs : List _). f x ++ zs) (flat_map_both f xs ys) ∙ sym (append_assoc (f x) (flat_map f xs) (flat_map f ys))

pub batches_are_rows : BatchesAreRows
batches_are_rows n [] some = refl
batches_are_rows n (group ∷ groups) some =
    flat_map_both rows_of_piece (pieces_of n group) (pieces n groups) ∙ ap (λ (rows : List Row). rows ++ flat_map rows_of_piece (pieces n groups)) (one_group n group some)
    ∙ ap (λ (rows : List Row). rows_in group ++ rows) (batches_are_rows n groups some)

-- ---- columns

pub range_one_more : (k : ℕ) → range_with_len 0 (k + 1) ≡ range_with_len 0 k ++ k ∷ []
range_one_more k = range_parts 0 k 1 ∙ ap (λ (i : ℕ). range_with_len 0 k ++ i ∷ []) (omega arith)

all_below : (n : ℕ) → All (λ p. p < n) (range_with_len 0 n)
all_below n = λ k d lt.
    let long = length-range_with_len 0 n in
    let is = get_or-range_with_len 0 n k d (omega (arith, lt, long)) in
    omega (arith, is, lt, long)

pub columns_below : (n : ℕ) (columns : List ℕ) (many : ℕ) → columns ≡ range_with_len 0 n → n ≡ many → All (λ p. p < many) columns
columns_below n columns many is same = subst (λ (ps : List ℕ). All (λ p. p < many) ps) (sym is) (subst (λ (m : ℕ). All (λ p. p < m) (range_with_len 0 n)) same (all_below n))
