-- Runs that are passed over before the first row that is read.
use Rattle.std.proofs.Common.{◌≡◌, ℕ, zero, suc, ◌+◌, ◌-◌, ◌≤◌, ◌<◌, min, List, [], ◌∷◌, ◌++◌, length, take, drop, sum, map, get_or, replicate, refl, sym, ap, ◌∙◌, arith, ⊎_elim}
use Rattle.std.proofs.lemmas.Bool.{cases_lt}
use Rattle.std.proofs.lemmas.List.{take-map, drop-map, map-append, take_all, take-append-drop, take-append-le, take-replicate, append-nil, length-drop, length-replicate}
use Rattle.std.proofs.Math.Seq.{take-add}
use Rattle.std.proofs.lemmas.List.Sums.{sum_by-append, sum_by-cons, sum_by_more}
use Rattle.blocks.specs.Runs.{repeats}
use Rattle.blocks.proofs.ReadLists.{run_skipped, lined_entered, take-past}

pub passed_over : {X : Type 0} (s : ℕ) (values : List X) (lengths : List ℕ) (skip from : ℕ) → s ≤ length values → s ≤ length lengths
    → skip + sum (take s lengths) ≡ from → drop skip (repeats (drop s values) (drop s lengths)) ≡ drop from (repeats values lengths)
passed_over zero values lengths skip from h k e =
    let f : skip ≡ from = let g : sum (take 0 lengths) ≡ 0 = refl in omega (arith, e, g) in
    ap (λ (n : ℕ). drop n (repeats values lengths)) f
passed_over (suc s) [] lengths skip from h k e = absurd (omega arith)
passed_over (suc s) (v ∷ vs) [] skip from h k e = absurd (omega arith)
passed_over (suc s) (v ∷ vs) (n ∷ ns) skip from h k e =
    let g : sum (n ∷ take s ns) ≡ n + sum (take s ns) = sum_by-cons (λ (m : ℕ). m) n (take s ns) in
    passed_over s vs ns skip (from - n) (omega arith) (omega arith) (omega (arith, e, g))
    ∙ sym (run_skipped n from v (repeats vs ns) (omega (arith, e, g)))

-- m runs more
pub sum_more : {X : Type 0} (f : X → ℕ) (xs : List X) (n m : ℕ) → sum (take (n + m) (map f xs)) ≡ sum (take n (map f xs)) + sum (map f (take m (drop n xs)))
sum_more f xs n m =
    ap sum (take-map f (n + m) xs ∙ ap (map f) (take-add n m xs) ∙ map-append f (take n xs) (take m (drop n xs)))
    ∙ sum_by-append (λ (k : ℕ). k) (map f (take n xs)) (map f (take m (drop n xs)))
    ∙ ap (λ (k : ℕ). k + sum (map f (take m (drop n xs)))) (ap sum (sym (take-map f n xs)))

-- what is behind some elements, of a list that is computed from another
pub map-behind : {X Y : Type 0} (f : X → Y) (xs : List X) (n : ℕ) → map f (take (length xs - n) (drop n xs)) ≡ drop n (map f xs)
map-behind f xs n =
    let l : length (drop n xs) ≡ length xs - n = length-drop n xs in
    ap (map f) (take_all (length xs - n) (drop n xs) (omega (arith, l))) ∙ sym (drop-map f n xs)

-- the rows of one run and of those before and behind it
pub sum_around : (ns : List ℕ) (run : ℕ) → run < length ns → sum (take run ns) + get_or ns run 0 + sum (drop (run + 1) ns) ≡ sum ns
sum_around ns run h =
    let more : sum (take (run + 1) ns) ≡ sum (take run ns) + get_or ns run 0 = sum_by_more (λ (k : ℕ). k) ns run 0 h in
    let both : sum (take (run + 1) ns ++ drop (run + 1) ns) ≡ sum (take (run + 1) ns) + sum (drop (run + 1) ns)
    = sum_by-append (λ (k : ℕ). k) (take (run + 1) ns) (drop (run + 1) ns) in
    ap (λ (k : ℕ). k + sum (drop (run + 1) ns)) (sym more) ∙ sym both ∙ ap sum (take-append-drop (run + 1) ns)

-- as many equal cells as there are and fit, and then others
equal_and_rest : {X : Type 0} (a m : ℕ) (v : X) (rest : List X)
    → replicate (min a m) v ++ take (m - min a m) rest ≡ take m (replicate a v ++ rest)
equal_and_rest a m v rest =
    ⊎_elim
    (λ (h : m < a).
    let e : min a m ≡ m = omega arith in
    let z : m - m ≡ 0 = omega arith in
    let l : length (replicate a v) ≡ a = length-replicate a v in
    ap (λ (n : ℕ). replicate n v ++ take (m - n) rest) e
    ∙ ap (λ (n : ℕ). replicate m v ++ take n rest) z
    ∙ append-nil (replicate m v)
    ∙ sym (take-replicate m a v (omega arith))
    ∙ sym (take-append-le m (replicate a v) rest (omega (arith, l))))
    (λ (h : a ≤ m).
    let e : min a m ≡ a = omega arith in
    let s : a + (m - a) ≡ m = omega arith in
    ap (λ (n : ℕ). replicate n v ++ take (m - n) rest) e
    ∙ sym (take-past (replicate a v) rest a (m - a) (length-replicate a v))
    ∙ ap (λ (n : ℕ). take n (replicate a v ++ rest)) s)
    (cases_lt m a)

-- the rows of the run in which the first one is, and those of the runs behind it
pub first_and_rest : {X : Type 0} (values : List X) (lengths : List ℕ) (run skip from r n m : ℕ) (v d : X) (first rest : List X)
    → run < length values → run < length lengths → r ≡ get_or lengths run 0 → v ≡ get_or values run d → skip ≤ r
    → skip + sum (take run lengths) ≡ from → n ≡ min (r - skip) m → first ≡ replicate n v
    → rest ≡ take (m - n) (repeats (drop (run + 1) values) (drop (run + 1) lengths))
    → first ++ rest ≡ take m (drop from (repeats values lengths))
first_and_rest values lengths run skip from r n m v d first rest h k f g l e c p q =
    ap (λ xs. xs ++ rest) p
    ∙ ap (λ xs. replicate n v ++ xs) q
    ∙ ap (λ (j : ℕ). replicate j v ++ take (m - j) (repeats (drop (run + 1) values) (drop (run + 1) lengths))) c
    ∙ equal_and_rest (r - skip) m v (repeats (drop (run + 1) values) (drop (run + 1) lengths))
    ∙ ap (take m) (lined_entered [] skip values lengths run (drop from (repeats values lengths)) d v r
    (passed_over run values lengths skip from (omega arith) (omega arith) e) h k f l g)
