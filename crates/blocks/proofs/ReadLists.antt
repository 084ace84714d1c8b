-- Steps of loops that fill a list from the front.
use Rattle.std.proofs.Common.{◌≡◌, ℕ, zero, suc, ◌+◌, ◌<◌, ◌≤◌, List, [], ◌∷◌, ◌++◌, length, take, drop, set, get_or, refl, sym, ap, ◌∙◌, arith, replicate, ◌-◌, sum}
use Rattle.std.specs.Simd.{first_chunks}
use Rattle.blocks.specs.Runs.{repeats}
use Rattle.std.proofs.lemmas.List.Sums.{sum_by-cons}
use borrow.Rule.Slice.PartMut.{put_mid}
use Rattle.std.proofs.lemmas.Slice.{take-put_mid}
use Rattle.std.proofs.lemmas.List.{take_more, take_more_set, take_all, take-take, take-replicate, length-replicate, length-take-le, drop_more, drop-append-le, drop-replicate, length-drop, append_assoc, append-nil, drop_all, take-append-le, length-append}

pub step-list : {X : Type 0} (out target : List X) (i : ℕ) (v d : X)
    → i < length out → i < length target → take i out ≡ take i target → v ≡ get_or target i d
    → take (i + 1) (set out i v) ≡ take (i + 1) target
step-list out target i v d h k e f =
    take_more_set out i v h ∙ ap (λ xs. xs ++ v ∷ []) e ∙ ap (λ x. take i target ++ x ∷ []) f ∙ sym (take_more target i d k)

-- all of the list
pub whole : {X : Type 0} (out target : List X) (n : ℕ) → length out ≡ n → take n out ≡ target → out ≡ target
whole out target n h e = sym (take_all n out (omega arith)) ∙ e

-- chunks
pub length-first_chunks : {X : Type 0} (n m : ℕ) (xs : List X) → length (first_chunks n m xs) ≡ m
length-first_chunks n zero xs = refl
length-first_chunks n (suc m) xs = ap (λ (k : ℕ). suc k) (length-first_chunks n m (drop n xs))

pub take-first_chunks : {X : Type 0} (n k m : ℕ) (xs : List X) → k ≤ m → take k (first_chunks n m xs) ≡ first_chunks n k xs
take-first_chunks n zero m xs h = refl
take-first_chunks n (suc k) zero xs h = absurd (omega arith)
take-first_chunks n (suc k) (suc m) xs h = ap (λ ys. take n xs ∷ ys) (take-first_chunks n k m (drop n xs) (omega arith))

-- ---- fronts
pub take-past : {X : Type 0} (xs ys : List X) (a n : ℕ) → length xs ≡ a → take (a + n) (xs ++ ys) ≡ xs ++ take n ys
take-past [] ys a n h = ap (λ (k : ℕ). take k ys) (let e : a + n ≡ n = omega arith in e)
take-past (x ∷ xs) ys zero n h = absurd (omega arith)
take-past (x ∷ xs) ys (suc a) n h =
    ap (λ (k : ℕ). take k (x ∷ xs ++ ys)) (let e : suc a + n ≡ suc (a + n) = omega arith in e)
    ∙ ap (λ zs. x ∷ zs) (take-past xs ys a n (omega arith))

-- n equal cells, of which a few more were written
pub take-put_equal : {X : Type 0} (out ys : List X) (at n m : ℕ) (x : X)
    → ys ≡ replicate m x → n ≤ m → at + n ≤ length out → take (at + n) (put_mid at m out ys) ≡ take at out ++ replicate n x
take-put_equal out ys at n m x e h k =
    let l : length ys ≡ m = ap length e ∙ length-replicate m x in
    let s : take (at + n) (take (at + m) (put_mid at m out ys)) ≡ take (at + n) (put_mid at m out ys) = take-take (at + n) (at + m) (put_mid at m out ys) (omega arith) in
    let t : take (at + m) (put_mid at m out ys) ≡ take at out ++ ys = take-put_mid at m out ys (at + m) (omega arith) (omega arith) in
    sym s ∙ ap (take (at + n)) t
    ∙ take-past (take at out) ys at n (length-take-le at out (omega arith))
    ∙ ap (λ zs. take at out ++ take n zs) e
    ∙ ap (λ zs. take at out ++ zs) (take-replicate n m x h)

-- ---- runs
pub length-repeats : {X : Type 0} (values : List X) (lengths : List ℕ) → length lengths ≡ length values → length (repeats values lengths) ≡ sum lengths
length-repeats [] [] h = refl
length-repeats [] (n ∷ ns) h = absurd (omega arith)
length-repeats (v ∷ vs) [] h = absurd (omega arith)
length-repeats (v ∷ vs) (n ∷ ns) h =
    length-append (replicate n v) (repeats vs ns)
    ∙ ap (λ (k : ℕ). k + length (repeats vs ns)) (length-replicate n v)
    ∙ ap (λ (k : ℕ). n + k) (length-repeats vs ns (omega arith))
    ∙ sym (sum_by-cons (λ (k : ℕ). k) n ns)

pub run_more : {X : Type 0} (values : List X) (lengths : List ℕ) (run : ℕ) (d : X) → run < length values → run < length lengths
    → repeats (drop run values) (drop run lengths) ≡ replicate (get_or lengths run 0) (get_or values run d) ++ repeats (drop (run + 1) values) (drop (run + 1) lengths)
run_more values lengths run d h k =
    ap (λ vs. repeats vs (drop run lengths)) (drop_more values run d h)
    ∙ ap (λ ns. repeats (get_or values run d ∷ drop (run + 1) values) ns) (drop_more lengths run 0 k)

drop-past : {X : Type 0} (xs ys : List X) (n : ℕ) → length xs ≤ n → drop n (xs ++ ys) ≡ drop (n - length xs) ys
drop-past [] ys n h = ap (λ (k : ℕ). drop k ys) (let e : n ≡ n - 0 = omega arith in e)
drop-past (x ∷ xs) ys zero h = absurd (omega arith)
drop-past (x ∷ xs) ys (suc n) h =
    drop-past xs ys n (omega arith) ∙ ap (λ (k : ℕ). drop k ys) (let e : n - length xs ≡ suc n - suc (length xs) = omega arith in e)

-- a run that is passed over
pub run_skipped : {X : Type 0} (r skip : ℕ) (v : X) (rest : List X) → r ≤ skip → drop skip (replicate r v ++ rest) ≡ drop (skip - r) rest
run_skipped r skip v rest h =
    let l : length (replicate r v) ≡ r = length-replicate r v in
    drop-past (replicate r v) rest skip (omega (arith, l)) ∙ ap (λ (k : ℕ). drop (skip - k) rest) l

-- a run of which some rows are passed over
pub run_entered : {X : Type 0} (r skip : ℕ) (v : X) (rest : List X) → skip ≤ r → drop skip (replicate r v ++ rest) ≡ replicate (r - skip) v ++ rest
run_entered r skip v rest h =
    let l : length (replicate r v) ≡ r = length-replicate r v in
    drop-append-le skip (replicate r v) rest (omega (arith, l)) ∙ ap (λ zs. zs ++ rest) (drop-replicate skip r v)

-- what a loop over runs keeps: the cells that are filled, and those to come
abbrev pub AreLined : {X : Type 0} → List X → ℕ → List X → List ℕ → ℕ → List X → Type 0
AreLined front skip values lengths run all = front ++ drop skip (repeats (drop run values) (drop run lengths)) ≡ all

pub lined_skipped : {X : Type 0} (front : List X) (skip : ℕ) (values : List X) (lengths : List ℕ) (run : ℕ) (all : List X) (d : X) (r : ℕ)
    → AreLined front skip values lengths run all → run < length values → run < length lengths → r ≡ get_or lengths run 0 → r ≤ skip
    → AreLined front (skip - r) values lengths (run + 1) all
lined_skipped front skip values lengths run all d r e h k f l =
    ap (λ zs. front ++ zs)
    (sym (run_skipped r skip (get_or values run d) (repeats (drop (run + 1) values) (drop (run + 1) lengths)) l)
    ∙ ap (λ (n : ℕ). drop skip (replicate n (get_or values run d) ++ repeats (drop (run + 1) values) (drop (run + 1) lengths))) f
    ∙ sym (ap (drop skip) (run_more values lengths run d h k)))
    ∙ e

pub lined_entered : {X : Type 0} (front : List X) (skip : ℕ) (values : List X) (lengths : List ℕ) (run : ℕ) (all : List X) (d v : X) (r : ℕ)
    → AreLined front skip values lengths run all → run < length values → run < length lengths → r ≡ get_or lengths run 0 → skip ≤ r → v ≡ get_or values run d
    → front ++ (replicate (r - skip) v ++ repeats (drop (run + 1) values) (drop (run + 1) lengths)) ≡ all
lined_entered front skip values lengths run all d v r e h k f l g =
    ap (λ zs. front ++ zs)
    (sym (run_entered r skip v (repeats (drop (run + 1) values) (drop (run + 1) lengths)) l)
    ∙ ap (λ (n : ℕ). drop skip (replicate n v ++ repeats (drop (run + 1) values) (drop (run + 1) lengths))) f
    ∙ ap (λ x. drop skip (replicate (get_or lengths run 0) x ++ repeats (drop (run + 1) values) (drop (run + 1) lengths))) g
    ∙ sym (ap (drop skip) (run_more values lengths run d h k)))
    ∙ e

-- a run that is filled to its end
pub lined_filled : {X : Type 0} (front : List X) (skip : ℕ) (values : List X) (lengths : List ℕ) (run : ℕ) (all : List X) (d v : X) (r : ℕ) (n : ℕ) (filled : List X)
    → AreLined front skip values lengths run all → run < length values → run < length lengths → r ≡ get_or lengths run 0 → skip ≤ r → v ≡ get_or values run d
    → n ≡ r - skip → filled ≡ front ++ replicate n v → AreLined filled 0 values lengths (run + 1) all
lined_filled front skip values lengths run all d v r n filled e h k f l g m p =
    let rest = repeats (drop (run + 1) values) (drop (run + 1) lengths) in
    ap (λ zs. zs ++ rest) (p ∙ ap (λ (j : ℕ). front ++ replicate j v) m)
    ∙ append_assoc front (replicate (r - skip) v) rest
    ∙ lined_entered front skip values lengths run all d v r e h k f l g

-- a run that reaches the end of the cells
pub lined_full : {X : Type 0} (front : List X) (skip : ℕ) (values : List X) (lengths : List ℕ) (run : ℕ) (all : List X) (d v : X) (r : ℕ) (n : ℕ) (filled : List X) (m : ℕ)
    → AreLined front skip values lengths run all → run < length values → run < length lengths → r ≡ get_or lengths run 0 → skip ≤ r → v ≡ get_or values run d
    → n ≤ r - skip → filled ≡ front ++ replicate n v → length front + n ≡ m → filled ≡ take m all
lined_full front skip values lengths run all d v r n filled m e h k f l g le p q =
    let rest = repeats (drop (run + 1) values) (drop (run + 1) lengths) in
    let s : length (replicate (r - skip) v) ≡ r - skip = length-replicate (r - skip) v in
    p
    ∙ ap (λ zs. front ++ zs) (sym (take-replicate n (r - skip) v le) ∙ sym (take-append-le n (replicate (r - skip) v) rest (omega (arith, s))))
    ∙ sym (take-past front (replicate (r - skip) v ++ rest) (length front) n refl)
    ∙ ap (λ (j : ℕ). take j (front ++ (replicate (r - skip) v ++ rest))) q
    ∙ ap (take m) (lined_entered front skip values lengths run all d v r e h k f l g)

-- past the last run
pub lined_over : {X : Type 0} (out : List X) (done skip : ℕ) (values : List X) (lengths : List ℕ) (run : ℕ) (all : List X)
    → AreLined (take done out) skip values lengths run all → length values ≤ run → length out ≤ length all → done ≤ length out
    → out ≡ take (length out) all
lined_over out done skip values lengths run all e h l k =
    let none : drop skip (repeats (drop run values) (drop run lengths)) ≡ []
    = ap (λ vs. drop skip (repeats vs (drop run lengths))) (drop_all run values h) ∙ drop_all skip [] (omega arith) in
    let f : take done out ≡ all = sym (append-nil (take done out)) ∙ ap (λ zs. take done out ++ zs) (sym none) ∙ e in
    let a : length (take done out) ≡ length all = ap length f in
    let b : length (take done out) ≡ done = length-take-le done out k in
    let d : done ≡ length out = omega (arith, a, b) in
    sym (take_all (length out) out (omega arith)) ∙ ap (λ (j : ℕ). take j out) (sym d) ∙ f
    ∙ sym (take_all (length out) all (omega (arith, a, b)))

-- enough runs for the cells
pub runs_enough : {X : Type 0} (values : List X) (lengths : List ℕ) (from n : ℕ) → length lengths ≡ length values → from + n ≤ sum lengths
    → n ≤ length (drop from (repeats values lengths))
runs_enough values lengths from n h k =
    let l : length (drop from (repeats values lengths)) ≡ length (repeats values lengths) - from = length-drop from (repeats values lengths) in
    let m : length (repeats values lengths) ≡ sum lengths = length-repeats values lengths h in
    omega (arith, l, m)
