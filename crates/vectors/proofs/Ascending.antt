-- Ascending positions, and what is read at them.
use Rattle.std.proofs.Common.{◌≡◌, ℕ, zero, suc, ◌+◌, ◌≤◌, ◌<◌, Bool, true, false, cond, eqb, ◌&&◌, ◌||◌, List, [], ◌∷◌, ◌++◌, filter, map, length, refl, ap, sym, subst, ◌∙◌, arith}
use Rattle.std.specs.Prelude.{flat_map, if◌then◌else◌}
use Rattle.std.specs.List.{AllByRecursion, range_with_len}
use Rattle.std.specs.List.Sorted.{IsStrictlyIncreasing}
use Rattle.std.proofs.lemmas.Bool.{eqb-true, eqb-false, eq-eqb, ne_eqb}
use Rattle.std.proofs.lemmas.List.Elements.{recursion_from_All}
use Rattle.meaning.proofs.Tests.{or_second, and_false}
use Rattle.vectors.specs.Selection.{IsSelection, Positions, is_among}

pub among_within : (n : ℕ) (xs : List ℕ) (i : ℕ) → AllByRecursion (λ p. p < n) xs → is_among xs i ≡ true → i < n
among_within n [] i all among = absurd cc
among_within n (x ∷ xs) i all among =
    elim (eqb x i) as (λ b. eqb x i ≡ b → (b || is_among xs i) ≡ true → i < n) [
      | true ↦ λ e h. let same = eqb-true x i e in let below = all.0 in omega (arith, same, below)
      | false ↦ λ e h. among_within n xs i all.1 h
    ] refl among

pub among_range : (a n i : ℕ) → a ≤ i → i < a + n → is_among (range_with_len a n) i ≡ true
among_range a zero i low high = absurd (omega (arith, low, high))
among_range a (suc n) i low high =
    elim (eqb a i) as (λ b. eqb a i ≡ b → (b || is_among (range_with_len (a + 1) n) i) ≡ true) [
      | true ↦ λ e. refl
      | false ↦ λ e. let apart = eqb-false a i e in among_range (a + 1) n i (omega (arith, low, apart)) (omega (arith, high))
    ] refl

-- a filtered list has what the list has and the test lets pass
pub among_filter : (f : ℕ → Bool) (xs : List ℕ) (i : ℕ) → is_among (filter f xs) i ≡ (is_among xs i && f i)
among_filter f [] i = refl
among_filter f (x ∷ xs) i = of_head (f x) refl (eqb x i) refl (among_filter f xs i)
  where
    of_head : (k : Bool) → f x ≡ k → (b : Bool) → eqb x i ≡ b → is_among (filter f xs) i ≡ (is_among xs i && f i) → is_among (cond (f x) (x ∷ filter f xs) (filter f xs)) i ≡ ((eqb x i || is_among xs i) && f i)
    of_head true k true b rest = let here : f i ≡ true = ap f (sym (eqb-true x i b)) ∙ k in rw (k, b, here) refl
    of_head true k false b rest = rw (k, b) rest
    of_head false k true b rest = let here : f i ≡ false = ap f (sym (eqb-true x i b)) ∙ k in rw (k, b) (rest ∙ ap (λ (c : Bool). is_among xs i && c) here ∙ and_false (is_among xs i) ∙ sym here)
    of_head false k false b rest = rw (k, b) rest

-- ---- ascending positions

-- each at least `a`, and greater than the one before
abbrev pub Ascends : ℕ → List ℕ → Type 0
Ascends a [] = Unit {0}
Ascends a (p ∷ ps) = (a ≤ p) × Ascends (suc p) ps

ascends_from : (a p : ℕ) (ps : List ℕ) → IsStrictlyIncreasing (p ∷ ps) → a ≤ p → Ascends a (p ∷ ps)
ascends_from a p [] ascending low = (low, tt)
ascends_from a p (q ∷ ps) ascending low = (low, ascends_from (suc p) q ps (λ k lt. let e : suc k + 1 ≡ suc (k + 1) = omega arith in rw e at (ascending (suc k) (omega (arith, lt)))) (let h : p < q = ascending 0 (omega arith) in omega (arith, h)))

pub ascends : (ps : List ℕ) → IsStrictlyIncreasing ps → Ascends 0 ps
ascends [] ascending = tt
ascends (p ∷ ps) ascending = ascends_from 0 p ps ascending (omega arith)

pub among_below : (a : ℕ) (ps : List ℕ) (i : ℕ) → Ascends a ps → i < a → is_among ps i ≡ false
among_below a [] i up below = refl
among_below a (p ∷ ps) i up below =
    let low = up.0 in
    let apart : eqb p i ≡ false = ne_eqb p i (λ e. omega (arith, e, low, below)) in
    rw apart (among_below (suc p) ps i up.1 (omega (arith, low, below)))

filter_range_as : (f g : ℕ → Bool) (a n : ℕ) → ((i : ℕ) → a ≤ i → f i ≡ g i) → filter f (range_with_len a n) ≡ filter g (range_with_len a n)
filter_range_as f g a zero same = refl
filter_range_as f g a (suc n) same =
    ap (λ (b : Bool). cond b (a ∷ filter f (range_with_len (a + 1) n)) (filter f (range_with_len (a + 1) n))) (same a (omega arith))
    ∙ ap (λ (rest : List ℕ). cond (g a) (a ∷ rest) rest) (filter_range_as f g (a + 1) n (λ i low. same i (omega (arith, low))))

pub moved : (a n : ℕ) (qs : List ℕ) → AllByRecursion (λ p. p < a + suc n) qs → AllByRecursion (λ p. p < a + 1 + n) qs
moved a n [] all = tt
moved a n (q ∷ qs) all = (let h = all.0 in omega (arith, h), moved a n qs all.1)

-- ascending positions are those of the range that are among them
filtered : (a n : ℕ) (ps : List ℕ) → Ascends a ps → AllByRecursion (λ p. p < a + n) ps → filter (is_among ps) (range_with_len a n) ≡ ps
filtered a zero [] up within = refl
filtered a zero (p ∷ ps) up within = absurd (let low = up.0 in let high = within.0 in omega (arith, low, high))
filtered a (suc n) [] up within = filtered (a + 1) n [] tt tt
filtered a (suc n) (p ∷ ps) up within =
    elim (eqb p a) as (λ b. eqb p a ≡ b → filter (is_among (p ∷ ps)) (range_with_len a (suc n)) ≡ p ∷ ps) [
      | true ↦ λ e.
          let same : p ≡ a = eqb-true p a e in
          let up' : Ascends (a + 1) ps = subst (λ (k : ℕ). Ascends k ps) (omega (arith, same)) up.1 in
          let here : is_among (p ∷ ps) a ≡ true = rw e refl in
          let others = filter_range_as (is_among (p ∷ ps)) (is_among ps) (a + 1) n (λ i low. let apart : eqb p i ≡ false = ne_eqb p i (λ h. omega (arith, h, low, same)) in rw apart refl) in
          ap (λ (b : Bool). cond b (a ∷ filter (is_among (p ∷ ps)) (range_with_len (a + 1) n)) (filter (is_among (p ∷ ps)) (range_with_len (a + 1) n))) here
          ∙ ap (λ (rest : List ℕ). a ∷ rest) (others ∙ filtered (a + 1) n ps up' (moved a n ps within.1))
          ∙ ap (λ (k : ℕ). k ∷ ps) (sym same)
      | false ↦ λ e.
          let apart = eqb-false p a e in
          let low = up.0 in
          let up' : Ascends (a + 1) (p ∷ ps) = (omega (arith, apart, low), up.1) in
          let here : is_among (p ∷ ps) a ≡ false = rw e (among_below (suc p) ps a up.1 (omega (arith, low))) in
          ap (λ (b : Bool). cond b (a ∷ filter (is_among (p ∷ ps)) (range_with_len (a + 1) n)) (filter (is_among (p ∷ ps)) (range_with_len (a + 1) n))) here
          ∙ filtered (a + 1) n (p ∷ ps) up' (moved a n (p ∷ ps) within)
    ] refl

same_bound : (m n : ℕ) (xs : List ℕ) → m ≡ n → AllByRecursion (λ p. p < m) xs → AllByRecursion (λ p. p < n) xs
same_bound m n xs e all = subst (λ (k : ℕ). AllByRecursion (λ p. p < k) xs) e all

pub selected_of_all : (s : Positions) → IsSelection s → filter (is_among s.list) (range_with_len 0 s.below) ≡ s.list
selected_of_all s sound = filtered 0 s.below s.list (ascends s.list sound.ascending) (same_bound s.below (0 + s.below) s.list (omega arith) (recursion_from_All (λ p. p < s.below) s.list sound.within))

few_filtered : (f : ℕ → Bool) (a n : ℕ) → length (filter f (range_with_len a n)) ≤ n
few_filtered f a zero = omega arith
few_filtered f a (suc n) =
    let rest = few_filtered f (a + 1) n in
    elim (f a) as (λ b. length (cond b (a ∷ filter f (range_with_len (a + 1) n)) (filter f (range_with_len (a + 1) n))) ≤ suc n) [
      | true ↦ omega (arith, rest)
      | false ↦ omega (arith, rest)
    ]

pub few_selected : (s : Positions) → IsSelection s → length s.list ≤ s.below
few_selected s sound = subst (λ (xs : List ℕ). length xs ≤ s.below) (selected_of_all s sound) (few_filtered (is_among s.list) 0 s.below)

-- ---- what is read there

map_as : {X : Type 0} (f g : ℕ → X) (xs : List ℕ) → ((i : ℕ) → is_among xs i ≡ true → f i ≡ g i) → map f xs ≡ map g xs
map_as f g [] same = refl
map_as {X} f g (x ∷ xs) same =
    ap (λ (y : X). y ∷ map f xs) (same x (rw (eq-eqb x x refl) refl))
    ∙ ap (λ (ys : List X). g x ∷ ys) (map_as f g xs (λ i among. same i (or_second (eqb x i) (is_among xs i) among)))

one_or_none : {X : Type 0} (f : ℕ → Bool) (h : ℕ → X) (xs : List ℕ) → flat_map (λ i. if f i then h i ∷ [] else []) xs ≡ map h (filter f xs)
one_or_none f h [] = refl
one_or_none {X} f h (x ∷ xs) =
    elim (f x) as (λ b. (if b then h x ∷ [] else []) ++ flat_map (λ i. if f i then h i ∷ [] else []) xs ≡ map h (cond b (x ∷ filter f xs) (filter f xs))) [
      | true ↦ ap (λ (ys : List X). h x ∷ ys) (one_or_none f h xs)
      | false ↦ one_or_none f h xs
    ]

-- what is read at the selected positions, one by one, and at all positions in turn
pub read_in_turn : {X : Type 0} (s : Positions) (h g : ℕ → X) → IsSelection s → ((i : ℕ) → is_among s.list i ≡ true → h i ≡ g i)
    → flat_map (λ i. if is_among s.list i then h i ∷ [] else []) (range_with_len 0 s.below) ≡ map g s.list
read_in_turn s h g sound same =
    one_or_none (is_among s.list) h (range_with_len 0 s.below) ∙ ap (map h) (selected_of_all s sound) ∙ map_as h g s.list same
