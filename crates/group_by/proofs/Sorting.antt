-- Groups whose keys are sorted before the groups are made.
use Rattle.std.specs.Prelude.{◌≡◌, ◌⊎◌, ℕ, zero, suc, ◌+◌, ◌-◌, ◌<◌, min, Bool, true, false, cond, not, ◌&&◌, List, [], ◌∷◌, ◌++◌, length, map, filter, reverse, take, drop, get_or, All, IsPermutation}
use Rattle.std.specs.List.{range_with_len}
use Rattle.std.specs.List.Sorted.{IsStableBy, ties}
use Rattle.std.specs.Ordering.{eq_by_cmp, is_eq, is_lt, ordering_reverse}
use Rattle.std.specs.declared.cmp.Ordering.{Ordering}
use Rattle.std.specs.declared.cmp.Ordering.TheVariants.{Less, Equal, Greater}
use Rattle.std.proofs.Common.{refl, sym, ap, subst, ◌∙◌, arith, inl, inr}
use Rattle.std.proofs.lemmas.List.{length-map, get_or-map, map-id, map_push, take-map, drop-map}
use Rattle.std.proofs.lemmas.List.FromFn.{length-range_with_len, get_or-range_with_len}
use Rattle.std.proofs.lemmas.List.Sorted.{All-permutation, IsPermutation-map, IsPermutation-reverse, IsPermutation-sym, IsPermutation-trans}
use Rattle.std.proofs.lemmas.Simd.{map-map}
use Rattle.meaning.specs.declared.answer.Group.{Group}
use Rattle.meaning.specs.Order.{Row, row_cmp}
use Rattle.meaning.specs.Group.{beside, merge_groups}
use Rattle.meaning.proofs.Orders.{row_exact, row_total}
use Rattle.accumulators.specs.Columns.{ColumnSpec}
use Rattle.group_keys.specs.Keys.{DoAscend}
use Rattle.group_by.specs.Combined.{combined, put_before, IsInOrder, Rises, SameBeside}
use Rattle.group_by.specs.KeyOrder.{group_in, groups_at, key_near, AreApart, AreOrdered, AreSorted}
use Rattle.group_by.specs.GroupIndexes.{by_group_index, group_at}
use Rattle.group_by.proofs.Combining.{reverse_cons, tie}

map_reverse : {X Y : Type 0} (f : X → Y) (xs : List X) → map f (reverse xs) ≡ reverse (map f xs)
map_reverse f [] = refl
map_reverse {Y = Y} f (x ∷ xs) =
    ap (map f) (reverse_cons x xs) ∙ map_push f (reverse xs) x ∙ ap (λ (ys : List Y). ys ++ f x ∷ []) (map_reverse f xs) ∙ sym (reverse_cons (f x) (map f xs))

map_same : {X Y : Type 0} (f g : X → Y) (xs : List X) → All (λ x. f x ≡ g x) xs → map f xs ≡ map g xs
map_same f g [] all = refl
map_same f g (x ∷ xs) all = λ i. all 0 x (omega arith) i ∷ map_same f g xs (λ j d l. all (suc j) d (omega (arith, l))) i

-- ---- a stable sort keeps the order of the groups of each key

pub equal_is : (o : Ordering) → is_eq o ≡ true → o ≡ Equal
equal_is Less e = cc
equal_is Equal e = refl
equal_is Greater e = cc

module _ {X : Type 0} (f : X → Group) (key : X → Row) (keyed : (x : X) → (f x).key ≡ key x) where
  abbrev lt : X → X → Bool
  lt x y = is_lt (row_cmp (key x) (key y))

  abbrev tagged : List X → List (Row × Group)
  tagged xs = map (λ (g : Group). (g.key, g)) (map f xs)

  -- those of a key are those that tie with one that has it
  tied_beside : (q : X) (xs : List X) → beside (key q) (tagged xs) ≡ map f (filter (ties lt q) xs)
  tied_beside q [] = refl
  tied_beside q (x ∷ xs) =
      let k = key q in
      let rest = filter (λ (t : Row × Group). eq_by_cmp row_cmp k t.0) (tagged xs) in
      let ones = filter (ties lt q) xs in
      let same : eq_by_cmp row_cmp k (f x).key ≡ ties lt q x =
      ap (eq_by_cmp row_cmp k) (keyed x) ∙ sym (ap (λ r. not (is_lt (row_cmp k (key x))) && not (is_lt r)) (row_total.antisymm (key x) k) ∙ tie (row_cmp k (key x))) in
      ap (λ b. map (λ (t : Row × Group). t.1) (cond b (((f x).key, f x) ∷ rest) rest)) same
      ∙ elim (ties lt q x) as (λ b. map (λ (t : Row × Group). t.1) (cond b (((f x).key, f x) ∷ rest) rest) ≡ map f (cond b (x ∷ ones) ones)) [
        | true ↦ ap (λ (gs : List Group). f x ∷ gs) (tied_beside q xs)
        | false ↦ tied_beside q xs
      ]

  -- one has the key, or none stands beside it
  either : (k : Row) (xs : List X) → ((q : X) × (k ≡ key q)) ⊎ (beside k (tagged xs) ≡ [])
  either k [] = inr refl
  either k (x ∷ xs) =
      let rest = filter (λ (t : Row × Group). eq_by_cmp row_cmp k t.0) (tagged xs) in
      elim (eq_by_cmp row_cmp k (key x)) as (λ b. eq_by_cmp row_cmp k (key x) ≡ b → ((q : X) × (k ≡ key q)) ⊎ (beside k (tagged (x ∷ xs)) ≡ [])) [
        | true ↦ λ e. inl (x, row_exact k (key x) (equal_is (row_cmp k (key x)) e))
        | false ↦ λ e. elim (either k xs) [
          | inl h ↦ inl h
          | inr none ↦ inr (ap (λ b. map (λ (t : Row × Group). t.1) (cond b (((f x).key, f x) ∷ rest) rest)) (ap (eq_by_cmp row_cmp k) (keyed x) ∙ e) ∙ none)
        ]
      ] refl

  beside_stable : (old new : List X) → IsStableBy lt old new → SameBeside (map f old) (map f new)
  beside_stable old new stable k =
      let by : (q : X) → k ≡ key q → beside k (tagged new) ≡ beside k (tagged old) = λ q is.
      ap (λ r. beside r (tagged new)) is ∙ tied_beside q new ∙ ap (map f) (stable q) ∙ sym (tied_beside q old) ∙ ap (λ r. beside r (tagged old)) (sym is) in
      elim (either k new) [
        | inl h ↦ by h.0 h.1
        | inr none ↦ elim (either k old) [
          | inl h ↦ by h.0 h.1
          | inr none_old ↦ none ∙ sym none_old
        ]
      ]

-- ---- elements that are sorted, each with a key and its group index

module _ {X : Type 0} (keys : List Row) (key : X → Row) (index : X → ℕ) (first reversed new : List X)
    (indexes : map index first ≡ range_with_len 0 (length keys)) (right : All (λ x. key x ≡ get_or keys (index x) []) first) (back : reversed ≡ reverse first)
    (stable : IsStableBy (λ x y. is_lt (row_cmp (key x) (key y))) reversed new) (moved : IsPermutation reversed new) where
  from_first : IsPermutation first new
  from_first = IsPermutation-trans first reversed new (subst (λ (xs : List X). IsPermutation first xs) (sym back) (IsPermutation-reverse first)) moved

  module _ (rows : List ℕ) (columns : List ColumnSpec) where
    abbrev group : X → Group
    group x = group_at rows columns (key x) (index x)

    groups_are : (xs : List X) → All (λ x. key x ≡ get_or keys (index x) []) xs → map group xs ≡ groups_at keys rows columns (map index xs)
    groups_are xs are =
        map_same group (λ x. group_in keys rows columns (index x)) xs (λ j d l. ap (λ (r : Row). group_at rows columns r (index (get_or xs j d))) (are j d l))
        ∙ sym (map-map (group_in keys rows columns) index xs)

    sorted_beside : SameBeside (reverse (by_group_index keys rows columns)) (groups_at keys rows columns (map index new))
    sorted_beside =
        let before : map group reversed ≡ reverse (by_group_index keys rows columns) =
        ap (map group) back ∙ map_reverse group first ∙ ap reverse (groups_are first right ∙ ap (groups_at keys rows columns) indexes) in
        let after : map group new ≡ groups_at keys rows columns (map index new) =
        groups_are new (All-permutation (λ x. key x ≡ get_or keys (index x) []) first new from_first right) in
        subst (λ (p : List Group × List Group). SameBeside p.0 p.1) (λ i. (before i, after i)) (beside_stable group key (λ x. refl) reversed new stable)

  pub sorted_by : AreSorted keys (map index new)
  sorted_by = record {
    beside = sorted_beside;
    moved = subst (λ (order : List ℕ). IsPermutation order (map index new)) indexes (IsPermutation-map index first new from_first);
  }

-- ---- group indexes as they stand

pub range_within : (n : ℕ) → All (λ (i : ℕ). i < n) (range_with_len 0 n)
range_within n j d l =
    let here : j < n = subst (λ (m : ℕ). j < m) (length-range_with_len 0 n) l in
    let at = get_or-range_with_len 0 n j d here in
    omega (arith, at, here)

near_is : (keys : List Row) (i : ℕ) → i < length keys → key_near keys i ≡ get_or keys i []
near_is keys i here = let same : min i (length keys - 1) ≡ i = omega (arith, here) in ap (λ (n : ℕ). get_or keys n []) same

module _ (keys : List Row) (first reversed new : List ℕ) (indexes : first ≡ range_with_len 0 (length keys)) (back : reversed ≡ reverse first)
    (stable : IsStableBy (λ i j. is_lt (row_cmp (key_near keys i) (key_near keys j))) reversed new) (moved : IsPermutation reversed new) where
  pub rows_sorted : AreSorted keys new
  rows_sorted =
      let right : All (λ i. key_near keys i ≡ get_or keys i []) first =
      λ j d l. near_is keys (get_or first j d) (subst (λ (is : List ℕ). All (λ (i : ℕ). i < length keys) is) (sym indexes) (range_within (length keys)) j d l) in
      subst (λ (order : List ℕ). AreSorted keys order) (map-id new)
      (sorted_by keys (key_near keys) (λ (i : ℕ). i) first reversed new (map-id first ∙ indexes) right back stable moved)

-- ---- groups whose keys are apart

abbrev pub AreUp : List Group → Type 0
AreUp gs = (k : ℕ) (d : Group) → k + 1 < length gs → is_lt (row_cmp (get_or gs k d).key (get_or gs (k + 1) d).key) ≡ true

pub not_equal : (r : Ordering) → is_lt r ≡ true → is_eq r ≡ false
not_equal Less e = refl
not_equal Equal e = cc
not_equal Greater e = cc

not_back : (r : Ordering) → is_lt r ≡ true → is_lt (ordering_reverse r) ≡ false
not_back Less e = refl
not_back Equal e = cc
not_back Greater e = cc

pub next_up : (g : Group) (gs : List Group) → AreUp (g ∷ gs) → AreUp gs
next_up g gs up k d l =
    let later : suc k + 1 ≡ suc (k + 1) = omega arith in
    sym (ap (λ n. is_lt (row_cmp (get_or gs k d).key (get_or (g ∷ gs) n d).key)) later) ∙ up (suc k) d (omega (arith, l))

pub first_up : (g h : Group) (gs : List Group) → AreUp (g ∷ h ∷ gs) → is_lt (row_cmp g.key h.key) ≡ true
first_up g h gs up = up 0 g (omega arith)

pub combined_up_is : (gs : List Group) → AreUp gs → combined gs ≡ gs
combined_up_is [] up = refl
combined_up_is (g ∷ []) up = refl
combined_up_is (g ∷ h ∷ gs) up =
    ap (put_before g) (combined_up_is (h ∷ gs) (next_up g (h ∷ gs) up))
    ∙ ap (λ b. cond b (merge_groups g h ∷ gs) (g ∷ h ∷ gs)) (not_equal (row_cmp g.key h.key) (first_up g h gs up))

pub rises_up : (gs : List Group) → AreUp gs → Rises (map (λ (g : Group). g.key) gs)
rises_up [] up = tt
rises_up (g ∷ []) up = tt
rises_up (g ∷ h ∷ gs) up = (
  ap is_lt (row_total.antisymm h.key g.key) ∙ not_back (row_cmp g.key h.key) (first_up g h gs up),
  rises_up (h ∷ gs) (next_up g (h ∷ gs) up),
)

pub apart_up : (keys : List Row) (rows : List ℕ) (columns : List ColumnSpec) (order : List ℕ) → AreApart keys order → AreUp (groups_at keys rows columns order)
apart_up keys rows columns order apart k d l =
    let f = group_in keys rows columns in
    let next : k + 1 < length order = subst (λ (n : ℕ). k + 1 < n) (length-map order f) l in
    let one : (get_or (map f order) k d).key ≡ get_or keys (get_or order k 0) [] = ap (λ (g : Group). g.key) (get_or-map f order k 0 d (omega (arith, next))) in
    let two : (get_or (map f order) (k + 1) d).key ≡ get_or keys (get_or order (k + 1) 0) [] = ap (λ (g : Group). g.key) (get_or-map f order (k + 1) 0 d next) in
    (λ i. is_lt (row_cmp (one i) (two i))) ∙ apart k 0 next

-- keys that ascend are apart as they stand
pub ascend_apart : (keys : List Row) → DoAscend keys → AreApart keys (range_with_len 0 (length keys))
ascend_apart keys ascend k d l =
    let n = length keys in
    let here : k + 1 < n = subst (λ (m : ℕ). k + 1 < m) (length-range_with_len 0 n) l in
    let one : get_or (range_with_len 0 n) k d ≡ k = (let at = get_or-range_with_len 0 n k d (omega (arith, here)) in omega (arith, at)) in
    let two : get_or (range_with_len 0 n) (k + 1) d ≡ k + 1 = (let at = get_or-range_with_len 0 n (k + 1) d here in omega (arith, at)) in
    (λ i. is_lt (row_cmp (get_or keys (one i) []) (get_or keys (two i) []))) ∙ ascend k [] here

-- ---- sorted group indexes

module _ (keys : List Row) (order : List ℕ) (are : AreSorted keys order) where
  pub sorted_within : All (λ (i : ℕ). i < length keys) order
  sorted_within = All-permutation (λ (i : ℕ). i < length keys) (range_with_len 0 (length keys)) order are.moved (range_within (length keys))

  module _ (apart : AreApart keys order) where
    in_sorted_order : (rows : List ℕ) (columns : List ColumnSpec) → IsInOrder keys rows columns (groups_at keys rows columns order)
    in_sorted_order rows columns =
        let b = by_group_index keys rows columns in
        let f = group_in keys rows columns in
        let up = apart_up keys rows columns order apart in
        record {
          sorted = map f order;
          beside = are.beside rows columns;
          rises = rises_up (map f order) up;
          moved = IsPermutation-trans (reverse b) b (map f order) (IsPermutation-sym b (reverse b) (IsPermutation-reverse b)) (IsPermutation-map f (range_with_len 0 (length keys)) order are.moved);
          are = sym (combined_up_is (map f order) up);
        }

    pub sorted_ordered : AreOrdered keys order
    sorted_ordered = record { groups = in_sorted_order; within = sorted_within }

-- some of the groups
pub some_mapped : {X Y : Type 0} (f : X → Y) (xs : List X) (from n : ℕ) → map f (take n (drop from xs)) ≡ take n (drop from (map f xs))
some_mapped f xs from n = sym (take-map f n (drop from xs)) ∙ ap (take n) (sym (drop-map f from xs))
