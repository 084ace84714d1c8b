-- Lanes that are marked, as positions.
use Rattle.std.specs.Prelude.{◌≡◌, ℕ, ◌<◌, ◌==◌, ◌&&◌, Bool, true, false, not, cond, if◌then◌else◌, List, [], ◌∷◌, length, filter, find, replicate, get_or, Option, Some, None, Result, Ok, Err, IfOk}
use Rattle.std.specs.List.{range_with_len, AllByRecursion}
use Rattle.std.specs.List.Sorted.{IsStrictlySortedBy}
use Rattle.std.specs.Ordering.{nat_cmp}
use Rattle.std.specs.declared.cmp.Ordering.TheVariants.{Less}
use Rattle.std.proofs.Common.{refl, sym, ap, arith, ◌∙◌, subst, inl, inr}
use Rattle.std.proofs.lemmas.Map.Keys.{sorted_from_strictly_increasing}
use Rattle.std.proofs.lemmas.List.{get_or-replicate}
use Rattle.std.proofs.lemmas.List.Elements.{All-from_recursion, recursion_from_All}
use Rattle.std.proofs.lemmas.List.Kept.{IsStrictlyIncreasing-filter}
use Rattle.std.proofs.lemmas.Bool.{eqb-true, eqb-false}
use Rattle.meaning.proofs.Tests.{both, first_of, second_of, or_second}
use Rattle.vectors.specs.Selection.{IsMask, IsSelection, Positions, all_below, is_among, without}
use Rattle.vectors.proofs.Positions.{all_are_selection, full_mask}
use Rattle.lane_loops.specs.Lanes.{AreLanes, is_flag, is_flagged, null_at}
use Rattle.vector_operators.specs.Given.{AreNarrowed}
use Rattle.vector_operators.specs.LaneSets.{MarkWhere, lanes_in, marked}
use Rattle.vector_operators.proofs.Among.{all_among, filter_stays, filter_stood, flagged_within, or_cases, within_among, self_among, less_is}

same_bool : (a b : Bool) → (a ≡ true → b ≡ true) → (b ≡ true → a ≡ true) → a ≡ b
same_bool true true to from = refl
same_bool true false to from = sym (to refl)
same_bool false true to from = from refl
same_bool false false to from = refl

-- ---- ascending positions are determined by what is among them

not_among : (x : ℕ) (xs : List ℕ) → AllByRecursion (λ y. nat_cmp x y ≡ Less) xs → is_among xs x ≡ true → ⊥
not_among x xs later among = let self : x < x = less_is x x (all_among (λ y. nat_cmp x y ≡ Less) xs x later among) in omega (arith, self)

among_tail : (x i : ℕ) (xs : List ℕ) → (x ≡ i → ⊥) → is_among (x ∷ xs) i ≡ true → is_among xs i ≡ true
among_tail x i xs apart among = elim (or_cases (x == i) (is_among xs i) among) [
  | inl here ↦ absurd (apart (eqb-true x i here))
  | inr behind ↦ behind
]

unique : (xs ys : List ℕ) → IsStrictlySortedBy nat_cmp xs → IsStrictlySortedBy nat_cmp ys
    → ((i : ℕ) → is_among xs i ≡ true → is_among ys i ≡ true) → ((i : ℕ) → is_among ys i ≡ true → is_among xs i ≡ true) → xs ≡ ys
unfolding IsStrictlySortedBy
unique [] [] a b to from = refl
unique [] (y ∷ ys) a b to from = absurd (let h = from y (self_among y ys) in cc)
unique (x ∷ xs) [] a b to from = absurd (let h = to x (self_among x xs) in cc)
unique (x ∷ xs) (y ∷ ys) a b to from = elim (x == y) as (λ t. x == y ≡ t → x ∷ xs ≡ y ∷ ys) [
  | true ↦ λ e.
      let same : x ≡ y = eqb-true x y e in
      let tails : xs ≡ ys = unique xs ys a.1 b.1
      (λ i among. among_tail y i ys (λ at. not_among x xs a.0 (subst (λ (k : ℕ). is_among xs k ≡ true) (sym (same ∙ at)) among)) (to i (or_second (x == i) _ among)))
      (λ i among. among_tail x i xs (λ at. not_among y ys b.0 (subst (λ (k : ℕ). is_among ys k ≡ true) (sym (sym same ∙ at)) among)) (from i (or_second (y == i) _ among))) in
      (ap (λ (k : ℕ). k ∷ xs) same ∙ ap (λ (zs : List ℕ). y ∷ zs) tails)
  | false ↦ λ e.
      let apart : x ≡ y → ⊥ = eqb-false x y e in
      let x_there = among_tail y x ys (λ at. apart (sym at)) (to x (self_among x xs)) in
      let y_there = among_tail x y xs apart (from y (self_among y ys)) in
      let first : y < x = less_is y x (all_among (λ z. nat_cmp y z ≡ Less) ys x b.0 x_there) in
      let second : x < y = less_is x y (all_among (λ z. nat_cmp x z ≡ Less) xs y a.0 y_there) in
      absurd (omega (arith, first, second))
] refl

pub same_lists : (s t : Positions) → IsSelection s → IsSelection t
    → ((i : ℕ) → is_among s.list i ≡ true → is_among t.list i ≡ true) → ((i : ℕ) → is_among t.list i ≡ true → is_among s.list i ≡ true) → s.list ≡ t.list
same_lists s t a b to from = unique s.list t.list (sorted_from_strictly_increasing s.list a.ascending) (sorted_from_strictly_increasing t.list b.ascending) to from

-- ---- marks

all_kept : (P : ℕ → Type 0) (f : ℕ → Bool) (xs : List ℕ) → AllByRecursion P xs → AllByRecursion P (filter f xs)
all_kept P f [] all = all
all_kept P f (x ∷ xs) all = elim (f x) as (λ b. AllByRecursion P (cond b (x ∷ filter f xs) (filter f xs))) [
  | true ↦ (all.0, all_kept P f xs all.1)
  | false ↦ all_kept P f xs all.1
]

pub kept_is_selection : (f : ℕ → Bool) (s : Positions) → IsSelection s → IsSelection (record { below = s.below; list = filter f s.list })
kept_is_selection f s is = record {
  ascending = IsStrictlyIncreasing-filter f s.list is.ascending;
  within = All-from_recursion (λ p. p < s.below) (filter f s.list) (all_kept (λ p. p < s.below) f s.list (recursion_from_All (λ p. p < s.below) s.list is.within));
}

among_all : (n i : ℕ) → i < n → is_among (range_with_len 0 n) i ≡ true
among_all n i within = sym ((full_mask n (replicate n true) refl).reports i within) ∙ get_or-replicate n i true false within

module _ (n : ℕ) (mask : Option (List Bool)) where
  pub are_selection : IsSelection (lanes_in n mask)
  are_selection = kept_is_selection (marked mask) (all_below n) (all_are_selection n)

  pub marked_among : (i : ℕ) → i < n → marked mask i ≡ true → is_among (lanes_in n mask).list i ≡ true
  marked_among i within marks = filter_stays (marked mask) (range_with_len 0 n) i (among_all n i within) marks

  pub among_marked : (i : ℕ) → is_among (lanes_in n mask).list i ≡ true → marked mask i ≡ true
  among_marked i among = (filter_stood (marked mask) (range_with_len 0 n) i among).1

  pub among_below : (i : ℕ) → is_among (lanes_in n mask).list i ≡ true → i < n
  among_below i among = within_among n (lanes_in n mask).list i are_selection.within among

  pub mark_is : (i : ℕ) → i < n → marked mask i ≡ is_among (lanes_in n mask).list i
  mark_is i within = same_bool _ _ (marked_among i within) (among_marked i)

  -- a mask of the marks
  pub is_mask : (cells : List Bool) → AreLanes false n (marked mask) cells → IsMask (lanes_in n mask).list n cells
  is_mask cells are = record { long = are.long; reports = λ p below. are.each p below ∙ mark_is p below }

-- the marks of a selection
pub of_selection : (s : Positions) (mask : Option (List Bool)) → IsSelection s → MarkWhere s.below (is_among s.list) mask → lanes_in s.below mask ≡ s
of_selection s mask is marks = ap (λ (l : List ℕ). record { below = s.below; list = l }) lists where
  lists : (lanes_in s.below mask).list ≡ s.list
  lists = same_lists (lanes_in s.below mask) s (are_selection s.below mask) is
      (λ i among. sym (marks.each i (among_below s.below mask i among)) ∙ among_marked s.below mask i among)
      (λ i among. let within = within_among s.below s.list i is.within among in marked_among s.below mask i within (marks.each i within ∙ among))

pub all_where : (s : Positions) → s ≡ all_below s.below → MarkWhere s.below (is_among s.list) None
all_where s is = record { long = tt; each = λ i within. sym (ap (λ (t : Positions). is_among t.list i) is ∙ among_all s.below i within) }

pub mask_where : (s : Positions) (mask : List Bool) → IsMask s.list s.below mask → MarkWhere s.below (is_among s.list) (Some mask)
mask_where s mask is = record { long = is.long; each = λ i within. is.reports i within }

-- marks that a mask has too
pub narrowed_lanes : (n : ℕ) (old : Option (List Bool)) (mask out : List Bool) → AreLanes false n (λ i. marked old i && null_at mask i) out
    → AreNarrowed (λ i. null_at mask i) (lanes_in n old) (lanes_in n (Some out))
narrowed_lanes n old mask out are = record {
  below = refl;
  stays = λ i w passes. (w.0, marked_among n (Some out) i w.0 (are.each i w.0 ∙ both _ _ (among_marked n old i w.1) passes));
  stood = λ i w.
      let both = sym (are.each i w.0) ∙ among_marked n (Some out) i w.1 in
      ((w.0, marked_among n old i w.0 (first_of _ _ both)), second_of _ _ both);
}

not_true : (b : Bool) → not b ≡ true → b ≡ true → ⊥
not_true true p q = cc
not_true false p q = cc

-- lanes without others
pub lanes_without : (n : ℕ) (s t : Positions) (these those out : List Bool) → IsSelection s → s.below ≡ n → IsMask s.list n these → IsMask t.list n those
    → AreLanes false n (λ i. null_at these i && not (null_at those i)) out → lanes_in n (Some out) ≡ record { below = s.below; list = without s.list t.list }
lanes_without n s t these those out is below of_these of_those are =
    ap (λ (k : ℕ). record { below = k; list = (lanes_in n (Some out)).list }) (sym below) ∙ ap (λ (l : List ℕ). record { below = s.below; list = l }) lists where
      f : ℕ → Bool
      f p = not (is_among t.list p)

      mark_at : (i : ℕ) → i < n → marked (Some out) i ≡ (is_among s.list i && f i)
      mark_at i within = are.each i within ∙ ap (λ (b : Bool). b && not (null_at those i)) (of_these.reports i within) ∙ ap (λ (b : Bool). is_among s.list i && not b) (of_those.reports i within)

      lists : (lanes_in n (Some out)).list ≡ without s.list t.list
      lists = same_lists (lanes_in n (Some out)) (record { below = s.below; list = filter f s.list }) (are_selection n (Some out)) (kept_is_selection f s is)
          (λ i among.
          let both = sym (mark_at i (among_below n (Some out) i among)) ∙ among_marked n (Some out) i among in
          filter_stays f s.list i (first_of (is_among s.list i) (f i) both) (second_of (is_among s.list i) (f i) both))
          (λ i among.
          let stood = filter_stood f s.list i among in
          let within = subst (λ (k : ℕ). i < k) below (within_among s.below s.list i is.within stood.0) in
          marked_among n (Some out) i within (mark_at i within ∙ both (is_among s.list i) (f i) stood.0 stood.1))

pub is_mask_if : {M E : Type 0} (cells : M → List Bool) (n : ℕ) (mask : Option (List Bool)) (s : Positions) (result : Result M E) → s ≡ lanes_in n mask
    → IfOk result (λ m. AreLanes false n (marked mask) (cells m)) → IfOk result (λ m. IsMask s.list s.below (cells m))
is_mask_if cells n mask s (Ok m) is are = subst (λ (t : Positions). IsMask t.list t.below (cells m)) (sym is) (is_mask n mask (cells m) are)
is_mask_if cells n mask s (Err e) is are = tt

-- ---- flags of lanes

-- the first that passes is among those that are kept
find_kept : (f m : ℕ → Bool) (xs : List ℕ) → ((i : ℕ) → f i ≡ true → m i ≡ true) → find f xs ≡ find f (filter m xs)
find_kept f m [] keeps = refl
find_kept f m (x ∷ xs) keeps = elim (m x) as (λ b. m x ≡ b → cond (f x) (Some x) (find f xs) ≡ find f (cond b (x ∷ filter m xs) (filter m xs))) [
  | true ↦ λ e. ap (λ (o : Option ℕ). cond (f x) (Some x) o) (find_kept f m xs keeps)
  | false ↦ λ e. elim (f x) as (λ b. f x ≡ b → cond b (Some x) (find f xs) ≡ find f (filter m xs)) [
    | true ↦ λ p. absurd (let q = sym (keeps x p) ∙ e in cc)
    | false ↦ λ p. find_kept f m xs keeps
  ] refl
] refl

-- a selection is what is among it
listed : (s : Positions) → IsSelection s → filter (is_among s.list) (range_with_len 0 s.below) ≡ s.list
listed s is = same_lists (record { below = s.below; list = filter (is_among s.list) (range_with_len 0 s.below) }) s (kept_is_selection (is_among s.list) (all_below s.below) (all_are_selection s.below)) is
    (λ i among. (filter_stood (is_among s.list) (range_with_len 0 s.below) i among).1)
    (λ i among. filter_stays (is_among s.list) (range_with_len 0 s.below) i (among_all s.below i (within_among s.below s.list i is.within among)) among)

-- where lanes that aren't selected have no flag, the first flag is the first that is selected
pub first_selected : (s : Positions) (flags : List ℕ) → IsSelection s → length flags ≡ s.below
    → ((i : ℕ) → i < s.below → is_among s.list i ≡ false → get_or flags i 0 ≡ 0)
    → find (is_flagged flags) (range_with_len 0 (length flags)) ≡ find (is_flagged flags) s.list
first_selected s flags is long none =
    ap (λ (n : ℕ). find (is_flagged flags) (range_with_len 0 n)) long
    ∙ find_kept (is_flagged flags) (is_among s.list) (range_with_len 0 s.below) keeps
    ∙ ap (find (is_flagged flags)) (listed s is) where
      keeps : (i : ℕ) → is_flagged flags i ≡ true → is_among s.list i ≡ true
      keeps i flagged = elim (is_among s.list i) as (λ b. is_among s.list i ≡ b → b ≡ true) [
        | true ↦ λ e. refl
        | false ↦ λ e.
            let within : i < s.below = subst (λ (k : ℕ). i < k) long (flagged_within flags i flagged) in
            let zero_there : get_or flags i 0 ≡ 0 = none i within e in
            absurd (let h : is_flag (get_or flags i 0) ≡ false = ap (λ (k : ℕ). is_flag k) zero_there in let both = sym flagged ∙ h in cc)
      ] refl

-- flags of lanes that are marked are flags of those that are selected
pub flags_kept : (n : ℕ) (mask : Option (List Bool)) (s : Positions) (flags out : List ℕ) → s ≡ lanes_in n mask → length flags ≡ s.below
    → AreLanes 0 (length flags) (λ i. if marked mask i then get_or flags i 0 else 0) out
    → AreLanes 0 (length flags) (λ i. if is_among s.list i then get_or flags i 0 else 0) out
flags_kept n mask s flags out is long are = record { long = are.long; each = each } where
  below : length flags ≡ n
  below = long ∙ ap (λ (t : Positions). t.below) is

  each : (i : ℕ) → i < length flags → get_or out i 0 ≡ (if is_among s.list i then get_or flags i 0 else 0)
  each i within =
      are.each i within
      ∙ ap (λ (b : Bool). if b then get_or flags i 0 else 0) (mark_is n mask i (subst (λ (k : ℕ). i < k) below within) ∙ ap (λ (t : Positions). is_among t.list i) (sym is))
