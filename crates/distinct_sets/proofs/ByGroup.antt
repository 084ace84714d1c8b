-- Entries in the order of their groups: those of one group stand together.
use Rattle.std.specs.Prelude.{◌≡◌, ℕ, zero, suc, ◌-◌, ◌<◌, ◌≤◌, ◌==◌, Bool, true, false, cond, ◌&&◌, ◌||◌, List, [], ◌∷◌, ◌++◌, length, map, filter, take, drop, get_or, IsPermutation, Result, Ok, Err, IfOk}
use Rattle.std.specs.Borrow.{Bor}
use Rattle.std.specs.List.{list_all, list_any, range_with_len, AllByRecursion, AllWithin}
use Rattle.std.specs.List.Sorted.{IsPartitionPoint}
use Rattle.std.proofs.Common.{refl, sym, ap, ◌∙◌, arith}
use Rattle.std.proofs.Math.Dec.{ltb, leb}
use Rattle.std.proofs.lemmas.Bool.{leb-true, leb-false, ltb-true, ltb-false}
use Rattle.std.proofs.lemmas.List.{append-nil, length-drop, map-append, take_all}
use Rattle.std.proofs.lemmas.List.Elements.{All-from_recursion, recursion_from_All}
use Rattle.std.proofs.lemmas.List.FromFn.{get_or-map-range_with_len, length-map-range_with_len}
use Rattle.std.proofs.lemmas.List.Sorted.{list_any-IsPermutation, All-permutation}
use Rattle.meaning.specs.declared.value.Value.{Value}
use Rattle.meaning.specs.declared.answer.Statistics.{Statistics}
use Rattle.meaning.specs.Aggregate.{no_statistics}
use Rattle.meaning.specs.Order.{ascending_set, same_value, value_cmp}
use Rattle.meaning.proofs.Orders.{value_total, value_exact}
use Rattle.meaning.proofs.Sets.{same_ascending_set}
use Rattle.meaning.proofs.Tests.{both}
use Rattle.aggregate_states.specs.Kinds.{set_state}
use Rattle.aggregate_states.specs.Values.{is_spelled}
use Rattle.distinct_sets.specs.declared.entry.Entry.{Entry}
use Rattle.distinct_sets.specs.Sets.{has, in_group, lent, set_at, sets_of, values_of_lent, AreFrom, IsSets, RisesByGroup}
use Rattle.distinct_sets.proofs.Places.{other, other_above}
use Rattle.distinct_sets.proofs.Entering.{all_imply, all_own, in_group-append}

module _ {X : Type 0} (P : X → Type 0) where
  taken : (xs : List X) (i : ℕ) → i ≤ length xs → AllWithin P xs 0 i → AllByRecursion P (take i xs)
  taken [] zero l all = tt
  taken [] (suc i) l all = tt
  taken (x ∷ xs) zero l all = tt
  taken (x ∷ xs) (suc i) l all = (all 0 x (omega arith) (omega arith), taken xs i (omega (arith, l)) (λ k d low high. all (suc k) d (omega arith) (omega (arith, high))))

  dropped : (xs : List X) (i : ℕ) → AllWithin P xs i (length xs) → AllByRecursion P (drop i xs)
  dropped [] zero all = tt
  dropped [] (suc i) all = tt
  dropped (x ∷ xs) zero all = (all 0 x (omega arith) (omega arith), dropped xs zero (λ k d low high. all (suc k) d (omega arith) (omega (arith, high))))
  dropped (x ∷ xs) (suc i) all = dropped xs i (λ k d low high. all (suc k) d (omega (arith, low)) (omega (arith, high)))

parts : {X : Type 0} (xs : List X) (i : ℕ) → xs ≡ take i xs ++ drop i xs
parts [] zero = refl
parts [] (suc i) = refl
parts (x ∷ xs) zero = refl
parts {X} (x ∷ xs) (suc i) = ap (λ (ys : List X). x ∷ ys) (parts xs i)

pub behind_all : {X : Type 0} (xs : List X) (i : ℕ) → take (length xs - i) (drop i xs) ≡ drop i xs
behind_all xs i = let long = length-drop i xs in take_all (length xs - i) (drop i xs) (omega (arith, long))

-- none of the group
none_of : (g : ℕ) (bs : List (Bor Entry)) → AllByRecursion (λ b. (b.now.group_index == g) ≡ false) bs → in_group g (lent bs) ≡ []
none_of g [] all = refl
none_of g (b ∷ bs) all =
    let rest = filter (λ (e : Entry). e.group_index == g) (lent bs) in
    ap (λ t. map (λ (e : Entry). e.value) (cond t (b.now ∷ rest) rest)) all.0 ∙ none_of g bs all.1

lent_values : (bs : List (Bor Entry)) → map (λ (e : Entry). e.value) (lent bs) ≡ values_of_lent bs
lent_values [] = refl
lent_values (b ∷ bs) = ap (λ (vs : List Value). b.now.value ∷ vs) (lent_values bs)

lent_all : (P : Entry → Type 0) (bs : List (Bor Entry)) → AllByRecursion (λ b. P b.now) bs → AllByRecursion P (lent bs)
lent_all P [] all = tt
lent_all P (b ∷ bs) all = (all.0, lent_all P bs all.1)

in_parts : (g : ℕ) (bs : List (Bor Entry)) (i : ℕ) → in_group g (lent bs) ≡ in_group g (lent (take i bs)) ++ in_group g (lent (drop i bs))
in_parts g bs i =
    ap (λ cs. in_group g (lent cs)) (parts bs i) ∙ ap (in_group g) (map-append (λ (b : Bor Entry). b.now) (take i bs) (drop i bs))
    ∙ in_group-append g (lent (take i bs)) (lent (drop i bs))

module _ (g : ℕ) (bs : List (Bor Entry)) (i : ℕ) (bound : i ≤ length bs) where
  -- what stands before the group
  pub from_there : IsPartitionPoint (λ b. ltb b.now.group_index g ≡ true) (λ b. ltb b.now.group_index g ≡ false) bs i → in_group g (lent (drop i bs)) ≡ in_group g (lent bs)
  from_there point = sym (in_parts g bs i ∙ ap (λ vs. vs ++ in_group g (lent (drop i bs)))
      (none_of g (take i bs) (all_imply (λ b. ltb b.now.group_index g ≡ true) (λ b. (b.now.group_index == g) ≡ false) (λ b e. other b.now.group_index g (ltb-true b.now.group_index g e)) (take i bs)
      (taken (λ b. ltb b.now.group_index g ≡ true) bs i bound point.0))))

  pub are_from : IsPartitionPoint (λ b. ltb b.now.group_index g ≡ true) (λ b. ltb b.now.group_index g ≡ false) bs i → AreFrom g (drop i bs)
  are_from point = all_imply (λ b. ltb b.now.group_index g ≡ false) (λ b. g ≤ b.now.group_index) (λ b e. ltb-false b.now.group_index g e) (drop i bs)
      (dropped (λ b. ltb b.now.group_index g ≡ false) bs i point.1)

  -- and behind it
  pub up_to : AreFrom g bs → IsPartitionPoint (λ b. leb b.now.group_index g ≡ true) (λ b. leb b.now.group_index g ≡ false) bs i → values_of_lent (take i bs) ≡ in_group g (lent bs)
  up_to from point = sym (
      in_parts g bs i
      ∙ ap (λ vs. in_group g (lent (take i bs)) ++ vs) (none_of g (drop i bs)
      (all_imply (λ b. leb b.now.group_index g ≡ false) (λ b. (b.now.group_index == g) ≡ false) (λ b e. let l = leb-false b.now.group_index g e in other_above b.now.group_index g (omega (arith, l))) (drop i bs)
      (dropped (λ b. leb b.now.group_index g ≡ false) bs i point.1)))
      ∙ append-nil (in_group g (lent (take i bs)))
      ∙ all_own g (lent (take i bs)) (lent_all (λ e. e.group_index ≡ g) (take i bs) (own bs i from (taken (λ b. leb b.now.group_index g ≡ true) bs i bound point.0)))
      ∙ lent_values (take i bs))
    where
      own : (cs : List (Bor Entry)) (k : ℕ) → AreFrom g cs → AllByRecursion (λ b. leb b.now.group_index g ≡ true) (take k cs) → AllByRecursion (λ b. b.now.group_index ≡ g) (take k cs)
      own [] zero from low = tt
      own [] (suc k) from low = tt
      own (b ∷ cs) zero from low = tt
      own (b ∷ cs) (suc k) from low =
          let below = leb-true b.now.group_index g low.0 in
          (omega (arith, below, from.0), own cs k from.1 low.1)

pub rises_from_there : (bs : List (Bor Entry)) (i : ℕ) → RisesByGroup bs → RisesByGroup (drop i bs)
rises_from_there [] zero up = up
rises_from_there [] (suc i) up = up
rises_from_there (b ∷ bs) zero up = up
rises_from_there (b ∷ bs) (suc i) up = rises_from_there bs i (λ k j d le lt. up (suc k) (suc j) d (omega (arith, le)) (omega (arith, lt)))

-- ---- sets don't depend on the order of entries

abbrev counts : ℕ → Value → Entry → Bool
counts g q e = (e.group_index == g) && same_value q e.value

has_in_group : (g : ℕ) (q : Value) (entries : List Entry) → has q (in_group g entries) ≡ list_any (counts g q) entries
has_in_group g q [] = refl
has_in_group g q (e ∷ entries) =
    let rest = filter (λ (f : Entry). f.group_index == g) entries in
    elim (e.group_index == g) as (λ b. has q (map (λ (f : Entry). f.value) (cond b (e ∷ rest) rest)) ≡ ((b && same_value q e.value) || list_any (counts g q) entries)) [
      | true ↦ ap (λ b. same_value q e.value || b) (has_in_group g q entries)
      | false ↦ has_in_group g q entries
    ]

module _ (xs ys : List Entry) (moved : IsPermutation xs ys) where
  set_moved : (g : ℕ) → set_at ys g ≡ set_at xs g
  set_moved g = ap set_state (same_ascending_set value_total value_exact (in_group g ys) (in_group g xs)
      (λ q. has_in_group g q ys ∙ sym (list_any-IsPermutation (counts g q) xs ys moved) ∙ sym (has_in_group g q xs)))

  pub sets_moved : (groups : ℕ) → sets_of groups ys ≡ sets_of groups xs
  sets_moved groups = each (range_with_len 0 groups)
    where
      each : (ns : List ℕ) → map (set_at ys) ns ≡ map (set_at xs) ns
      each [] = refl
      each (n ∷ ns) = λ i. set_moved n i ∷ each ns i

  all_moved : (P : Entry → Type 0) → AllByRecursion P xs → AllByRecursion P ys
  all_moved P all = recursion_from_All P ys (All-permutation P xs ys moved (All-from_recursion P xs all))

  pub are_moved : (groups : ℕ) → IsSets groups xs → IsSets groups ys
  are_moved groups sets = record {
    within = all_moved (λ e. e.group_index < groups) sets.within;
    spelled = all_moved (λ e. is_spelled e.value ≡ true) sets.spelled;
  }

pub spelled_in_group : (g : ℕ) (entries : List Entry) → AllByRecursion (λ e. is_spelled e.value ≡ true) entries → list_all is_spelled (in_group g entries) ≡ true
spelled_in_group g [] all = refl
spelled_in_group g (e ∷ entries) all =
    let rest = filter (λ (f : Entry). f.group_index == g) entries in
    elim (e.group_index == g) as (λ b. list_all is_spelled (map (λ (f : Entry). f.value) (cond b (e ∷ rest) rest)) ≡ true) [
      | true ↦ both _ _ all.0 (spelled_in_group g entries all.1)
      | false ↦ spelled_in_group g entries all.1
    ]

-- the state of a group is the set of its entries
module _ (groups p q : ℕ) (entries : List Entry) (ss : List Statistics) (view : sets_of groups entries ≡ ss) (narrow : q ≡ p) (here : p < length ss) where
  state_there : (values : List Value) → values ≡ in_group q entries → set_state (ascending_set value_cmp values) ≡ get_or ss p no_statistics
  state_there values is =
      let inside : q < groups = let long : length ss ≡ groups = sym (ap length view) ∙ length-map-range_with_len (set_at entries) 0 groups in omega (arith, here, long, narrow) in
      ap (λ vs. set_state (ascending_set value_cmp vs)) is
      ∙ sym (get_or-map-range_with_len (set_at entries) 0 groups q q no_statistics inside (omega arith))
      ∙ (λ i. get_or (view i) (narrow i) no_statistics)

  pub handed_out : {E : Type 0} (values : List Value) (r : Result Statistics E) → values ≡ in_group q entries → IfOk r (λ s. s ≡ set_state (ascending_set value_cmp values))
      → IfOk r (λ s. s ≡ get_or ss p no_statistics)
  handed_out values (Ok s) is e = e ∙ state_there values is
  handed_out values (Err e) is h = h
