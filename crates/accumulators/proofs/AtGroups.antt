-- A loop that merges one thing after the other into the state at its group index.
use Rattle.std.specs.Prelude.{◌≡◌, ℕ, zero, suc, ◌+◌, ◌<◌, ◌≤◌, ◌==◌, false, List, [], ◌∷◌, length, map, drop, get_or, slice_set}
use Rattle.std.specs.List.{zip, enumerate_from}
use Rattle.std.proofs.Common.{refl, sym, ap, subst, ◌∙◌, arith, inl, inr, get_or-set_same, get_or-set_other, length-set}
use Rattle.std.proofs.Math.ListN.{drop_of_length-le}
use Rattle.std.proofs.lemmas.Bool.{cases_eq}
use Rattle.meaning.specs.declared.answer.Statistics.{Statistics}
use Rattle.meaning.specs.Aggregate.{no_statistics, merge}
use Rattle.accumulators.specs.Columns.{merged_at}
use Rattle.aggregate_states.specs.Entries.{of_group}
use Rattle.aggregate_states.specs.State.{most_entries}
use Rattle.aggregate_states.proofs.Growing.{first_left}
pub use Rattle.distinct_sets.proofs.Places.{same, other, other_above}

module _ {X : Type 0} where
  pub of_group-here : (p n : ℕ) (x : X) (xs : List (ℕ × X)) → p ≡ n → of_group n ((p, x) ∷ xs) ≡ x ∷ of_group n xs
  of_group-here p n x xs e = rw (same p n e) refl

  pub of_group-other : (p n : ℕ) (x : X) (xs : List (ℕ × X)) → (p == n) ≡ false → of_group n ((p, x) ∷ xs) ≡ of_group n xs
  of_group-other p n x xs e = rw e refl

-- what is known of some things, and of one
module _ {X : Type 0} (known : List X → Statistics) (one : X → Statistics)
    (joined : (s : Statistics) (x : X) (xs : List X) → merge (merge s (one x)) (known xs) ≡ merge s (known (x ∷ xs)))
    (fresh : (s : Statistics) → merge s (known []) ≡ s) where
  abbrev each_at : List (ℕ × X) → ℕ × Statistics → Statistics
  each_at xs s = merge s.1 (known (of_group s.0 xs))

  abbrev pub from_index : ℕ → List Statistics → List (ℕ × X) → List Statistics
  from_index first states xs = map (each_at xs) (enumerate_from first states)

  -- the states behind the group index stay
  behind : (first p : ℕ) (x : X) (xs : List (ℕ × X)) (states : List Statistics) → p < first → from_index first states xs ≡ from_index first states ((p, x) ∷ xs)
  behind first p x xs [] l = refl
  behind first p x xs (s ∷ states) l =
      λ i. merge s (known (sym (of_group-other p first x xs (other p first l)) i)) ∷ behind (first + 1) p x xs states (omega (arith, l)) i

  step : (first p q : ℕ) (x : X) (xs : List (ℕ × X)) (states : List Statistics) → p ≡ first + q
      → from_index first (merged_at states q (one x)) xs ≡ from_index first states ((p, x) ∷ xs)
  step first p q x xs [] at = refl
  step first p zero x xs (s ∷ states) at =
      let here : p ≡ first = omega (arith, at) in
      let head = joined s x (of_group first xs) ∙ ap (λ ys. merge s (known ys)) (sym (of_group-here p first x xs here)) in
      λ i. head i ∷ behind (first + 1) p x xs states (omega (arith, at)) i
  step first p (suc q) x xs (s ∷ states) at =
      λ i. merge s (known (sym (of_group-other p first x xs (other_above p first (omega (arith, at)))) i)) ∷ step (first + 1) p q x xs states (omega (arith, at)) i

  none_from : (first : ℕ) (states : List Statistics) → from_index first states [] ≡ states
  none_from first [] = refl
  none_from first (s ∷ states) = λ i. fresh s i ∷ none_from (first + 1) states i

  -- what is merged so far, with what is left, is the whole
  abbrev pub GroupsAddUp : List ℕ → List X → List Statistics → ℕ → List Statistics → Type 0
  GroupsAddUp group_indexes xs start k now = from_index 0 now (zip (drop k group_indexes) (drop k xs)) ≡ from_index 0 start (zip group_indexes xs)

  module _ (group_indexes : List ℕ) (xs : List X) (long : length group_indexes ≡ length xs) (start : List Statistics) (k : ℕ) where
    pub groups_more : (here : k < length xs) (d : X) (now new : List Statistics) → new ≡ merged_at now (get_or group_indexes k 0) (one (get_or xs k d))
        → GroupsAddUp group_indexes xs start k now → GroupsAddUp group_indexes xs start (k + 1) new
    groups_more here d now new is_new so_far =
        let p = get_or group_indexes k 0 in
        let x = get_or xs k d in
        ap (λ (ss : List Statistics). from_index 0 ss (zip (drop (k + 1) group_indexes) (drop (k + 1) xs))) is_new
        ∙ step 0 p p x (zip (drop (k + 1) group_indexes) (drop (k + 1) xs)) now (omega arith)
        ∙ sym (λ i. from_index 0 now (zip (first_left group_indexes k 0 (subst (λ n. k < n) (sym long) here) i) (first_left xs k d here i)))
        ∙ so_far

    pub groups_end : length xs ≤ k → (now : List Statistics) → GroupsAddUp group_indexes xs start k now → now ≡ from_index 0 start (zip group_indexes xs)
    groups_end past now so_far =
        sym ((λ i. from_index 0 now (zip (drop_of_length-le group_indexes (subst (λ n. n ≤ k) (sym long) past) i) (drop_of_length-le xs past i))) ∙ none_from 0 now) ∙ so_far

-- ---- room

-- room in each state for so many entries
abbrev pub HasRoom : ℕ → List Statistics → Type 0
HasRoom left now = (j : ℕ) → j < length now → (get_or now j no_statistics).count + left ≤ most_entries

room_set : (left less n p : ℕ) (now : List Statistics) (more : Statistics) → left ≡ n + less → more.count ≤ n → p < length now → HasRoom left now → HasRoom less (merged_at now p more)
room_set left less n p now more is_left few inside room j l =
    let merged = merge (get_or now p no_statistics) more in
    let l2 = subst (λ n. j < n) (length-set now p merged) l in
    elim (cases_eq j p) [
      | inl at ↦ (
          let before = room p inside in
          let read : get_or (slice_set now p merged) j no_statistics ≡ merged = ap (λ n. get_or (slice_set now p merged) n no_statistics) at ∙ get_or-set_same now p merged no_statistics inside in
          let count = ap (λ (t : Statistics). t.count) read in
          omega (arith, before, count, is_left, few))
      | inr ne ↦ (
          let before = room j l2 in
          let count = ap (λ (t : Statistics). t.count) (get_or-set_other now p j merged no_statistics ne) in
          omega (arith, before, count, is_left))
    ]

pub room_next : (left less n p : ℕ) (now new : List Statistics) (more : Statistics) → left ≡ n + less → more.count ≤ n → p < length now → new ≡ merged_at now p more → HasRoom left now → HasRoom less new
room_next left less n p now new more is_left few inside e room = subst (λ (ss : List Statistics). HasRoom less ss) (sym e) (room_set left less n p now more is_left few inside room)

pub height_next : (p : ℕ) (now new : List Statistics) (more : Statistics) → new ≡ merged_at now p more → length new ≡ length now
height_next p now new more e = ap (λ (ss : List Statistics). length ss) e ∙ length-set now p (merge (get_or now p no_statistics) more)

-- ---- one group index

module _ {X : Type 0} where
  pub zip_one : (p : ℕ) (ps : List ℕ) (xs : List X) → length ps ≡ length xs → ((j : ℕ) → j < length ps → get_or ps j 0 ≡ p) → zip ps xs ≡ map (λ x. (p, x)) xs
  zip_one p [] [] long same = refl
  zip_one p [] (x ∷ xs) long same = absurd (omega (arith, long))
  zip_one p (q ∷ ps) [] long same = absurd (omega (arith, long))
  zip_one p (q ∷ ps) (x ∷ xs) long same = λ i. (same 0 (omega arith) i, x) ∷ zip_one p ps xs (omega (arith, long)) (λ j l. same (suc j) (omega (arith, l))) i

  all_there : (p n : ℕ) (xs : List X) → p ≡ n → of_group n (map (λ x. (p, x)) xs) ≡ xs
  all_there p n [] e = refl
  all_there p n (x ∷ xs) e = of_group-here p n x (map (λ x. (p, x)) xs) e ∙ (λ i. x ∷ all_there p n xs e i)

  none_there : (p n : ℕ) (xs : List X) → (p == n) ≡ false → of_group n (map (λ x. (p, x)) xs) ≡ []
  none_there p n [] e = refl
  none_there p n (x ∷ xs) e = of_group-other p n x (map (λ x. (p, x)) xs) e ∙ none_there p n xs e

module _ {X : Type 0} (known : List X → Statistics) (fresh : (s : Statistics) → merge s (known []) ≡ s) where
  abbrev from_one : ℕ → List Statistics → ℕ → List X → List Statistics
  from_one first states p xs = map (λ (s : ℕ × Statistics). merge s.1 (known (of_group s.0 (map (λ x. (p, x)) xs)))) (enumerate_from first states)

  stays : (p n : ℕ) (xs : List X) (s : Statistics) → (p == n) ≡ false → merge s (known (of_group n (map (λ x. (p, x)) xs))) ≡ s
  stays p n xs s e = ap (λ (ys : List X). merge s (known ys)) (none_there p n xs e) ∙ fresh s

  all_stay : (first p : ℕ) (xs : List X) (states : List Statistics) → p < first → from_one first states p xs ≡ states
  all_stay first p xs [] l = refl
  all_stay first p xs (s ∷ states) l = λ i. stays p first xs s (other p first l) i ∷ all_stay (first + 1) p xs states (omega (arith, l)) i

  -- what goes to one group index is merged there at once
  pub at_one : (first p q : ℕ) (xs : List X) (states : List Statistics) → p ≡ first + q → from_one first states p xs ≡ merged_at states q (known xs)
  at_one first p q xs [] at = refl
  at_one first p zero xs (s ∷ states) at =
      let head = ap (λ (ys : List X). merge s (known ys)) (all_there p first xs (omega (arith, at))) in
      λ i. head i ∷ all_stay (first + 1) p xs states (omega (arith, at)) i
  at_one first p (suc q) xs (s ∷ states) at =
      λ i. stays p first xs s (other_above p first (omega (arith, at))) i ∷ at_one (first + 1) p q xs states (omega (arith, at)) i
