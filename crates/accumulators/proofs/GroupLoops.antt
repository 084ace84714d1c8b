-- The loops over group indexes: one entry after the other, or one state, goes to its group.
use Rattle.std.specs.Prelude.{◌≡◌, ℕ, ℤ, pos, zero, suc, ◌+◌, ◌<◌, ◌≤◌, List, [], ◌∷◌, length, map, drop, get_or}
use Rattle.std.specs.List.{zip}
use Rattle.std.proofs.Common.{refl, sym, ap, ◌∙◌, arith}
use Rattle.meaning.specs.declared.value.Value.{Value}
use Rattle.meaning.specs.declared.value.Value.TheVariants.{Null, Int}
use Rattle.meaning.specs.declared.plan.AggregateKind.{AggregateKind}
use Rattle.meaning.specs.declared.answer.Statistics.{Statistics}
use Rattle.meaning.specs.Aggregate.{merge, kept_by, statistics}
use Rattle.meaning.proofs.Merge.{merge-assoc}
use Rattle.accumulators.specs.Columns.{merged_at}
use Rattle.aggregate_states.specs.Entries.{state_of, together, with_entries, with_states}
use Rattle.aggregate_states.specs.Values.{selected}
use Rattle.aggregate_states.proofs.Growing.{joined, merge-no_entry, merge-fresh, first_left, kept_count, present_one}
use Rattle.accumulators.proofs.AtGroups.{at_one, groups_more, groups_end, zip_one}

module _ (kind : AggregateKind) where
  abbrev one_entry : Value → Statistics
  one_entry v = state_of kind (v ∷ [])

  abbrev pub EntriesAddUp : List ℕ → List Value → List Statistics → ℕ → List Statistics → Type 0
  EntriesAddUp group_indexes values start k now = with_entries kind now (zip (drop k group_indexes) (drop k values)) ≡ with_entries kind start (zip group_indexes values)

  pub entries_more : (group_indexes : List ℕ) (values : List Value) → length group_indexes ≡ length values → (start : List Statistics) (k : ℕ) → k < length values → (now new : List Statistics)
      → new ≡ merged_at now (get_or group_indexes k 0) (one_entry (get_or values k Null)) → EntriesAddUp group_indexes values start k now → EntriesAddUp group_indexes values start (k + 1) new
  entries_more group_indexes values long start k here now new = groups_more (state_of kind) one_entry (joined kind) (merge-no_entry kind) group_indexes values long start k here Null now new

  pub entries_end : (group_indexes : List ℕ) (values : List Value) → length group_indexes ≡ length values → (start : List Statistics) (k : ℕ) → length values ≤ k → (now : List Statistics)
      → EntriesAddUp group_indexes values start k now → now ≡ with_entries kind start (zip group_indexes values)
  entries_end group_indexes values long start k past now = groups_end (state_of kind) one_entry (joined kind) (merge-no_entry kind) group_indexes values long start k past now

  abbrev pub StatesAddUp : List ℕ → List Statistics → List Statistics → ℕ → List Statistics → Type 0
  StatesAddUp group_indexes states start k now = with_states kind now (zip (drop k group_indexes) (drop k states)) ≡ with_states kind start (zip group_indexes states)

  joined_states : (s t : Statistics) (ts : List Statistics) → merge (merge s (kept_by kind t)) (together kind ts) ≡ merge s (together kind (t ∷ ts))
  joined_states s t ts = merge-assoc s (kept_by kind t) (together kind ts)

  pub states_more : (group_indexes : List ℕ) (states : List Statistics) → length group_indexes ≡ length states → (start : List Statistics) (k : ℕ) → k < length states → (d : Statistics) (now new : List Statistics)
      → new ≡ merged_at now (get_or group_indexes k 0) (kept_by kind (get_or states k d)) → StatesAddUp group_indexes states start k now → StatesAddUp group_indexes states start (k + 1) new
  states_more group_indexes states long start k here d now new = groups_more (together kind) (kept_by kind) joined_states merge-fresh group_indexes states long start k here d now new

  pub states_end : (group_indexes : List ℕ) (states : List Statistics) → length group_indexes ≡ length states → (start : List Statistics) (k : ℕ) → length states ≤ k → (now : List Statistics)
      → StatesAddUp group_indexes states start k now → now ≡ with_states kind start (zip group_indexes states)
  states_end group_indexes states long start k past now = groups_end (together kind) (kept_by kind) joined_states merge-fresh group_indexes states long start k past now

pub one_less : {X : Type 0} (xs : List X) (k : ℕ) (d : X) → k < length xs → length (drop k xs) ≡ 1 + length (drop (k + 1) xs)
one_less {X = X} xs k d here = ap (λ (ys : List X). length ys) (first_left xs k d here) ∙ omega arith

pub selected_long : (values : List Value) (list : List ℕ) → length (selected values list) ≡ length list
selected_long values [] = refl
selected_long values (p ∷ list) = ap suc (selected_long values list)

pub selected_at : (values : List Value) (list : List ℕ) (k : ℕ) → k < length list → get_or (selected values list) k Null ≡ get_or values (get_or list k 0) Null
selected_at values [] k here = absurd (omega (arith, here))
selected_at values (p ∷ list) zero here = refl
selected_at values (p ∷ list) (suc k) here = selected_at values list k (omega (arith, here))

pub entry_room : (kind : AggregateKind) (v : Value) → (state_of kind (v ∷ [])).count ≤ 1
entry_room kind v =
    let kept = kept_count kind (statistics (v ∷ [])) in
    let one = present_one v in
    omega (arith, kept, one)

pub state_room : (kind : AggregateKind) (s : Statistics) → (kept_by kind s).count ≤ s.count
state_room kind s = let kept = kept_count kind s in omega (arith, kept)

pub int_at : (ints : List ℤ) (k : ℕ) → k < length ints → get_or (map Int ints) k Null ≡ Int (get_or ints k (pos 0))
int_at [] k here = absurd (omega (arith, here))
int_at (z ∷ ints) zero here = refl
int_at (z ∷ ints) (suc k) here = int_at ints k (omega (arith, here))

-- all values at one group index
pub entries_at_one : (kind : AggregateKind) (group_indexes : List ℕ) (values : List Value) (p : ℕ) (states : List Statistics) → length group_indexes ≡ length values
    → ((j : ℕ) → j < length group_indexes → get_or group_indexes j 0 ≡ p) → merged_at states p (state_of kind values) ≡ with_entries kind states (zip group_indexes values)
entries_at_one kind group_indexes values p states long same =
    sym (ap (λ (indexed : List (ℕ × Value)). with_entries kind states indexed) (zip_one p group_indexes values long same)
    ∙ at_one (state_of kind) (merge-no_entry kind) 0 p p values states (omega arith))
