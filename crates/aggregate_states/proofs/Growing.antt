-- A state that grows by one entry after the other.
use Rattle.std.specs.Prelude.{◌≡◌, ℕ, ℤ, suc, ◌+◌, ◌<◌, ◌≤◌, List, [], ◌∷◌, length, map, sum, drop, get_or}
use Rattle.std.proofs.Common.{refl, sym, ap, ◌∙◌, arith, add-one}
use Rattle.std.proofs.Math.Seq.{drop-cons}
use Rattle.std.proofs.Math.ListN.{drop_of_length-le}
use Rattle.meaning.specs.declared.value.Value.{Value}
use Rattle.meaning.specs.declared.value.Value.TheVariants.{Null, Int, Text}
use Rattle.meaning.specs.declared.plan.AggregateKind.{AggregateKind}
use Rattle.meaning.specs.declared.plan.AggregateKind.TheVariants.{CountRows, Count, Sum, Min, Max, Avg, CountDistinct, SumDistinct}
use Rattle.meaning.specs.declared.answer.Statistics.{Statistics}
use Rattle.meaning.specs.Aggregate.{no_statistics, merge, kept_by, present, statistics}
use Rattle.meaning.proofs.Merge.{merge-comm, merge-assoc, merge-none}
use Rattle.aggregate_states.specs.Entries.{state_of, together}
use Rattle.aggregate_states.specs.StateLaws.{state_of-append}
use Rattle.aggregate_states.specs.Kinds.{count_state}
use Rattle.aggregate_states.specs.State.{most_entries}
use Rattle.aggregate_states.specs.Values.{selected}
use Rattle.std.proofs.lemmas.List.Sums.{sum_by-cons}

pub first_left : {X : Type 0} (xs : List X) (k : ℕ) (d : X) → k < length xs → drop k xs ≡ get_or xs k d ∷ drop (k + 1) xs
first_left xs k d here = drop-cons xs k d here ∙ (λ j. get_or xs k d ∷ drop (sym (add-one k) j) xs)

-- the state of no entry is the fresh one
pub state_of-none : (kind : AggregateKind) → state_of kind [] ≡ no_statistics
state_of-none CountRows = refl
state_of-none Count = refl
state_of-none Sum = refl
state_of-none Min = refl
state_of-none Max = refl
state_of-none Avg = refl
state_of-none CountDistinct = refl
state_of-none SumDistinct = refl

pub merge-fresh : (s : Statistics) → merge s no_statistics ≡ s
merge-fresh s = merge-comm s no_statistics ∙ merge-none s

pub merge-no_entry : (kind : AggregateKind) (s : Statistics) → merge s (state_of kind []) ≡ s
merge-no_entry kind s = ap (merge s) (state_of-none kind) ∙ merge-fresh s

pub joined : (kind : AggregateKind) (s : Statistics) (v : Value) (xs : List Value) → merge (merge s (state_of kind (v ∷ []))) (state_of kind xs) ≡ merge s (state_of kind (v ∷ xs))
joined kind s v xs = merge-assoc s (state_of kind (v ∷ [])) (state_of kind xs) ∙ ap (merge s) (sym (state_of-append kind (v ∷ []) xs))

-- what is merged so far, with what is left, is the whole
abbrev pub AddsUp : AggregateKind → List Value → List ℕ → Statistics → ℕ → Statistics → Type 0
AddsUp kind values list start k now = merge now (state_of kind (selected values (drop k list))) ≡ merge start (state_of kind (selected values list))

module _ (kind : AggregateKind) (values : List Value) (list : List ℕ) (start : Statistics) (k : ℕ) where
  pub adds_up_more : k < length list → (now new : Statistics) (v : Value) → v ≡ get_or values (get_or list k 0) Null
      → new ≡ merge now (state_of kind (v ∷ [])) → AddsUp kind values list start k now → AddsUp kind values list start (k + 1) new
  adds_up_more here now new v is_v is_new so_far =
      ap (λ (s : Statistics). merge s (state_of kind (selected values (drop (k + 1) list)))) (is_new ∙ ap (λ (w : Value). merge now (state_of kind (w ∷ []))) is_v)
      ∙ joined kind now (get_or values (get_or list k 0) Null) (selected values (drop (k + 1) list))
      ∙ ap (λ (ps : List ℕ). merge now (state_of kind (selected values ps))) (sym (first_left list k 0 here))
      ∙ so_far

  pub adds_up_end : length list ≤ k → (now : Statistics) → AddsUp kind values list start k now → now ≡ merge start (state_of kind (selected values list))
  adds_up_end past now so_far =
      sym (ap (λ (ps : List ℕ). merge now (state_of kind (selected values ps))) (drop_of_length-le list past) ∙ merge-no_entry kind now) ∙ so_far

-- the same of states
abbrev pub MergesUp : AggregateKind → List Statistics → Statistics → ℕ → Statistics → Type 0
MergesUp kind states start k now = merge now (together kind (drop k states)) ≡ merge start (together kind states)

module _ (kind : AggregateKind) (states : List Statistics) (start : Statistics) (k : ℕ) where
  pub merges_up_more : k < length states → (d now new : Statistics) → new ≡ merge now (kept_by kind (get_or states k d)) → MergesUp kind states start k now → MergesUp kind states start (k + 1) new
  merges_up_more here d now new is_new so_far =
      ap (λ (s : Statistics). merge s (together kind (drop (k + 1) states))) is_new
      ∙ merge-assoc now (kept_by kind (get_or states k d)) (together kind (drop (k + 1) states))
      ∙ ap (λ (ss : List Statistics). merge now (together kind ss)) (sym (first_left states k d here))
      ∙ so_far

  pub merges_up_end : length states ≤ k → (now : Statistics) → MergesUp kind states start k now → now ≡ merge start (together kind states)
  merges_up_end past now so_far = sym (ap (λ (ss : List Statistics). merge now (together kind ss)) (drop_of_length-le states past) ∙ merge-fresh now) ∙ so_far

-- ---- room

pub kept_count : (kind : AggregateKind) (s : Statistics) → (kept_by kind s).count ≤ s.count
kept_count CountRows s = omega arith
kept_count Count s = omega arith
kept_count Sum s = omega arith
kept_count Min s = omega arith
kept_count Max s = omega arith
kept_count Avg s = omega arith
kept_count CountDistinct s = omega arith
kept_count SumDistinct s = omega arith

abbrev pub all_entries : List Statistics → ℕ
all_entries states = sum (map (λ (s : Statistics). s.count) states)

pub entries_left : (states : List Statistics) (k : ℕ) (d : Statistics) → k < length states → all_entries (drop k states) ≡ (get_or states k d).count + all_entries (drop (k + 1) states)
entries_left states k d here = ap all_entries (first_left states k d here) ∙ sum_by-cons (λ (n : ℕ). n) (get_or states k d).count (map (λ (s : Statistics). s.count) (drop (k + 1) states))

-- there is room for the entries that are left
pub room_left : (kind : AggregateKind) (states : List Statistics) (k : ℕ) (d now new : Statistics) → k < length states → new ≡ merge now (kept_by kind (get_or states k d))
    → now.count + all_entries (drop k states) ≤ most_entries → new.count + all_entries (drop (k + 1) states) ≤ most_entries
room_left kind states k d now new here is_new room =
    let count : new.count ≡ now.count + (kept_by kind (get_or states k d)).count = ap (λ (s : Statistics). s.count) is_new in
    let kept = kept_count kind (get_or states k d) in
    let left = entries_left states k d here in
    omega (arith, room, count, kept, left)

pub room_for_next : (states : List Statistics) (k : ℕ) (d now : Statistics) → k < length states
    → now.count + all_entries (drop k states) ≤ most_entries → now.count + (get_or states k d).count ≤ most_entries
room_for_next states k d now here room =
    let left = entries_left states k d here in
    omega (arith, room, left)

pub present_one : (v : Value) → length (present (v ∷ [])) ≤ 1
present_one Null = omega arith
present_one (Int n) = omega arith
present_one (Text t) = omega arith

-- one entry takes the room of one
pub room_more : (kind : AggregateKind) (now new : Statistics) (v : Value) (entries k : ℕ) → new ≡ merge now (state_of kind (v ∷ []))
    → now.count + entries ≤ most_entries + k → new.count + entries ≤ most_entries + (k + 1)
room_more kind now new v entries k is_new room =
    let count : new.count ≡ now.count + (state_of kind (v ∷ [])).count = ap (λ (s : Statistics). s.count) is_new in
    let kept : (state_of kind (v ∷ [])).count ≤ length (present (v ∷ [])) = kept_count kind (statistics (v ∷ [])) in
    let one = present_one v in
    omega (arith, room, count, kept, one)

-- ---- kinds that keep the same

pub as_count : (states : List Statistics) → together Count states ≡ together CountRows states
as_count [] = refl
as_count (s ∷ states) = ap (merge (kept_by Count s)) (as_count states)

pub as_sum : (states : List Statistics) → together Sum states ≡ together Avg states
as_sum [] = refl
as_sum (s ∷ states) = ap (merge (kept_by Sum s)) (as_sum states)

pub as_distinct : (states : List Statistics) → together CountDistinct states ≡ together SumDistinct states
as_distinct [] = refl
as_distinct (s ∷ states) = ap (merge (kept_by CountDistinct s)) (as_distinct states)

-- ---- integers all count

pub present_ints : (ints : List ℤ) → length (present (map Int ints)) ≡ length ints
present_ints [] = refl
present_ints (z ∷ ints) = ap suc (present_ints ints)

pub count_of_ints : (ints : List ℤ) → state_of Count (map Int ints) ≡ count_state (length ints)
count_of_ints ints = ap count_state (present_ints ints)
