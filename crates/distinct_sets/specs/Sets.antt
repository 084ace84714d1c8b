-- Sets of entries, by their groups.
use Rattle.std.specs.Prelude.{◌≡◌, ℕ, ◌<◌, ◌≤◌, ◌==◌, Bool, true, List, ◌++◌, map, filter, get_or, slice_set}
use Rattle.std.specs.Borrow.{Bor}
use Rattle.std.specs.List.{flat_map, list_all, list_any, range_with_len, AllByRecursion}
use Rattle.std.specs.List.Sorted.{IsNonDecreasingBy}
use Rattle.meaning.specs.declared.value.Value.{Value}
use Rattle.meaning.specs.declared.answer.Statistics.{Statistics}
use Rattle.meaning.specs.Aggregate.{merge, no_statistics}
use Rattle.meaning.specs.Order.{ascending_set, is_ascending, same_value, value_cmp}
use Rattle.aggregate_states.specs.Kinds.{set_state}
use Rattle.aggregate_states.specs.Values.{is_spelled}
use Rattle.distinct_sets.specs.declared.entry.Entry.{Entry}

-- a value is among others
abbrev pub has : Value → List Value → Bool
has v vs = list_any (same_value v) vs

-- the values of a group's entries
abbrev pub in_group : ℕ → List Entry → List Value
in_group group_index entries = map (λ e. e.value) (filter (λ e. e.group_index == group_index) entries)

-- the state of a group: the set of its entries
abbrev pub set_at : List Entry → ℕ → Statistics
set_at entries group_index = set_state (ascending_set value_cmp (in_group group_index entries))

-- the states of so many groups
abbrev pub sets_of : ℕ → List Entry → List Statistics
sets_of groups entries = map (set_at entries) (range_with_len 0 groups)

-- the states with one of them merged with another
abbrev pub merged_at : List Statistics → ℕ → Statistics → List Statistics
merged_at states group_index more = slice_set states group_index (merge (get_or states group_index no_statistics) more)

-- entries came behind the others, all of them of one group
pub record IsGrown (group_index : ℕ) (old new : List Entry) : Type 0 where
  pub more : List Entry
  pub are : new ≡ old ++ more
  pub own : AllByRecursion (λ e. (e.group_index ≡ group_index) × (is_spelled e.value ≡ true)) more

-- these values are in the set of a group now, and no others came there or to another group
pub record AreEntered (group_index : ℕ) (values : List Value) (old new : List Entry) : Type 0 where
  pub more : List Entry
  pub are : new ≡ old ++ more
  pub own : AllByRecursion (λ e. (e.group_index ≡ group_index) × (has e.value values ≡ true)) more
  pub there : AllByRecursion (λ v. has v (in_group group_index new) ≡ true) values

-- the entries of which these states know
abbrev pub entries_of : List Statistics → List Value
entries_of states = flat_map (λ s. s.entries) states

-- each of these states keeps a set: its entries ascend
abbrev pub are_sets : List Statistics → Bool
are_sets states = list_all (λ s. is_ascending value_cmp s.entries) states

-- entries of so many groups, whose texts are UTF-8
pub record IsSets (groups : ℕ) (entries : List Entry) : Type 0 where
  pub within : AllByRecursion (λ e. e.group_index < groups) entries
  pub spelled : AllByRecursion (λ e. is_spelled e.value ≡ true) entries

-- ---- in the order of groups

abbrev pub lent : List (Bor Entry) → List Entry
lent entries = map (λ e. e.now) entries

abbrev pub values_of_lent : List (Bor Entry) → List Value
values_of_lent entries = map (λ e. e.now.value) entries

-- no entry is of a group before that of the entry before it
abbrev pub RisesByGroup : List (Bor Entry) → Type 0
RisesByGroup entries = IsNonDecreasingBy (λ e. e.now.group_index) entries

-- entries of a group and of those behind it
abbrev pub AreFrom : ℕ → List (Bor Entry) → Type 0
AreFrom group_index entries = AllByRecursion (λ e. group_index ≤ e.now.group_index) entries

-- entries of so many groups in the order of the groups, whose texts are UTF-8
pub record AreOrdered (groups : ℕ) (entries : List (Bor Entry)) : Type 0 where
  pub rises : RisesByGroup entries
  pub sets : IsSets groups (lent entries)
