-- Groups by their indexes, in the order in which their keys came. A key may have more than one group index: its groups
-- count together.
use Rattle.std.specs.Prelude.{◌≡◌, ℕ, ◌+◌, ◌<◌, ◌≤◌, ◌==◌, Bool, true, List, [], length, map, sum, get_or, filter}
use Rattle.std.specs.List.{zip, range_with_len}
use Rattle.meaning.specs.declared.value.Value.{Value}
use Rattle.meaning.specs.declared.plan.AggregateKind.{AggregateKind}
use Rattle.meaning.specs.declared.answer.Statistics.{Statistics}
use Rattle.meaning.specs.declared.answer.Group.{Group}
use Rattle.meaning.specs.Order.{Row, column}
use Rattle.meaning.specs.Aggregate.{no_statistics, kept_by, merge}
use Rattle.accumulators.specs.Columns.{ColumnSpec, no_column}
use Rattle.aggregate_states.specs.Entries.{state_of, of_group}
use Rattle.aggregate_states.specs.State.{most_entries}
use Rattle.group_index.specs.Found.{AreFound, IsFound}
use Rattle.group_by.specs.Shape.{GroupsSpec, shape_with}
use Rattle.group_by.specs.Groups.{together, with_groups}

-- the state at a group index of a column
abbrev pub state_in : ColumnSpec → ℕ → Statistics
state_in c group_index = get_or c.states group_index no_statistics

-- the state at a group index of one column among several
abbrev pub state_at : List ColumnSpec → ℕ → ℕ → Statistics
state_at columns c group_index = state_in (get_or columns c no_column) group_index

-- the group of this index: its key, its row count, and its state in each aggregate's column
abbrev pub group_at : List ℕ → List ColumnSpec → Row → ℕ → Group
group_at rows columns key group_index = record { key = key; rows = get_or rows group_index 0; states = map (λ c. state_in c group_index) columns }

-- the groups in the order of their indexes
abbrev pub by_group_index : List Row → List ℕ → List ColumnSpec → List Group
by_group_index keys rows columns = map (λ group_index. group_at rows columns (get_or keys group_index []) group_index) (range_with_len 0 (length keys))

-- the table with these groups
abbrev pub table_of : Bool → List Row → List ℕ → List ColumnSpec → ℕ → ℕ → GroupsSpec
table_of is_certain keys rows columns taken handed = record {
  shape = shape_with is_certain (map (λ c. c.kind) columns);
  groups = together (shape_with is_certain (map (λ c. c.kind) columns)) (by_group_index keys rows columns);
  rows = taken;
  handed = handed;
}

-- a row count and a state of each aggregate at each key's group index: each row counted once, at most 2^32 rows in all,
-- no more entries than rows, and nothing in a state that its kind doesn't keep
pub record IsWellFormed (is_certain : Bool) (keys : List Row) (rows : List ℕ) (columns : List ColumnSpec) (taken : ℕ) : Type 0 where
  pub certain : is_certain ≡ true → (0 < length keys) × (get_or keys 0 [] ≡ [])
  pub counted : length rows ≡ length keys
  pub heights : (c : ℕ) → c < length columns → length (get_or columns c no_column).states ≡ length keys
  pub total : sum rows ≡ taken
  pub few : taken ≤ most_entries
  pub within : (c group_index : ℕ) → (state_at columns c group_index).count ≤ get_or rows group_index 0
  pub kept : (c group_index : ℕ) → c < length columns → kept_by (get_or columns c no_column).kind (state_at columns c group_index) ≡ state_at columns c group_index

-- ---- what rows do to counts and columns

-- how often a group index is named
abbrev pub times : ℕ → List ℕ → ℕ
times group_index group_indexes = length (filter (λ p. p == group_index) group_indexes)

-- each group's row count, with the rows of these group indexes more
pub record AreCounted (n : ℕ) (group_indexes old new : List ℕ) : Type 0 where
  pub height : length new ≡ n
  pub counts : (group_index : ℕ) → get_or new group_index 0 ≡ get_or old group_index 0 + times group_index group_indexes
  pub total : sum new ≡ sum old + length group_indexes

-- a column with the entries at these group indexes
pub record IsUpdated (n : ℕ) (indexed : List (ℕ × Value)) (old new : ColumnSpec) : Type 0 where
  pub kind : new.kind ≡ old.kind
  pub height : length new.states ≡ n
  pub states : (group_index : ℕ) → group_index < n → state_in new group_index ≡ merge (state_in old group_index) (state_of old.kind (of_group group_index indexed))

-- each column with the entries of these argument rows
abbrev pub AreUpdated : ℕ → List ℕ → List Row → List ColumnSpec → List ColumnSpec → Type 0
AreUpdated height group_indexes arguments old new = (length new ≡ length old)
    × ((c : ℕ) → c < length old → IsUpdated height (zip group_indexes (map (λ row. column row c) arguments)) (get_or old c no_column) (get_or new c no_column))

-- what some rows do to keys, counts and columns: each row's key has a group index, and the row is counted there
pub record AreAdded (found arguments : List Row) (keys : List Row) (rows : List ℕ) (columns : List ColumnSpec) (new_keys : List Row) (new_rows : List ℕ) (new_columns : List ColumnSpec) : Type 0 where
  pub group_indexes : List ℕ
  pub located : AreFound found keys group_indexes new_keys
  pub counted : AreCounted (length new_keys) group_indexes rows new_rows
  pub updated : AreUpdated (length new_keys) group_indexes arguments columns new_columns

-- ---- what a group does to counts and columns

-- a column with a state more at one group index
pub record IsMerged (n group_index : ℕ) (more : Statistics) (old new : ColumnSpec) : Type 0 where
  pub kind : new.kind ≡ old.kind
  pub height : length new.states ≡ n
  pub here : state_in new group_index ≡ merge (state_in old group_index) (kept_by old.kind more)
  pub others : (j : ℕ) → (j ≡ group_index → ⊥) → state_in new j ≡ state_in old j

-- each column with the state of its aggregate more
abbrev pub AreMerged : ℕ → ℕ → List Statistics → List ColumnSpec → List ColumnSpec → Type 0
AreMerged n group_index states old new = (length new ≡ length old)
    × ((c : ℕ) → c < length old → IsMerged n group_index (get_or states c no_statistics) (get_or old c no_column) (get_or new c no_column))

-- each group's row count, with so many rows more in one
pub record IsRaised (n group_index more : ℕ) (old new : List ℕ) : Type 0 where
  pub height : length new ≡ n
  pub here : get_or new group_index 0 ≡ get_or old group_index 0 + more
  pub others : (j : ℕ) → (j ≡ group_index → ⊥) → get_or new j 0 ≡ get_or old j 0
  pub total : sum new ≡ sum old + more

-- what a group does to keys, counts and columns
pub record IsAbsorbed (g : Group) (keys : List Row) (rows : List ℕ) (columns : List ColumnSpec) (new_keys : List Row) (new_rows : List ℕ) (new_columns : List ColumnSpec) : Type 0 where
  pub group_index : ℕ
  pub located : IsFound g.key keys group_index new_keys
  pub counted : IsRaised (length new_keys) group_index g.rows rows new_rows
  pub merged : AreMerged (length new_keys) group_index g.states columns new_columns

-- what groups do to the parts of a table that took so many rows, whether or not the empty key has a group in any case
pub record AreAbsorbed (gs : List Group) (keys : List Row) (rows : List ℕ) (columns : List ColumnSpec) (taken : ℕ) (new_keys : List Row) (new_rows : List ℕ) (new_columns : List ColumnSpec) (new_taken : ℕ) : Type 0 where
  pub well_formed : (is_certain : Bool) → IsWellFormed is_certain keys rows columns taken → IsWellFormed is_certain new_keys new_rows new_columns new_taken
  pub table : (is_certain : Bool) → IsWellFormed is_certain keys rows columns taken → (handed : ℕ)
      → table_of is_certain new_keys new_rows new_columns new_taken (handed + length gs) ≡ with_groups (table_of is_certain keys rows columns taken handed) gs

-- columns of these kinds, with a state of no entry for each of so many groups
pub record AreFresh (n : ℕ) (are : List AggregateKind) (columns : List ColumnSpec) : Type 0 where
  pub kinds : map (λ c. c.kind) columns ≡ are
  pub heights : (c : ℕ) → c < length columns → length (get_or columns c no_column).states ≡ n
  pub none : (c group_index : ℕ) → state_at columns c group_index ≡ no_statistics
