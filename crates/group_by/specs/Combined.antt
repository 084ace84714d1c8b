-- Groups in the order of their keys, those of one key as one.
use Rattle.std.specs.Prelude.{◌≡◌, ℕ, ◌+◌, ◌<◌, ◌≤◌, true, false, List, [], ◌∷◌, length, map, zip, reverse, get_or, IsPermutation, if◌then◌else◌}
use Rattle.std.specs.Ordering.{eq_by_cmp, is_lt}
use Rattle.meaning.specs.declared.answer.Statistics.{Statistics}
use Rattle.meaning.specs.declared.answer.Group.{Group}
use Rattle.meaning.specs.Order.{Row, row_cmp}
use Rattle.meaning.specs.Aggregate.{no_statistics, merge}
use Rattle.meaning.specs.Group.{beside, merge_groups}
use Rattle.aggregate_states.specs.State.{most_entries}
use Rattle.accumulators.specs.Columns.{ColumnSpec}
use Rattle.group_by.specs.Groups.{all_rows}
use Rattle.group_by.specs.GroupIndexes.{by_group_index}

-- a group before others, as one with the first of them where they have one key
abbrev pub put_before : Group → List Group → List Group
put_before g [] = g ∷ []
put_before g (h ∷ hs) = if eq_by_cmp row_cmp g.key h.key then merge_groups g h ∷ hs else g ∷ h ∷ hs

-- groups that stand in order, those of one key as one
abbrev pub combined : List Group → List Group
combined [] = []
combined (g ∷ gs) = put_before g (combined gs)

-- no key is less than the one before it
abbrev pub Rises : List Row → Type 0
Rises [] = Unit {0}
Rises (x ∷ []) = Unit {0}
Rises (x ∷ y ∷ ys) = (is_lt (row_cmp y x) ≡ false) × Rises (y ∷ ys)

-- the groups of each key stand in one order
abbrev pub SameBeside : List Group → List Group → Type 0
SameBeside old new = (k : Row) → beside k (map (λ g. (g.key, g)) new) ≡ beside k (map (λ g. (g.key, g)) old)

-- a group with so many states, of no more entries than it has rows
pub record IsFit (width : ℕ) (g : Group) : Type 0 where
  pub wide : length g.states ≡ width
  pub within : (c : ℕ) → (get_or g.states c no_statistics).count ≤ g.rows

-- such groups, of at most 2^32 rows in all
pub record AreFit (width : ℕ) (gs : List Group) : Type 0 where
  pub fit : (j : ℕ) (d : Group) → j < length gs → IsFit width (get_or gs j d)
  pub few : all_rows gs ≤ most_entries

-- two groups that can be made one
pub record AreMergeable (g h : Group) : Type 0 where
  pub widths : length g.states ≡ length h.states
  pub rows : g.rows + h.rows ≤ most_entries
  pub few : (c : ℕ) → (get_or g.states c no_statistics).count + (get_or h.states c no_statistics).count ≤ most_entries

-- a group that can be made one with the first of others
abbrev pub MergesWithFirst : Group → List Group → Type 0
MergesWithFirst g [] = Unit {0}
MergesWithFirst g (h ∷ hs) = AreMergeable g h

-- states merged one by one
abbrev pub zipped : List Statistics → List Statistics → List Statistics
zipped states others = map (λ p. merge p.0 p.1) (zip states others)

-- what is handed out: the groups in some order, those of each key in one order, then those of one key as one
pub record IsInOrder (keys : List Row) (rows : List ℕ) (columns : List ColumnSpec) (groups : List Group) : Type 0 where
  pub sorted : List Group
  pub beside : SameBeside (reverse (by_group_index keys rows columns)) sorted
  pub rises : Rises (map (λ g. g.key) sorted)
  pub moved : IsPermutation (reverse (by_group_index keys rows columns)) sorted
  pub are : groups ≡ combined sorted
