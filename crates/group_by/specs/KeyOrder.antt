-- The order of keys, by their group indexes.
use Rattle.std.specs.Prelude.{◌≡◌, ℕ, ◌+◌, ◌-◌, ◌<◌, min, true, List, [], ◌∷◌, length, get_or, map, reverse, All, IsPermutation}
use Rattle.std.specs.List.{range_with_len}
use Rattle.std.specs.Ordering.{is_lt}
use Rattle.meaning.specs.declared.value.Value.TheVariants.{Int}
use Rattle.meaning.specs.declared.answer.Group.{Group}
use Rattle.meaning.specs.Order.{Row, row_cmp}
use Rattle.accumulators.specs.Columns.{ColumnSpec}
use Rattle.group_by.specs.declared.int_order.IntKey.{IntKey}
use Rattle.group_by.specs.Combined.{IsInOrder, SameBeside}
use Rattle.group_by.specs.GroupIndexes.{by_group_index, group_at}

-- the group of the key at a group index
abbrev pub group_in : List Row → List ℕ → List ColumnSpec → ℕ → Group
group_in keys rows columns group_index = group_at rows columns (get_or keys group_index []) group_index

-- the groups at some group indexes, one behind the other
abbrev pub groups_at : List Row → List ℕ → List ColumnSpec → List ℕ → List Group
groups_at keys rows columns order = map (group_in keys rows columns) order

-- the key at a group index, of which one past the last is taken for that
abbrev pub key_near : List Row → ℕ → Row
key_near keys group_index = get_or keys (min group_index (length keys - 1)) []

-- the key of an integer alone
abbrev pub key_in : IntKey → Row
key_in p = Int p.int ∷ []

-- integers with the group indexes of the first so many keys
pub record AreIndexed (keys : List Row) (many : ℕ) (indexed : List IntKey) : Type 0 where
  pub indexes : map (λ p. p.group_index) indexed ≡ range_with_len 0 many
  pub right : All (λ p. key_in p ≡ get_or keys p.group_index []) indexed

-- all group indexes, those of one key in the opposite of their order
pub record AreSorted (keys : List Row) (order : List ℕ) : Type 0 where
  pub beside : (rows : List ℕ) (columns : List ColumnSpec) → SameBeside (reverse (by_group_index keys rows columns)) (groups_at keys rows columns order)
  pub moved : IsPermutation (range_with_len 0 (length keys)) order

-- each key is less than the next
abbrev pub AreApart : List Row → List ℕ → Type 0
AreApart keys order = (k : ℕ) (d : ℕ) → k + 1 < length order → is_lt (row_cmp (get_or keys (get_or order k d) []) (get_or keys (get_or order (k + 1) d) [])) ≡ true

-- in this order the groups are what is handed out
pub record AreOrdered (keys : List Row) (order : List ℕ) : Type 0 where
  pub groups : (rows : List ℕ) (columns : List ColumnSpec) → IsInOrder keys rows columns (groups_at keys rows columns order)
  pub within : All (λ group_index. group_index < length keys) order

-- each has a key, a row count and a state in each column
pub record AreThere (keys : List Row) (rows : List ℕ) (columns : List ColumnSpec) (order : List ℕ) : Type 0 where
  pub within : All (λ group_index. group_index < length keys) order
  pub counted : length rows ≡ length keys
  pub heights : All (λ c. length c.states ≡ length keys) columns
