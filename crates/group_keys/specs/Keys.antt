-- Keys as they are kept.
use Rattle.std.specs.Prelude.{◌≡◌, ◌≢◌, ℕ, ℤ, ◌+◌, ◌-◌, ◌^◌, ◌<◌, ◌+ℤ◌, pos, Bool, true, List, [], ◌∷◌, length, map, get_or}
use Rattle.std.specs.Ordering.{is_lt}
use Rattle.meaning.specs.declared.value.Value.{Value}
use Rattle.meaning.specs.declared.value.Value.TheVariants.{Int}
use Rattle.meaning.specs.Order.{Row, row_cmp}
use Rattle.group_keys.specs.Rows.{int_keys}
use Rattle.group_keys.specs.declared.key_list.Held.{Held}
use Rattle.group_keys.specs.declared.key_list.Held.TheVariants as held

-- the keys of these values alone
abbrev pub alone : List Value → List Row
alone values = map (λ v. v ∷ []) values

abbrev pub rows_in : Held → List Row
rows_in (held.Ints n) = int_keys n.items
rows_in (held.Values v) = alone v.items
rows_in (held.Columns k) = k
rows_in (held.Rows r) = r.items

-- each entry of a table that is the group index of a key is that of the integer that is as far above the least as the
-- entry is behind the first
abbrev pub LeadsTo : ℤ → List ℕ → List Row → Type 0
LeadsTo least entries keys = (at : ℕ) → at < length entries → get_or entries at 0 ≢ 2 ^ 32 - 1
    → (get_or entries at 0 < length keys) × (get_or keys (get_or entries at 0) [] ≡ Int (least +ℤ pos at) ∷ [])

-- a group index that was found for the k-th integer, unless it is none, is that of its key
abbrev pub IsReturned : List Row → List ℤ → List ℕ → ℕ → Type 0
IsReturned keys ints group_indexes k = get_or group_indexes k 0 ≢ 2 ^ 32 - 1
    → (get_or group_indexes k 0 < length keys) × (get_or keys (get_or group_indexes k 0) [] ≡ Int (get_or ints k (pos 0)) ∷ [])

-- each key is less than the next
abbrev pub DoAscend : List Row → Type 0
DoAscend keys = (k : ℕ) (d : Row) → k + 1 < length keys → is_lt (row_cmp (get_or keys k d) (get_or keys (k + 1) d)) ≡ true

-- a key comes behind the last of others, if there is one
abbrev pub IsBehind : List Row → Row → Type 0
IsBehind keys key = (k : ℕ) (d : Row) → k + 1 ≡ length keys → is_lt (row_cmp (get_or keys k d) key) ≡ true

-- the table of integers leads to their keys, and the keys ascend where that was seen
pub record IsKept (least : ℤ) (entries : List ℕ) (do_ascend : Bool) (keys : List Row) : Type 0 where
  pub leads : LeadsTo least entries keys
  pub ascend : do_ascend ≡ true → DoAscend keys
