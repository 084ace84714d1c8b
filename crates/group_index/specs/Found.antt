-- What a search finds: the group indexes of keys, of which those that had none get one.
use Rattle.std.specs.Prelude.{◌≡◌, ℕ, ◌<◌, ◌≤◌, List, [], length, get_or}
use Rattle.meaning.specs.Order.{Row}

-- a key's group index among others, to which it came where it had none
pub record IsFound (key : Row) (old : List Row) (group_index : ℕ) (new : List Row) : Type 0 where
  pub within : group_index < length new
  pub is : get_or new group_index [] ≡ key
  pub kept : (j : ℕ) → j < length old → (j < length new) × (get_or new j [] ≡ get_or old j [])
  pub added : (j : ℕ) → length old ≤ j → j < length new → get_or new j [] ≡ key

-- a group index for each of some keys
pub record AreFound (found : List Row) (old : List Row) (group_indexes : List ℕ) (new : List Row) : Type 0 where
  pub long : length group_indexes ≡ length found
  pub within : (k : ℕ) → k < length found → get_or group_indexes k 0 < length new
  pub are : (k : ℕ) → k < length found → get_or new (get_or group_indexes k 0) [] ≡ get_or found k []
  pub kept : (j : ℕ) → j < length old → (j < length new) × (get_or new j [] ≡ get_or old j [])
  pub added : (j : ℕ) → length old ≤ j → j < length new → (k : ℕ) × (k < length found) × (get_or found k [] ≡ get_or new j [])
