-- The slots of a hash table that a search looks at.
use Rattle.std.specs.Prelude.{◌≡◌, ◌≢◌, ℕ, ◌-◌, ◌/◌, ◌%◌, ◌^◌, ◌<◌, List, [], length, get_or}
use Rattle.meaning.specs.Order.{Row}
use Rattle.hash_slots.specs.Probing.{slot_at}
use Rattle.group_index.specs.declared.index.Slot.{Slot}

-- the part of a hash that is held
abbrev pub tag_in : ℕ → ℕ
tag_in hash = hash / 2 ^ 32 % 2 ^ 32

-- a slot leads to a key of this hash
pub record Leads (key : Row) (hash : ℕ) (keys : List Row) (s : Slot) : Type 0 where
  pub full : s.group_index ≢ 2 ^ 32 - 1
  pub tag : s.tag ≡ tag_in hash
  pub within : s.group_index < length keys
  pub is : get_or keys s.group_index [] ≡ key

-- a slot is there, and full
abbrev pub IsFull : List Slot → ℕ → Slot → Type 0
IsFull slots at d = (at < length slots) × ((get_or slots at d).group_index ≢ 2 ^ 32 - 1)

-- a search comes to so many steps: each slot before is there, and full
abbrev pub ComesTo : ℕ → List Slot → ℕ → Type 0
ComesTo hash slots step = (before : ℕ) (d : Slot) → before < step → IsFull slots (slot_at hash before (length slots)) d

-- no slot that a search comes to leads to the key
abbrev pub IsMissed : Row → ℕ → List Row → List Slot → Type 0
IsMissed key hash keys slots = (step : ℕ) (d : Slot) → step < length slots → ComesTo hash slots step
    → slot_at hash step (length slots) < length slots → Leads key hash keys (get_or slots (slot_at hash step (length slots)) d) → ⊥
