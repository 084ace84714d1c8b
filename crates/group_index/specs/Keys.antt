-- The keys of an index.
use Rattle.std.specs.Prelude.{◌≡◌, ◌≢◌, ℕ, Bool, true, false, ◌-◌, ◌^◌, ◌<◌, List, [], ◌∷◌, length, get_or}
use Rattle.meaning.specs.Order.{Row}

-- the empty key, if it has a group in any case
abbrev pub empty_key : Bool → List Row
empty_key true = [] ∷ []
empty_key false = []

-- a group index that was found for the k-th of some keys, unless it is none, is that of the key
abbrev pub IsLed : List Row → List Row → List ℕ → ℕ → Type 0
IsLed keys found group_indexes k = get_or group_indexes k 0 ≢ 2 ^ 32 - 1
    → (get_or group_indexes k 0 < length keys) × (get_or keys (get_or group_indexes k 0) [] ≡ get_or found k [])
