-- The bytes in front of a text that a reader gives.
use Rattle.std.specs.Prelude.{◌≡◌, ◌<◌, ℕ, List, [], ◌∷◌, ◌++◌, length, Option, Some}

-- a byte order mark
abbrev pub mark : List ℕ
mark = 0xEF ∷ 0xBB ∷ 0xBF ∷ []

-- of these bytes those in front were read, and the others are left
abbrev pub IsFront : Option (List ℕ) → List ℕ → List ℕ → Type 0
IsFront left bytes front = (rest : List ℕ) × (left ≡ Some rest) × (bytes ≡ front ++ rest)

-- the same, of as many as three bytes, or of all
abbrev pub AreFirst : Option (List ℕ) → List ℕ → List ℕ → Type 0
AreFirst left bytes front = (rest : List ℕ) × (left ≡ Some rest) × (bytes ≡ front ++ rest) × (length front < 3 → rest ≡ [])
