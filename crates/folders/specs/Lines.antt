-- The lines on standard error.
use Rattle.std.specs.Prelude.{ℕ, List, ◌∷◌, ◌++◌, [], codes, decimal, flat_map}

-- a word, an error code and its details, one space before each of them
abbrev pub numbered_line : List ℕ → ℕ → List (List ℕ) → List ℕ
numbered_line word number details = codes "xcols: " ++ word ++ 32 ∷ decimal number ++ flat_map (λ detail. 32 ∷ detail) details ++ 10 ∷ []
