-- Ascending numbers in ranges.
use Rattle.std.specs.Prelude.{ℕ, ◌+◌, ◌==◌, if◌then◌else◌, List, [], ◌∷◌, ◌++◌, length, codes, decimal, Option, None, Some}
use Rattle.std.specs.List.{flat_map}

-- its first and its last number
abbrev pub Range : Type 0
Range = ℕ × ℕ

-- a range is one with that behind it, where this begins with the number after it
abbrev pub joined : Range → List Range → List Range
joined r [] = r ∷ []
joined r (next ∷ others) = if r.1 + 1 == next.0 then (r.0, next.1) ∷ others else r ∷ (next ∷ others)

-- the ranges of these numbers, each as long as can be
unfoldable pub ranges : List ℕ → List Range
ranges [] = []
ranges (n ∷ ns) = joined (n, n) (ranges ns)

-- a range of one number is that number
abbrev pub range_text : Range → List ℕ
range_text r = if r.0 == r.1 then codes " " ++ decimal r.0 else codes " " ++ decimal r.0 ++ codes "-" ++ decimal r.1

-- what is left to be written: a range that may still go on, if there is one, and these numbers behind it
abbrev pub pending : Option Range → List ℕ → List ℕ
pending None ns = flat_map range_text (ranges ns)
pending (Some r) ns = flat_map range_text (joined r (ranges ns))

-- how many numbers there are, and their ranges, behind a word
unfoldable pub ranges_line : List ℕ → List ℕ → List ℕ
ranges_line word ns = word ++ codes " " ++ decimal (length ns) ++ codes ":" ++ flat_map range_text (ranges ns) ++ codes "\n"
