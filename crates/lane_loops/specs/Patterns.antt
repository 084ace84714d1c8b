-- Patterns of LIKE, by how texts are searched for them.
use Rattle.std.specs.Prelude.{◌≡◌, ℕ, true, List, [], ◌∷◌, ◌++◌}
use Rattle.std.specs.Str.{is_utf8}
use Rattle.meaning.specs.ExpressionLaws.{is_plain}
use Rattle.lane_loops.specs.declared.like.Search.{Search}
use Rattle.lane_loops.specs.declared.like.Search.TheVariants.{Equal, Prefix, Suffix, Within, Wildcards}

-- the pattern's bytes; `%` is 37
abbrev pub pattern_of : Search → List ℕ
pattern_of (Equal part) = part.now
pattern_of (Prefix part) = part.now ++ 37 ∷ []
pattern_of (Suffix part) = 37 ∷ part.now
pattern_of (Within finder) = 37 ∷ (finder ++ 37 ∷ [])
pattern_of (Wildcards pattern) = pattern.now

-- a text without `%` and `_`
abbrev pub IsPart : List ℕ → Type 0
IsPart part = (is_utf8 part ≡ true) × (is_plain part ≡ true)

-- what is searched for by its bytes alone is such a text
abbrev pub IsSound : Search → Type 0
IsSound (Equal part) = IsPart part.now
IsSound (Prefix part) = IsPart part.now
IsSound (Suffix part) = IsPart part.now
IsSound (Within finder) = IsPart finder
IsSound (Wildcards pattern) = Unit {0}
