-- Which lines an entry is of.
use Rattle.std.specs.Prelude.{◌≡◌, ◌⊎◌, ℕ, ◌==◌, Bool, false, true, ◌&&◌, ◌||◌, nat_le, List, [], ◌∷◌, ◌++◌, codes, decimal}
use Rattle.refusals.specs.declared.entries.Entry.{Entry}

-- a word and an error code
abbrev pub code_line : List ℕ → ℕ → List ℕ
code_line word number = word ++ (codes " " ++ decimal number)

-- the name of what differs from one refusal to the next, which is in capitals
abbrev pub is_name : List ℕ → Bool
is_name [] = false
is_name (letter ∷ rest) = nat_le 65 letter && nat_le letter 90

-- behind the words of a line: nothing, such a name, the comma in front of the next line, or a colon, which may be left out of the
-- words
abbrev pub may_follow : List ℕ → Bool
may_follow [] = true
may_follow (byte ∷ rest) = (byte == 44 || byte == 58) || (byte == 32 && is_name rest)

-- in front of a line: nothing, or other lines
abbrev pub MayPrecede : List ℕ → Type 0
MayPrecede before = (before ≡ []) ⊎ ((others : List ℕ) × (before ≡ others ++ codes ", "))

-- these are the words of one of the entry's lines
pub record IsOf (words : List ℕ) (entry : Entry) : Type 0 where
  pub before : List ℕ
  pub behind : List ℕ
  pub lines_are : entry.lines.now ≡ before ++ (words ++ behind)
  pub precedes : MayPrecede before
  pub follows : may_follow behind ≡ true

-- one of the entry's lines has this word and this error code
pub record IsOfCode (word : List ℕ) (number : ℕ) (entry : Entry) : Type 0 where
  pub line : IsOf (code_line word number) entry
