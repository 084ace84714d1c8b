-- The word `--progress`, which the program takes out of a command's words.
use Rattle.std.specs.Prelude.{ℕ, Bool, false, true, ◌||◌, if◌then◌else◌, List, [], ◌∷◌, codes, bytes_eq}
use Rattle.xcols.specs.declared.progress_word.Next.{Next}
use Rattle.xcols.specs.declared.progress_word.Next.TheVariants.{Any, Value, Plain}

-- the commands that take it
abbrev pub takes_progress : List ℕ → Bool
takes_progress word = (bytes_eq word (codes "load") || bytes_eq word (codes "whole")) || bytes_eq word (codes "gather")

-- an option without `=`, whose value is the next word
abbrev pub awaits_value : List ℕ → Bool
awaits_value word = ((((bytes_eq word (codes "--query") || bytes_eq word (codes "--save")) || bytes_eq word (codes "--journal"))
    || bytes_eq word (codes "--load")) || bytes_eq word (codes "--rows")) || bytes_eq word (codes "--vector")

-- The words without each `--progress` that is a flag: one that stands in front of `--`, and isn't the value that the option
-- before it awaits.
abbrev pub unflagged : Bool → List (List ℕ) → List (List ℕ)
unflagged awaited [] = []
unflagged true (value ∷ words) = value ∷ unflagged false words
unflagged false (word ∷ words) =
    if bytes_eq word (codes "--") then word ∷ words
    else (if bytes_eq word (codes "--progress") then unflagged false words else word ∷ unflagged (awaits_value word) words)

-- the program's words without those flags
abbrev pub without_progress : List (List ℕ) → List (List ℕ)
without_progress [] = []
without_progress (command ∷ words) = if takes_progress command then unflagged false (command ∷ words) else command ∷ words

-- the words that are left, the first of which is that, without the flags
abbrev pub unflagged_from : Next → List (List ℕ) → List (List ℕ)
unflagged_from Any words = unflagged false words
unflagged_from Value words = unflagged true words
unflagged_from Plain words = words
