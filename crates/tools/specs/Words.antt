-- Which words begin as those of a tool.
use Rattle.std.specs.Prelude.{ℕ, Bool, false, ◌||◌, if◌then◌else◌, List, [], ◌∷◌, codes, bytes_eq}

abbrev pub is_tool : List ℕ → Bool
is_tool word = ((((bytes_eq word (codes "init") || bytes_eq word (codes "explain")) || bytes_eq word (codes "show"))
    || bytes_eq word (codes "refusal")) || bytes_eq word (codes "check")) || bytes_eq word (codes "tools")

-- the first of these words is a tool's
abbrev pub begins_with_tool : List (List ℕ) → Bool
begins_with_tool [] = false
begins_with_tool (word ∷ words) = is_tool word

-- the version is asked for by one word alone
abbrev pub asks_version : List (List ℕ) → Bool
asks_version [] = false
asks_version (word ∷ []) = bytes_eq word (codes "--version") || bytes_eq word (codes "-V")
asks_version (word ∷ next ∷ words) = false

-- a tool by its name, or help on one
abbrev pub names_tool : List (List ℕ) → Bool
names_tool [] = false
names_tool (word ∷ words) = if bytes_eq word (codes "help") then begins_with_tool words else is_tool word

-- a tool, help on one, or the version
abbrev pub asks_tool : List (List ℕ) → Bool
asks_tool words = asks_version words || names_tool words
