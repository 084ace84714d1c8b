-- What the words behind a command's name say.
use Rattle.std.specs.Prelude.{◌≡◌, ◌⊎◌, ℕ, Bool, List, [], ◌∷◌, ◌++◌, map, codes, ◌≢◌, get_or, ◌<◌, length}
use Rattle.std.specs.Prelude.{filter}
use Rattle.std.specs.List.{list_all, list_any}
use Rattle.std.specs.Str.Parse.{IsNumeral, digits_value}
use Rattle.std.specs.Cmp.Lexicographic.{pointwise}
use Rattle.std.specs.Prelude.{nat_eq}
use Rattle.command_line.specs.declared.parts.Given.{Given}

abbrev pub Word : Type 0
Word = List ℕ

-- an option's name and its value
abbrev pub Named : Type 0
Named = Word × Word

-- a name without `=`
abbrev pub IsName : Word → Type 0
IsName name = (i : ℕ) → i < length name → get_or name i 0 ≢ 61

-- an option that has no value, of `gather` or of the tool `show`
abbrev pub IsFlag : Word → Type 0
IsFlag name = (name ≡ codes "preview") ⊎ (name ≡ codes "groups")

-- no hyphen in front, or a hyphen alone
abbrev pub IsPlain : Word → Type 0
IsPlain word = (rest : Word) → word ≡ codes "-" ++ rest → rest ≡ []

-- the word may be an option's value where it stands behind the option's name: a query is any word
abbrev pub MayBeValue : Word → Word → Type 0
MayBeValue name word = (name ≡ codes "query") ⊎ IsPlain word

-- Options, each with its value as the next word or behind `=`, flags, and plain words, in any order. Behind `--` all words are
-- plain.
pub data AreParts : List Word → List Named → List Word → List Word → Type 0 where
  nothing : AreParts [] [] [] []
  apart : {ws : List Word} {named : List Named} {flags plain : List Word} (name value : Word) → IsName name → name ≢ [] → (IsFlag name → ⊥) → MayBeValue name value → AreParts ws named flags plain → AreParts ((codes "--" ++ name) ∷ value ∷ ws) ((name, value) ∷ named) flags plain
  joined : {ws : List Word} {named : List Named} {flags plain : List Word} (name value : Word) → IsName name → AreParts ws named flags plain → AreParts ((codes "--" ++ (name ++ (codes "=" ++ value))) ∷ ws) ((name, value) ∷ named) flags plain
  flag : {ws : List Word} {named : List Named} {flags plain : List Word} (name : Word) → IsFlag name → AreParts ws named flags plain → AreParts ((codes "--" ++ name) ∷ ws) named (name ∷ flags) plain
  word : {ws : List Word} {named : List Named} {flags plain : List Word} (w : Word) → IsPlain w → AreParts ws named flags plain → AreParts (w ∷ ws) named flags (w ∷ plain)
  behind : (ws : List Word) → AreParts (codes "--" ∷ ws) [] [] ws

-- the values of an option
abbrev pub values : Word → List Named → List Word
values name named = map (λ n. n.1) (filter (λ n. pointwise nat_eq n.0 name) named)

abbrev pub named_of : Given → Named
named_of g = (g.name.now, g.value.now)

-- digits alone, and their number
abbrev pub IsNumber : Word → ℕ → Type 0
IsNumber digits n = IsNumeral 10 digits × (digits_value 10 digits ≡ n)

-- each option is one of these
abbrev pub are_among : List Word → List Named → Bool
are_among names named = list_all (λ n. list_any (pointwise nat_eq n.0) names) named
