-- What words say of a tool.
use Rattle.std.specs.Prelude.{◌≡◌, ◌⊎◌, ◌≤◌, ⊤, true, if◌then◌else◌, List, [], ◌∷◌, codes, length, Option, Some, Result, MatchResult}
use Rattle.command_line.specs.Said.{HasNumberOrNone, HasText, HasTextOrNone}
use Rattle.command_line.specs.Words.{AreParts, Named, Word, are_among}
use Rattle.command_line.specs.declared.usage_fault.UsageFault.{UsageFault}
use Rattle.command_line.specs.declared.usage_fault.UsageFault.TheVariants.{Memory}
use Rattle.tools.specs.declared.words.Tool.{Tool}
use Rattle.tools.specs.declared.words.Tool.TheVariants.{Check, Explain, Init, Refusal, Show, Version}
use Rattle.tools.specs.Words.{asks_version}

-- the tool's name is this word; the version has none, as it isn't asked for by a name
abbrev pub HasName : Word → Tool → Type 0
HasName name (Init words) = codes "init" ≡ name
HasName name (Refusal words) = codes "refusal" ≡ name
HasName name (Explain words) = codes "explain" ≡ name
HasName name (Show words) = codes "show" ≡ name
HasName name (Check words) = codes "check" ≡ name
HasName name Version = ⊥

-- the options that the tool may have
abbrev pub options_of : Tool → List Word
options_of (Init words) = codes "fact" ∷ []
options_of (Refusal words) = []
options_of (Explain words) = codes "query" ∷ []
options_of (Show words) = codes "rows" ∷ []
options_of (Check words) = []
options_of Version = []

-- its flags
abbrev pub flags_in : Tool → List Word
flags_in (Init words) = []
flags_in (Refusal words) = []
flags_in (Explain words) = []
flags_in (Show words) = if words.groups then codes "groups" ∷ [] else []
flags_in (Check words) = []
flags_in Version = []

-- its words that are no options
abbrev pub plain_words : Tool → List Word
plain_words (Init words) = words.folder ∷ []
plain_words (Refusal words) = words
plain_words (Explain words) = words.folder ∷ []
plain_words (Show words) = words.path ∷ []
plain_words (Check words) = words.folder ∷ []
plain_words Version = []

-- what its options say
abbrev pub HasOptions : List Named → Tool → Type 0
HasOptions named (Init words) = HasTextOrNone (codes "fact") named words.fact
HasOptions named (Refusal words) = ⊤
HasOptions named (Explain words) = HasText (codes "query") named words.query
HasOptions named (Show words) = HasNumberOrNone (codes "rows") named words.rows
HasOptions named (Check words) = ⊤
HasOptions named Version = ⊤

-- the line of a refusal has a word
abbrev pub HasLine : Tool → Type 0
HasLine (Init words) = ⊤
HasLine (Refusal words) = 1 ≤ length words
HasLine (Explain words) = ⊤
HasLine (Show words) = ⊤
HasLine (Check words) = ⊤
HasLine Version = ⊤

-- the tool of that name, with these options, flags and plain words
pub record IsOf (name : Word) (named : List Named) (flags plain : List Word) (tool : Tool) : Type 0 where
  pub is : HasName name tool
  pub flags_are : flags_in tool ≡ flags
  pub words : plain_words tool ≡ plain
  pub among : are_among (options_of tool) named ≡ true
  pub options : HasOptions named tool
  pub line : HasLine tool

-- Words ask for a tool by its name, and then its options and flags, each once at most, and its plain words.
abbrev pub AreNamed : List Word → Tool → Type 0
AreNamed words tool = (name : Word) × (rest : List Word) × (named : List Named) × (words ≡ name ∷ rest) × HasName name tool
    × AreParts rest named (flags_in tool) (plain_words tool) × (are_among (options_of tool) named ≡ true) × HasOptions named tool × HasLine tool

-- words ask for a tool by its name, or for the version
abbrev pub AreWordsOf : List Word → Tool → Type 0
AreWordsOf words tool = AreNamed words tool ⊎ ((tool ≡ Version) × (asks_version words ≡ true))

-- a tool that the words ask for is given, unless memory is wanting
abbrev pub TakesWords : List Word → Result (Option Tool) UsageFault → Type 0
TakesWords words result = (tool : Tool) → AreWordsOf words tool → MatchResult result (λ given. given ≡ Some tool) (λ fault. fault ≡ Memory)

-- what was read off the words is any tool that they ask for by its name
abbrev pub IsReadOff : List Word → Option Tool → Type 0
IsReadOff words read = (tool : Tool) → AreNamed words tool → read ≡ Some tool

-- what was read off these parts is any tool that has them
abbrev pub IsMadeOf : Word → List Named → List Word → List Word → Option Tool → Type 0
IsMadeOf name named flags plain made = (tool : Tool) → IsOf name named flags plain tool → made ≡ Some tool
