-- What words say of a command.
use Rattle.std.specs.Prelude.{◌≡◌, ◌⊎◌, ℕ, ◌<◌, ◌^◌, true, if◌then◌else◌, List, [], ◌∷◌, codes, Option, Some, None, Result, MatchResult}
use Rattle.command_line.specs.declared.commands.Command.{Command}
use Rattle.command_line.specs.declared.commands.Command.TheVariants.{Whole, Load, Work, Gather}
use Rattle.command_line.specs.Command.{IsInRange}
use Rattle.command_line.specs.declared.usage_fault.UsageFault.{UsageFault}
use Rattle.command_line.specs.declared.usage_fault.UsageFault.TheVariants.{Memory}
use Rattle.command_line.specs.Words.{AreParts, IsNumber, Named, Word, are_among, values}

-- the option, with this text
abbrev pub HasText : Word → List Named → Word → Type 0
HasText name named text = values name named ≡ text ∷ []

-- the option, with this text, or neither
abbrev pub HasTextOrNone : Word → List Named → Option Word → Type 0
HasTextOrNone name named (Some text) = HasText name named text
HasTextOrNone name named None = values name named ≡ []

-- the option, with digits of this number
abbrev pub HasNumber : Word → List Named → ℕ → Type 0
HasNumber name named n = (digits : Word) × HasText name named digits × IsNumber digits n

-- the option, with digits of this number, which has 32 bits, or neither
abbrev pub HasNumberOrNone : Word → List Named → Option ℕ → Type 0
HasNumberOrNone name named (Some n) = HasNumber name named n × (n < 2 ^ 32)
HasNumberOrNone name named None = values name named ≡ []

-- the option, with digits of this number, or no such option and 1,024
abbrev pub HasVector : List Named → ℕ → Type 0
HasVector named n = HasNumber (codes "vector") named n ⊎ ((values (codes "vector") named ≡ []) × (n ≡ 1024))

abbrev pub name_of : Command → Word
name_of (Whole folder query rows vector) = codes "whole"
name_of (Load folder load rows) = codes "load"
name_of (Work command) = codes "work"
name_of (Gather command) = codes "gather"

-- the options that the command may have
abbrev pub options_of : Command → List Word
options_of (Whole folder query rows vector) = codes "query" ∷ codes "rows" ∷ codes "vector" ∷ []
options_of (Load folder load rows) = codes "load" ∷ codes "rows" ∷ []
options_of (Work command) = codes "query" ∷ codes "fragment" ∷ codes "out" ∷ codes "vector" ∷ []
options_of (Gather command) = codes "query" ∷ codes "save" ∷ codes "journal" ∷ []

-- its flags
abbrev pub flags_in : Command → List Word
flags_in (Whole folder query rows vector) = []
flags_in (Load folder load rows) = []
flags_in (Work command) = []
flags_in (Gather command) = if command.preview then codes "preview" ∷ [] else []

-- its words that are no options
abbrev pub plain_words : Command → List Word
plain_words (Whole folder query rows vector) = folder ∷ []
plain_words (Load folder load rows) = folder ∷ []
plain_words (Work command) = command.folder ∷ []
plain_words (Gather command) = command.folder ∷ command.files

-- the option, with digits of this number, which has 64 bits
abbrev pub HasLoad : List Named → ℕ → Type 0
HasLoad named n = HasNumber (codes "load") named n × (n < 2 ^ 64)

-- what its options say
abbrev pub HasOptions : List Named → Command → Type 0
HasOptions named (Whole folder query rows vector) = HasText (codes "query") named query × HasNumber (codes "rows") named rows × HasVector named vector
HasOptions named (Load folder load rows) = HasLoad named load × HasNumber (codes "rows") named rows
HasOptions named (Work command) = HasText (codes "query") named command.query × HasNumber (codes "fragment") named command.fragment × HasText (codes "out") named command.out × HasVector named command.vector
HasOptions named (Gather command) = HasText (codes "query") named command.query × HasTextOrNone (codes "save") named command.save × HasTextOrNone (codes "journal") named command.journal

-- the command of that name, with these options, flags and plain words
pub record IsOf (name : Word) (named : List Named) (flags plain : List Word) (command : Command) : Type 0 where
  pub is : name_of command ≡ name
  pub flags_are : flags_in command ≡ flags
  pub words : plain_words command ≡ plain
  pub among : are_among (options_of command) named ≡ true
  pub options : HasOptions named command

-- Words say a command: its name, and then its options and flags, each once at most, and its plain words.
abbrev pub IsSaid : List Word → Command → Type 0
IsSaid words command = (rest : List Word) × (named : List Named) × (words ≡ name_of command ∷ rest) × AreParts rest named (flags_in command) (plain_words command)
    × (are_among (options_of command) named ≡ true) × HasOptions named command

-- The words ask for this command: they say it, and each of its numbers is one that it may have.
abbrev pub AreWordsOf : List Word → Command → Type 0
AreWordsOf words command = IsSaid words command × IsInRange command

-- a command that the words ask for is given, unless memory is wanting
abbrev pub TakesWords : List Word → Result Command UsageFault → Type 0
TakesWords words result = (command : Command) → AreWordsOf words command → MatchResult result (λ given. given ≡ command) (λ fault. fault ≡ Memory)

-- what was read off the words is any command that they ask for
abbrev pub IsReadOff : List Word → Option Command → Type 0
IsReadOff words read = (command : Command) → AreWordsOf words command → read ≡ Some command

-- what was read off these parts is any command that has them
abbrev pub IsMadeOf : Word → List Named → List Word → List Word → Option Command → Type 0
IsMadeOf name named flags plain made = (command : Command) → IsOf name named flags plain command → IsInRange command → made ≡ Some command
