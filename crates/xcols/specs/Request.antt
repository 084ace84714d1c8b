-- What the words of the command line ask for.
use Rattle.std.specs.Prelude.{ℕ, List, ⊤}
use Rattle.command_line.specs.Command.{IsInRange}
use Rattle.command_line.specs.Said.{IsSaid}
use Rattle.tools.specs.Said.{AreWordsOf as AreToolWords}
use Rattle.xcols.specs.declared.asking.Request.{Request}
use Rattle.xcols.specs.declared.asking.Request.TheVariants.{Tool, Command}

-- a command's numbers are in their ranges
abbrev pub IsRequestInRange : Request → Type 0
IsRequestInRange (Tool tool) = ⊤
IsRequestInRange (Command command) = IsInRange command

-- the words say the command, or the tool
abbrev pub AreWordsOf : List (List ℕ) → Request → Type 0
AreWordsOf words (Tool tool) = AreToolWords words tool
AreWordsOf words (Command command) = IsSaid words command
