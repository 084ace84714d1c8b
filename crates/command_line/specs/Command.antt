-- The commands that the program takes.
use Rattle.std.specs.Prelude.{◌≤◌, ◌<◌, length}
use Rattle.meaning.specs.Limits.{max_fragments, max_rows, max_vector_rows}
use Rattle.command_line.specs.declared.commands.Command.{Command}
use Rattle.command_line.specs.declared.commands.Command.TheVariants.{Whole, Load, Work, Gather}

-- each number of a command is one that it may have
abbrev pub IsInRange : Command → Type 0
IsInRange (Whole folder query rows vector) = ((1 ≤ rows) × (rows ≤ max_rows)) × ((1 ≤ vector) × (vector ≤ max_vector_rows))
IsInRange (Load folder load rows) = (1 ≤ rows) × (rows ≤ max_rows)
IsInRange (Work command) = (command.fragment < max_fragments) × ((1 ≤ command.vector) × (command.vector ≤ max_vector_rows))
IsInRange (Gather command) = 1 ≤ length command.files
