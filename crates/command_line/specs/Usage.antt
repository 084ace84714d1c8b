-- Why words are no command, and how the program then ends.
use Rattle.std.specs.Prelude.{◌≢◌, ℕ}
use Rattle.std.specs.declared.io.ErrorKind as io
use Rattle.std.specs.declared.io.ErrorKind.TheVariants as kind
use Rattle.clap.specs.Words.{kind_of}
use Rattle.clap.specs.declared.error.Error.{Error}
use Rattle.clap.specs.declared.error.kind.ErrorKind.{ErrorKind}
use Rattle.clap.specs.declared.error.kind.ErrorKind.TheVariants.{OutOfMemory}
use Rattle.command_line.specs.declared.usage_fault.UsageFault.{UsageFault}
use Rattle.command_line.specs.declared.usage_fault.UsageFault.TheVariants.{Memory, Encoding, Words}

-- clap's error, which may be that memory ran out
abbrev pub of_clap : Error → ErrorKind → UsageFault
of_clap e OutOfMemory = Memory
of_clap e _ = Words e

-- the error of a program's arguments, which is that one is no text or that memory ran out
abbrev pub of_arguments : io.ErrorKind → UsageFault
of_arguments kind.OutOfMemory = Memory
of_arguments _ = Encoding

-- words that are no command end with 2, out of memory with 1
abbrev pub status_of : UsageFault → ℕ
status_of Memory = 1
status_of Encoding = 2
status_of (Words e) = 2

-- clap's text, unless memory ran out; of words that are texts no other is said
abbrev pub IsUsage : UsageFault → Type 0
IsUsage Memory = Unit {0}
IsUsage Encoding = ⊥
IsUsage (Words e) = kind_of e ≢ OutOfMemory
