-- The error codes of a report that wasn't printed whole.
use Rattle.std.specs.Prelude.{ℕ}
use Rattle.last_step.specs.declared.print_fault.PrintFault.{PrintFault}
use Rattle.last_step.specs.declared.print_fault.PrintFault.TheVariants as fault

abbrev pub number_of : PrintFault → ℕ
number_of fault.Memory = 0
number_of fault.Writer = 1
