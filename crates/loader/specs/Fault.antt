-- The numbers of refusals, and what a call gives beside what is meant.
use Rattle.std.specs.Prelude.{ℕ, ⊤, Option, None, Some}
use Rattle.meaning.specs.declared.table.TableFault.{TableFault}
use Rattle.meaning.specs.Records as records
use Rattle.loader.specs.declared.fault.LoadFault.{LoadFault}
use Rattle.loader.specs.declared.fault.LoadFault.TheVariants.{Memory, Table, Device}

abbrev pub number_of : LoadFault → ℕ
number_of Memory = 0
number_of (Table fault) = records.number_of fault
number_of Device = 10

-- out of memory, or the reader failed
abbrev pub IsOutside : LoadFault → Type 0
IsOutside Memory = ⊤
IsOutside Device = ⊤
IsOutside (Table fault) = ⊥

-- the fault that is returned, where memory was not wanting and the reader did not fail
abbrev pub fault_returned : LoadFault → Option TableFault
fault_returned Memory = None
fault_returned (Table fault) = Some fault
fault_returned Device = None
