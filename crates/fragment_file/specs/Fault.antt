-- The error codes of refusals, and what a refusal of `wire` is here.
use Rattle.std.specs.Prelude.{ℕ, Result, Ok, Err}
use Rattle.wire.specs.declared.fault.WireFault.{WireFault}
use Rattle.wire.specs.declared.fault.WireFault.TheVariants as of_wire
use Rattle.fragment_file.specs.declared.fault.FileFault.{FileFault}
use Rattle.fragment_file.specs.declared.fault.FileFault.TheVariants.{Memory, Magic, Truncated, TrailingBytes, Seal, Block, Header, Limit, Device}

abbrev pub number_of : FileFault → ℕ
number_of Memory = 0
number_of Magic = 1
number_of Truncated = 2
number_of TrailingBytes = 3
number_of Seal = 4
number_of (Block group column) = 5
number_of Header = 6
number_of Limit = 7
number_of Device = 8

-- a name that isn't UTF-8 isn't in its form
abbrev pub fault_of : WireFault → FileFault
fault_of of_wire.Magic = Magic
fault_of of_wire.Truncated = Truncated
fault_of of_wire.NotUtf8 = Header
fault_of of_wire.TrailingBytes = TrailingBytes
fault_of of_wire.Seal = Seal

abbrev pub from_wire : {X : Type 0} → Result X WireFault → Result X FileFault
from_wire (Ok x) = Ok x
from_wire (Err e) = Err (fault_of e)

-- why bytes are not read: all but a device that failed
abbrev pub IsReadFault : FileFault → Type 0
IsReadFault Memory = Unit {0}
IsReadFault Magic = Unit {0}
IsReadFault Truncated = Unit {0}
IsReadFault TrailingBytes = Unit {0}
IsReadFault Seal = Unit {0}
IsReadFault (Block group column) = Unit {0}
IsReadFault Header = Unit {0}
IsReadFault Limit = Unit {0}
IsReadFault Device = ⊥
