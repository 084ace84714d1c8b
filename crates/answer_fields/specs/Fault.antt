-- Why bytes are no answer, or no state, for a job: the error codes, and what a refusal of `wire` is here.
use Rattle.std.specs.Prelude.{ℕ, Result, Ok, Err}
use Rattle.wire.specs.declared.fault.WireFault.{WireFault}
use Rattle.wire.specs.declared.fault.WireFault.TheVariants as of_wire
use Rattle.answer_fields.specs.declared.fault.DecodeFault.{DecodeFault}
use Rattle.answer_fields.specs.declared.fault.DecodeFault.TheVariants.{Memory, Magic, Truncated, TrailingBytes, Seal, OtherLoad, OtherQuery, OtherCut, UnsortedGroups, Shape, Numbers}

-- the error code
abbrev pub number_of : DecodeFault → ℕ
number_of Memory = 0
number_of Magic = 1
number_of Truncated = 2
number_of TrailingBytes = 3
number_of Seal = 4
number_of OtherLoad = 5
number_of OtherQuery = 6
number_of OtherCut = 7
number_of UnsortedGroups = 8
number_of Shape = 9
number_of Numbers = 10

abbrev pub fault_of : WireFault → DecodeFault
fault_of of_wire.Magic = Magic
fault_of of_wire.Truncated = Truncated
fault_of of_wire.NotUtf8 = Shape
fault_of of_wire.TrailingBytes = TrailingBytes
fault_of of_wire.Seal = Seal

abbrev pub from_wire : {X : Type 0} → Result X WireFault → Result X DecodeFault
from_wire (Ok x) = Ok x
from_wire (Err e) = Err (fault_of e)
