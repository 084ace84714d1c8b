-- The error codes of aggregates that have no value.
use Rattle.std.specs.Prelude.{ℕ, Option, Some, None}
use Rattle.aggregate_states.specs.declared.fault.AggFault.{AggFault}
use Rattle.aggregate_states.specs.declared.fault.AggFault.TheVariants as fault

abbrev pub number_of : AggFault → ℕ
number_of fault.Memory = 0
number_of fault.SumOutOfRange = 3

-- the fault that is returned, if it isn't that memory was wanting
abbrev pub fault_returned : AggFault → Option ℕ
fault_returned fault.Memory = None
fault_returned fault.SumOutOfRange = Some 3
