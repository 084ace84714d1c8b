-- The faults among the answers in cells.
use Rattle.std.specs.Prelude.{List, flat_map, filter_map, Option, Some, None}
use Rattle.meaning.specs.declared.answer.RowFault.{RowFault}
use Rattle.meaning.specs.declared.answer.Body.TheVariants.{Groups, Fault}
use Rattle.meaning.specs.declared.answer.Cell.TheVariants.{Nothing, One, Conflict}
use Rattle.meaning.specs.Said.{Cell}
use Rattle.meaning.specs.Order.{least}
use Rattle.meaning.specs.Judge.{fault_cmp}
use Rattle.meaning.specs.Answer.{fault_of}
use Rattle.meaning.specs.Gather.{body_in}

-- the fault that the answer in the cell is, if it is one
abbrev pub fault_in : Cell → Option RowFault
fault_in Nothing = None
fault_in (One (Groups gs)) = None
fault_in (One (Fault f)) = Some f
fault_in Conflict = None

-- the fault of the least row that an answer has
abbrev pub least_fault : List Cell → Option RowFault
least_fault cells = least fault_cmp (flat_map fault_of (filter_map body_in cells))
