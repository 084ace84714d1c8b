-- What a query gives.
use Rattle.std.specs.Prelude.{ℕ, List}
use Rattle.meaning.specs.declared.answer.RowFault.{RowFault}
use Rattle.meaning.specs.Order.{Row}
use Rattle.meaning.specs.Finish.{Finished, Rows, Refusal}

-- rows, a fault over groups, or the fault of a row
pub data Output : Type 0 where
  rows : List Row → Output
  final_fault : ℕ → Output
  row_fault : RowFault → Output

-- where no row has a fault it is what the last step gives
abbrev pub output_behind : Finished → Output
output_behind (Rows shown) = rows shown
output_behind (Refusal c) = final_fault c
