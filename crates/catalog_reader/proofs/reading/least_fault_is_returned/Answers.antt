-- Proofs of the goals of `least_fault_is_returned` (`reading`).
use Rattle.catalog_reader.proofs.FirstFault.{faultless-from_none, none-from_faultless, first-from_some, some-from_first}
use Rattle.catalog_reader.proofs.reading.least_fault_is_returned.Goals as goal

pub returns : goal.returns
returns c = record {
  none = λ lines. (faultless-from_none lines, none-from_faultless lines);
  some = λ lines fault. (first-from_some lines fault, some-from_first lines fault);
}
