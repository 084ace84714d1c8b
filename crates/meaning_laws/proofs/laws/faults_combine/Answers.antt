-- Proofs of the goals of `faults_combine` (`laws`).
use Rattle.meaning_laws.proofs.Combine.{row_fault-append}
use Rattle.meaning_laws.proofs.laws.faults_combine.Goals as goal

pub returns : goal.returns
returns c = row_fault-append
