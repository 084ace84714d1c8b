-- Proofs of the goals of `runs_hold_acknowledged` (`laws`).
use Rattle.journal.proofs.WholeRuns.{runs_hold}
use Rattle.journal.proofs.laws.runs_hold_acknowledged.Goals as goal

pub returns : goal.returns
returns c = runs_hold
