-- Proofs of the goals of `runs_mean` (`laws`).
use Rattle.program_laws.proofs.Program.{runs_mean}
use Rattle.program_laws.proofs.laws.runs_mean.Goals as goal

pub returns : goal.returns
returns c = runs_mean
