-- Proofs of the goals of `answers_are_joined` (`laws`).
use Rattle.jobs.proofs.SameFiles.{say_same}
use Rattle.jobs.proofs.laws.answers_are_joined.Goals as goal

pub returns : goal.returns
returns c = say_same
