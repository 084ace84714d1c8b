-- Proofs of the goals of `own_answers_mean` (`laws`).
use Rattle.jobs.proofs.OwnFiles.{text_gathered}
use Rattle.jobs.proofs.laws.own_answers_mean.Goals as goal

pub returns : goal.returns
returns c = λ job dims rows takings whole all_in calm. text_gathered job.plan dims job.cut rows takings all_in whole calm
