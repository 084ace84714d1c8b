-- Proofs of the goals of `posts_are_answers` (`laws`).
use Rattle.schedules.proofs.Taken.{reads_answer, spells_answer}
use Rattle.schedules.proofs.laws.posts_are_answers.Goals as goal

pub returns : goal.returns
returns c = λ job bytes a is_job fits. (spells_answer job bytes a fits, reads_answer job bytes a is_job)
