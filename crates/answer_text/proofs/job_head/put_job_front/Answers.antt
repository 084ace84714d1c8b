-- Proofs of the goals of `put_job_front` (`job_head`).
use Rattle.std.proofs.Common.{append_assoc, rules}
use Rattle.answer_text.specs.Texts.{job_front}
use Rattle.answer_text.proofs.job_head.put_job_front.Goals as goal

pub returns : goal.returns
unfolding job_front
returns c = search (rules, append_assoc)
