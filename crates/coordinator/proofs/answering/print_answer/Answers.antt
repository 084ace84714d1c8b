-- Proofs of the goals of `print_answer` (`answering`).
use Rattle.meaning.specs.Gather.{report}
use Rattle.coordinator.proofs.Ends.{ends_so}
use Rattle.coordinator.proofs.answering.print_answer.Goals as goal

pub returns-in-Ok-clause-ended : goal.returns-in-Ok-clause-ended
returns-in-Ok-clause-ended g c = ends_so c.in-Ok.report _ (report c.args.gather.now.job.plan c.args.gather.now.cells) c.in-Ok.ensures.value c.ended_in.ensures
