-- Proofs of the goals of `take` of a `DurableGather` (`takes_answers`).
use Rattle.std.proofs.Common.{refl, true}
use Rattle.jobs.proofs.TakenFiles.{taken_answer}
use Rattle.jobs.proofs.takes_answers.DurableGatherTakesAnswers.take.Goals as goal

pub returns-in-Ok-clause-taken : goal.returns-in-Ok-clause-taken
returns-in-Ok-clause-taken g c =
    taken_answer true c.args.self.now.gather c.absorb.new.self.gather c.args.bytes.now c.in-Ok.field-0 refl c.in-Ok.ensures.takes
