-- Proofs of the goals of `take_answer` (`takes_answers`).
use Rattle.std.proofs.Common.{false}
use Rattle.jobs.proofs.TakenFiles.{taken_answer}
use Rattle.jobs.proofs.takes_answers.take_answer.Goals as goal

pub returns-clause-taken : goal.returns-clause-taken
returns-clause-taken c = taken_answer false c.args.gather.now c.absorb.new.self c.args.bytes.now c.in_ok-absorb.field-0 c.requires c.in_ok-absorb.ensures.takes
