-- Proofs of the goals of `take_state` (`takes_answers`).
use Rattle.jobs.proofs.TakenFiles.{on_ok, taken_state}
use Rattle.jobs.proofs.takes_answers.take_state.Goals as goal

pub returns-clause-taken : goal.returns-clause-taken
returns-clause-taken c = on_ok c.absorb_state.result _ _ (taken_state c.args.gather.now c.absorb_state.new.self c.args.bytes.now c.requires) c.absorb_state.ensures.joins
