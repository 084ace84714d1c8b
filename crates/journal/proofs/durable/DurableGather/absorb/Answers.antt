-- Proofs of the goals of `DurableGather::absorb` (`durable`).
use Rattle.journal.proofs.Kept.{stays_lean, unchanged}
use Rattle.journal.proofs.durable.DurableGather.absorb.Goals as goal

pub returns-in_err-answer-clause-any_moment : goal.returns-in_err-answer-clause-any_moment
returns-in_err-answer-clause-any_moment g c = unchanged c.self.inside.gate _ _ c.args.bytes.now c.self.view_is c.self.invariant

pub returns-in_err-answer-clause-lean : goal.returns-in_err-answer-clause-lean
returns-in_err-answer-clause-lean g c = stays_lean c.self.inside.gate _ _ c.self.view_is c.self.invariant
