-- Invariants of `expand` (`expanding`).
use Rattle.std.proofs.Common.{length}
use Rattle.last_step.proofs.Repeating.{AreLeft}
use Rattle.last_step.proofs.expanding.expand.Given as goal

abbrev pub invariant-loop-row : goal.invariant-loop-row
invariant-loop-row l = AreLeft l.limit l.rows l.runs.items l.fn.runs.items

abbrev pub decreases-loop-row : goal.decreases-loop-row
decreases-loop-row l = length l.runs.items
