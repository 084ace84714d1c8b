-- Invariants of `push_grouped` (`showing`).
use Rattle.std.proofs.Common.{◌≡◌, length}
use Rattle.last_step.specs.Best.{best_of}
use Rattle.last_step.specs.Fitting.{AreGroupsOf}
use Rattle.last_step.specs.Runs.{expanded, rows_after}
use Rattle.last_step.proofs.showing.push_grouped.Given as goal

abbrev pub invariant-loop-rest : goal.invariant-loop-rest
invariant-loop-rest l = AreGroupsOf l.plan l.rest × (best_of l.plan (rows_after l.plan (expanded l.runs.items) l.rest) ≡ best_of l.plan (rows_after l.plan (expanded l.fn.runs.items) l.fn.groups))

abbrev pub decreases-loop-rest : goal.decreases-loop-rest
decreases-loop-rest l = length l.rest
