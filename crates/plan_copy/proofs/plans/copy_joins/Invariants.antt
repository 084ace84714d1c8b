-- Loop invariants of `copy_joins` (`plans`).
use Rattle.std.proofs.Common.{◌≡◌, take}
use Rattle.plan_copy.proofs.plans.copy_joins.Given as goal

abbrev pub invariant-loop-join : goal.invariant-loop-join
invariant-loop-join l = l.copies ≡ take l.join-index l.joins
