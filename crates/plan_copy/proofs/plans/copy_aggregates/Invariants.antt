-- Loop invariants of `copy_aggregates` (`plans`).
use Rattle.std.proofs.Common.{◌≡◌, take}
use Rattle.plan_copy.proofs.plans.copy_aggregates.Given as goal

abbrev pub invariant-loop-aggregate : goal.invariant-loop-aggregate
invariant-loop-aggregate l = l.copies ≡ take l.aggregate-index l.aggregates
