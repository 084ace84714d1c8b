-- Loop invariants of `are_same_joins` (`plans`).
use Rattle.std.proofs.Common.{◌≡◌, take}
use Rattle.plan_equality.proofs.plans.are_same_joins.Given as goal

abbrev pub invariant-loop-i : goal.invariant-loop-i
invariant-loop-i l = take l.i l.a ≡ take l.i l.b
