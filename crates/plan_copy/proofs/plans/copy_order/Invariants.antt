-- Loop invariants of `copy_order` (`plans`).
use Rattle.std.proofs.Common.{◌≡◌, take}
use Rattle.plan_copy.proofs.plans.copy_order.Given as goal

abbrev pub invariant-loop-key : goal.invariant-loop-key
invariant-loop-key l = l.copies ≡ take l.key-index l.order
