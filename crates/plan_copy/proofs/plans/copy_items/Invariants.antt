-- Loop invariants of `copy_items` (`plans`).
use Rattle.std.proofs.Common.{◌≡◌, take}
use Rattle.plan_copy.proofs.plans.copy_items.Given as goal

abbrev pub invariant-loop-item : goal.invariant-loop-item
invariant-loop-item l = l.copies ≡ take l.item-index l.items
