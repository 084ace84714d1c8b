-- Loop invariants of `copy_columns` (`plans`).
use Rattle.std.proofs.Common.{◌≡◌, take}
use Rattle.plan_copy.proofs.plans.copy_columns.Given as goal

abbrev pub invariant-loop-column : goal.invariant-loop-column
invariant-loop-column l = l.copies ≡ take l.column-index l.columns
