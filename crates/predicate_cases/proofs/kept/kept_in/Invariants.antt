-- Loop invariants of `kept_in` (`kept`).
use Rattle.std.proofs.Common.{◌-◌, ◌≤◌, length}
use Rattle.predicate_cases.proofs.kept.kept_in.Given as goal

abbrev pub invariant-loop-alloc : goal.invariant-loop-alloc
invariant-loop-alloc l = length l.kept.items ≤ l.rows

abbrev pub decreases-loop-alloc : goal.decreases-loop-alloc
decreases-loop-alloc l = l.rows - length l.kept.items
