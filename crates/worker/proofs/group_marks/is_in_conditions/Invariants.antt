-- Loop invariants of `is_in_conditions` (`group_marks`).
use Rattle.std.proofs.Common.{◌≡◌, drop}
use Rattle.worker.specs.Packed.{any_unmarked}
use Rattle.worker.proofs.group_marks.is_in_conditions.Given as goal

abbrev pub invariant-loop-at : goal.invariant-loop-at
invariant-loop-at l = any_unmarked l.column (drop l.at l.conditions) (drop l.at l.marks) ≡ any_unmarked l.column l.conditions l.marks
