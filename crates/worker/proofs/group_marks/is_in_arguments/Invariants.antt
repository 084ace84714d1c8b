-- Loop invariants of `is_in_arguments` (`group_marks`).
use Rattle.std.proofs.Common.{◌≡◌, drop}
use Rattle.std.specs.List.{list_any}
use Rattle.worker.specs.Packed.{names}
use Rattle.worker.proofs.group_marks.is_in_arguments.Given as goal

abbrev pub invariant-loop-aggregate : goal.invariant-loop-aggregate
invariant-loop-aggregate l = list_any (λ a. names l.column a.argument) (drop l.aggregate-index l.aggregates) ≡ list_any (λ a. names l.column a.argument) l.aggregates
