-- Loop invariants of `is_foreign` (`group_marks`).
use Rattle.std.proofs.Common.{◌≡◌, drop}
use Rattle.std.specs.Prelude.{◌==◌}
use Rattle.std.specs.List.{list_any}
use Rattle.worker.proofs.group_marks.is_foreign.Given as goal

abbrev pub invariant-loop-join : goal.invariant-loop-join
invariant-loop-join l = list_any (λ j. j.foreign == l.column) (drop l.join-index l.joins) ≡ list_any (λ j. j.foreign == l.column) l.joins
