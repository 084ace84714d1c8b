-- Loop invariants of `in_ons` (`reading`).
use Rattle.std.proofs.Common.{◌≡◌, drop}
use Rattle.std.specs.List.{list_any}
use Rattle.planner_expressions.specs.Uses.{names}
use Rattle.planner_clauses.specs.Checked.{on_trees}
use Rattle.planner.proofs.reading.in_ons.Given as goal

abbrev pub invariant-loop-joined : goal.invariant-loop-joined
invariant-loop-joined l = list_any (names l.column) (on_trees (drop l.joined-index l.others)) ≡ list_any (names l.column) (on_trees l.others)
