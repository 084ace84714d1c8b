-- Loop invariants of `check_ons` (`checking`).
use Rattle.std.proofs.Common.{◌≡◌, drop, map, true}
use Rattle.planner_clauses.specs.Checked.{condition_check, on_trees}
use Rattle.planner_expressions.specs.Results.{each_ok}
use Rattle.planner_clauses.proofs.checking.check_ons.Given as goal

abbrev pub invariant-loop-joined : goal.invariant-loop-joined
invariant-loop-joined l = each_ok (map (condition_check l.scope true) (on_trees (drop l.joined-index l.others))) ≡ each_ok (map (condition_check l.scope true) (on_trees l.others))
