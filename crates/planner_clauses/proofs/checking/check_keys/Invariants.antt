-- Loop invariants of `check_keys` (`checking`).
use Rattle.std.proofs.Common.{◌≡◌, drop, map}
use Rattle.planner_clauses.specs.Checked.{key_check}
use Rattle.planner_expressions.specs.Results.{each_ok}
use Rattle.planner_clauses.proofs.checking.check_keys.Given as goal

abbrev pub invariant-loop-key : goal.invariant-loop-key
invariant-loop-key l = each_ok (map (key_check l.scope) (drop l.key-index l.keys)) ≡ each_ok (map (key_check l.scope) l.keys)
