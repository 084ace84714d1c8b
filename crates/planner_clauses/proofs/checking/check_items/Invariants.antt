-- Loop invariants of `check_items` (`checking`).
use Rattle.std.proofs.Common.{◌≡◌, drop, map}
use Rattle.planner_clauses.specs.Checked.{item_check}
use Rattle.planner_expressions.specs.Results.{each_ok}
use Rattle.planner_clauses.proofs.checking.check_items.Given as goal

abbrev pub invariant-loop-item : goal.invariant-loop-item
invariant-loop-item l = each_ok (map (item_check l.scope) (drop l.item-index l.items)) ≡ each_ok (map (item_check l.scope) l.items)
