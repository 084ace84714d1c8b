-- Loop invariants of `push_items` (`keys`).
use Rattle.std.proofs.Common.{◌≡◌, drop, map}
use Rattle.planner_clauses.specs.Groups.{with_keys}
use Rattle.planner_clauses.proofs.keys.push_items.Given as goal

abbrev pub invariant-loop-item : goal.invariant-loop-item
invariant-loop-item l = with_keys l.scope l.out (map (λ i. i.expr) (drop l.item-index l.items)) ≡ with_keys l.scope l.initial.out (map (λ i. i.expr) l.items)
