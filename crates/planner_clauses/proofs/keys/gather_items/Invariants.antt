-- Loop invariants of `gather_items` (`keys`).
use Rattle.std.proofs.Common.{◌≡◌, drop, map}
use Rattle.planner_clauses.specs.Aggregates.{aggregates_in, with_parts}
use Rattle.planner_clauses.proofs.keys.gather_items.Given as goal

abbrev pub invariant-loop-item : goal.invariant-loop-item
invariant-loop-item l = with_parts l.scope l.out (map (λ i. aggregates_in i.expr) (drop l.item-index l.items)) ≡ with_parts l.scope l.initial.out (map (λ i. aggregates_in i.expr) l.items)
