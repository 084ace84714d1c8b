-- Loop invariants of `push_items` (`showing`).
use Rattle.std.proofs.Common.{◌≡◌, ◌++◌, drop, map}
use Rattle.std.specs.List.{enumerate_from}
use Rattle.meaning.specs.Results.{all_ok}
use Rattle.planner_expressions.specs.Results.{map_ok}
use Rattle.planner_clauses.specs.Shown.{item_of, items_of}
use Rattle.planner_clauses.proofs.showing.push_items.Given as goal

abbrev pub invariant-loop-index : goal.invariant-loop-index
invariant-loop-index l = map_ok (λ is. l.out ++ is) (all_ok (map (item_of l.scope l.basis) (enumerate_from l.index (drop l.index l.items)))) ≡ map_ok (λ is. l.initial.out ++ is) (items_of l.scope l.basis l.items)
