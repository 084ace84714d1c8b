-- Loop invariants of `push_order` (`showing`).
use Rattle.std.proofs.Common.{◌≡◌, ◌++◌, drop, map}
use Rattle.meaning.specs.Results.{all_ok}
use Rattle.planner_expressions.specs.Results.{map_ok}
use Rattle.planner_clauses.specs.Shown.{order_key, order_of}
use Rattle.planner_clauses.proofs.showing.push_order.Given as goal

abbrev pub invariant-loop-key : goal.invariant-loop-key
invariant-loop-key l = map_ok (λ ks. l.out ++ ks) (all_ok (map (order_key l.items) (drop l.key-index l.keys))) ≡ map_ok (λ ks. l.initial.out ++ ks) (order_of l.items l.keys)
