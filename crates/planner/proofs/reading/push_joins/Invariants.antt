-- Loop invariants of `push_joins` (`reading`).
use Rattle.std.proofs.Common.{◌≡◌, ◌++◌, drop, map}
use Rattle.std.specs.List.{enumerate_from}
use Rattle.meaning.specs.Results.{all_ok}
use Rattle.planner_expressions.specs.Results.{map_ok}
use Rattle.planner.specs.Planned.{join_of, joins_of}
use Rattle.planner.proofs.reading.push_joins.Given as goal

abbrev pub invariant-loop-join : goal.invariant-loop-join
invariant-loop-join l = map_ok (λ js. l.out ++ js) (all_ok (map (join_of l.scope l.query l.equalities) (enumerate_from l.join (drop l.join l.scope.dims)))) ≡ map_ok (λ js. l.initial.out ++ js) (joins_of l.scope l.query l.equalities)
