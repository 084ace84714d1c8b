-- Loop invariants of `add_columns` (`from`).
use Rattle.std.proofs.Common.{◌≡◌, ◌++◌, map, drop}
use Rattle.std.specs.List.{enumerate_from}
use Rattle.planner_expressions.specs.From.{scope_column_of, scope_columns}
use Rattle.planner_expressions.proofs.from.add_columns.Given as goal

abbrev pub invariant-loop-at : goal.invariant-loop-at
invariant-loop-at l =
    l.out ++ map (scope_column_of l.owner l.join l.key) (enumerate_from l.at (drop l.at l.columns))
    ≡ l.initial.out ++ scope_columns l.owner l.join l.key l.columns
