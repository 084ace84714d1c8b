-- Loop invariants of `check_entries` (`keys`).
use Rattle.std.proofs.Common.{◌≡◌, drop, map}
use Rattle.std.specs.List.{enumerate_from}
use Rattle.planner_expressions.specs.Results.{each_ok}
use Rattle.planner_clauses.specs.Groups.{entry_check, entries_check}
use Rattle.planner_clauses.proofs.keys.check_entries.Given as goal

abbrev pub invariant-loop-position : goal.invariant-loop-position
invariant-loop-position l = each_ok (map entry_check (enumerate_from l.position (drop l.position l.entries))) ≡ entries_check l.entries
