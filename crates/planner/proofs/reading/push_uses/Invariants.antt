-- Loop invariants of `push_uses` (`reading`).
use Rattle.std.proofs.Common.{◌≡◌, ◌++◌, drop, map, filter}
use Rattle.planner.specs.Planned.{use_of, is_read}
use Rattle.planner.proofs.reading.push_uses.Given as goal

abbrev pub invariant-loop-column : goal.invariant-loop-column
invariant-loop-column l = l.out ++ map use_of (filter (is_read l.query l.join) (drop l.column-index l.columns)) ≡ l.initial.out ++ map use_of (filter (is_read l.query l.join) l.columns)
