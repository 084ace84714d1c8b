-- Invariants of `alike` (`lanes`).
use Rattle.std.proofs.Common.{length}
use Rattle.group_keys.specs.Rows.{AreLanesOf}
use Rattle.group_tests.proofs.lanes.alike.Given as goal

abbrev pub invariant-loop : goal.invariant-loop
invariant-loop l = AreLanesOf (length l.list) l.vectors.items
