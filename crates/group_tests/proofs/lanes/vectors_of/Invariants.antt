-- Invariants of `vectors_of` (`lanes`).
use Rattle.group_keys.specs.Rows.{AreLanesOf}
use Rattle.group_tests.proofs.lanes.vectors_of.Given as goal

abbrev pub invariant-loop-list : goal.invariant-loop-list
invariant-loop-list l = AreLanesOf l.lanes l.vectors.items
