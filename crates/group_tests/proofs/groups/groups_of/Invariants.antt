-- Invariants of `groups_of` (`groups`).
use Rattle.std.specs.Prelude.{All}
use Rattle.group_tests.specs.Shapes.{IsSumGroup}
use Rattle.group_tests.proofs.groups.groups_of.Given as goal

abbrev pub invariant-loop-key : goal.invariant-loop-key
invariant-loop-key l = All IsSumGroup l.groups.items
