-- Loop invariants of `are_typed_states` (`checks`).
use Rattle.std.proofs.Common.{◌≡◌, drop}
use Rattle.std.specs.Cmp.Lexicographic.{pointwise}
use Rattle.answer_fields.specs.Keeping.{is_typed_state}
use Rattle.answer_layouts.proofs.checks.are_typed_states.Given as goal

abbrev pub invariant-loop-i : goal.invariant-loop-i
invariant-loop-i l =
    pointwise is_typed_state l.aggregates l.states ≡ pointwise is_typed_state (drop l.i l.aggregates) (drop l.i l.states)
