-- Loop invariants of `are_states_possible` (`checks`).
use Rattle.std.proofs.Common.{◌≡◌, drop}
use Rattle.std.specs.Cmp.Lexicographic.{pointwise}
use Rattle.meaning.specs.Fitting.{is_possible}
use Rattle.answer_layouts.proofs.checks.are_states_possible.Given as goal

abbrev pub invariant-loop-i : goal.invariant-loop-i
invariant-loop-i l =
    pointwise (λ a s. is_possible a.kind l.rows s) l.aggregates l.states ≡ pointwise (λ a s. is_possible a.kind l.rows s) (drop l.i l.aggregates) (drop l.i l.states)
