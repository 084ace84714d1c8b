-- Loop invariants of `+names` (`using`).
use Rattle.std.proofs.Common.{◌≡◌, drop, map}
use Rattle.std.specs.List.{list_any}
use Rattle.planner_expressions.specs.Uses.{names, names_arm}
use Rattle.planner_expressions.proofs.using.+names.Given as goal

abbrev pub invariant-names_any-loop-entry : goal.invariant-names_any-loop-entry
invariant-names_any-loop-entry l =
    list_any (λ x. x) (map (names l.column) (drop l.entry-index l.entries)) ≡ list_any (λ x. x) (map (names l.column) l.entries)

abbrev pub invariant-names_arms-loop-arm : goal.invariant-names_arms-loop-arm
invariant-names_arms-loop-arm l =
    list_any (λ x. x) (map (names_arm l.column) (drop l.arm-index l.arms)) ≡ list_any (λ x. x) (map (names_arm l.column) l.arms)
