-- Loop invariants of `+translate` (`translating`).
use Rattle.std.proofs.Common.{◌≡◌, ◌++◌, drop, map, option_map}
use Rattle.planner_expressions.specs.Given.{given_in}
use Rattle.planner_expressions.specs.Translated.{translated, translated_arm, all_some, arm_of}
use Rattle.planner_expressions.proofs.translating.+translate.Given as goal

abbrev pub invariant-push_entries-loop-entry : goal.invariant-push_entries-loop-entry
invariant-push_entries-loop-entry l =
    option_map (λ xs. l.out ++ xs) (all_some (map (translated (given_in l.scope l.basis)) (drop l.entry-index l.entries)))
    ≡ option_map (λ xs. l.initial.out ++ xs) (all_some (map (translated (given_in l.scope l.basis)) l.entries))

abbrev pub invariant-push_arms-loop-arm_here : goal.invariant-push_arms-loop-arm_here
invariant-push_arms-loop-arm_here l =
    option_map (λ xs. l.out ++ xs) (all_some (map arm_of (map (translated_arm (given_in l.scope l.basis)) (drop l.arm_here-index l.arms))))
    ≡ option_map (λ xs. l.initial.out ++ xs) (all_some (map arm_of (map (translated_arm (given_in l.scope l.basis)) l.arms)))
