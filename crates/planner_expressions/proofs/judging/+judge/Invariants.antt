use Rattle.std.proofs.Common.{◌≡◌, drop, map, true}
use Rattle.meaning.specs.Results.{all_ok}
use Rattle.planner_expressions.specs.Judged.{judged, judged_arm, each, each_arm}
use Rattle.planner_expressions.specs.Results.{map_ok}
use Rattle.planner_expressions.specs.Sorts.{behind, with_arms, fresh}
use Rattle.planner_expressions.proofs.judging.+judge.Given as goal

abbrev pub invariant-judge_entries-loop-entry : goal.invariant-judge_entries-loop-entry
invariant-judge_entries-loop-entry l =
    map_ok (behind l.known) (all_ok (each l.barred (map (judged l.scope) (drop l.entry-index l.entries))))
    ≡ map_ok (behind l.initial.known) (all_ok (each l.barred (map (judged l.scope) l.entries)))

abbrev pub invariant-judge_arms-loop-arm : goal.invariant-judge_arms-loop-arm
invariant-judge_arms-loop-arm l =
    map_ok (with_arms l.known) (all_ok (each_arm l.barred (map (judged_arm l.scope) (drop l.arm-index l.arms))))
    ≡ map_ok (with_arms (record { truths = true; values = fresh })) (all_ok (each_arm l.barred (map (judged_arm l.scope) l.arms)))
