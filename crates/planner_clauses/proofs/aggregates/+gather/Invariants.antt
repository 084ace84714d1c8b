-- Loop invariants and measures of `+gather` (`aggregates`).
use Rattle.std.proofs.Common.{◌≡◌, drop, map, ◌+◌, ◌*◌, max}
use Rattle.sql_syntax.specs.declared.tree.Expr.{size-Expr}
use Rattle.planner_clauses.specs.Aggregates.{aggregates_in, arm_aggregates, arm_parts, with_parts}
use Rattle.planner_clauses.proofs.aggregates.+gather.Given as goal

abbrev pub invariant-gather_entries-loop-entry : goal.invariant-gather_entries-loop-entry
invariant-gather_entries-loop-entry l =
    with_parts l.scope l.out (map aggregates_in (drop l.entry-index l.entries)) ≡ with_parts l.scope l.initial.out (map aggregates_in l.entries)

abbrev pub invariant-gather_arms-loop-arm : goal.invariant-gather_arms-loop-arm
invariant-gather_arms-loop-arm l =
    with_parts l.scope l.out (arm_parts (map arm_aggregates (drop l.arm-index l.arms)))
    ≡ with_parts l.scope l.initial.out (arm_parts (map arm_aggregates l.arms))

-- ---- measures: the depth of the deepest part, and a rank for the calls on what is as deep

abbrev pub decreases-gather : goal.decreases-gather
decreases-gather l = 4 * goal.size-gather l

abbrev pub decreases-gather_two : goal.decreases-gather_two
decreases-gather_two l = 4 * max (size-Expr l.left.now) (size-Expr l.right.now) + 1

abbrev pub decreases-gather_three : goal.decreases-gather_three
decreases-gather_three l = 4 * max (size-Expr l.first.now) (max (size-Expr l.second.now) (size-Expr l.third.now)) + 2

abbrev pub decreases-gather_entries : goal.decreases-gather_entries
decreases-gather_entries l = 4 * goal.size-gather_entries l + 1

abbrev pub decreases-gather_arms : goal.decreases-gather_arms
decreases-gather_arms l = 4 * goal.size-gather_arms l + 1

abbrev pub decreases-gather_else : goal.decreases-gather_else
decreases-gather_else l = 4 * goal.size-gather_else l + 1

abbrev pub decreases-gather_in : goal.decreases-gather_in
decreases-gather_in l = 4 * max (goal.size-gather_in l) (size-Expr l.subject.now) + 2
