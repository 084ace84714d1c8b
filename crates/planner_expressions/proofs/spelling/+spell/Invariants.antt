-- Loop invariants and measures of `+spell` (`spelling`).
use Rattle.std.proofs.Common.{◌≡◌, ◌++◌, drop, map, ◌+◌, ◌*◌, max}
use Rattle.sql_syntax.specs.declared.tree.Expr.{size-Expr}
use Rattle.planner_expressions.specs.Spelled.{spelled, spelled_arm, list_marks, arms_marks}
use Rattle.planner_expressions.proofs.spelling.+spell.Given as goal

abbrev pub invariant-spell_entries-loop-entry : goal.invariant-spell_entries-loop-entry
invariant-spell_entries-loop-entry l =
    l.out ++ list_marks (map (spelled l.scope) (drop l.entry-index l.entries)) ≡ l.initial.out ++ list_marks (map (spelled l.scope) l.entries)

abbrev pub invariant-spell_arms-loop-arm : goal.invariant-spell_arms-loop-arm
invariant-spell_arms-loop-arm l =
    l.out ++ arms_marks (map (spelled_arm l.scope) (drop l.arm-index l.arms)) ≡ l.initial.out ++ arms_marks (map (spelled_arm l.scope) l.arms)

-- ---- measures: the depth of the deepest part, and a rank for the calls on what is as deep

abbrev pub decreases-spell : goal.decreases-spell
decreases-spell l = 4 * goal.size-spell l

abbrev pub decreases-spell_part : goal.decreases-spell_part
decreases-spell_part l = 4 * goal.size-spell_part l + 1

abbrev pub decreases-spell_two : goal.decreases-spell_two
decreases-spell_two l = 4 * max (size-Expr l.left.now) (size-Expr l.right.now) + 2

abbrev pub decreases-spell_between : goal.decreases-spell_between
decreases-spell_between l = 4 * max (size-Expr l.subject.now) (max (size-Expr l.low.now) (size-Expr l.high.now)) + 3

abbrev pub decreases-spell_next : goal.decreases-spell_next
decreases-spell_next l = 4 * goal.size-spell_next l + 1

abbrev pub decreases-spell_entries : goal.decreases-spell_entries
decreases-spell_entries l = 4 * goal.size-spell_entries l + 2

abbrev pub decreases-spell_arms : goal.decreases-spell_arms
decreases-spell_arms l = 4 * goal.size-spell_arms l + 2

abbrev pub decreases-spell_else : goal.decreases-spell_else
decreases-spell_else l = 4 * goal.size-spell_else l + 2

abbrev pub decreases-spell_in : goal.decreases-spell_in
decreases-spell_in l = 4 * max (goal.size-spell_in l) (size-Expr l.subject.now) + 3

abbrev pub decreases-spell_like : goal.decreases-spell_like
decreases-spell_like l = 4 * goal.size-spell_like l + 3

abbrev pub decreases-spell_coalesce : goal.decreases-spell_coalesce
decreases-spell_coalesce l = 4 * goal.size-spell_coalesce l + 3

abbrev pub decreases-spell_case : goal.decreases-spell_case
decreases-spell_case l = 4 * goal.size-spell_case l + 3
