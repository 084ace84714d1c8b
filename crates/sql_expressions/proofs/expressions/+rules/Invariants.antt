-- Measures and loop invariants of `+rules` (`rules`).
use Rattle.std.proofs.Common.{◌≡◌, ℕ, ◌+◌, ◌*◌, ◌-◌, ◌<◌, length}
use Rattle.sql_syntax.specs.Strength.{rank}
use Rattle.sql_expressions.specs.Rules.{terms, inner_at, rule_at, more_entries, list_at, more_arms, arms_at}
use Rattle.sql_expressions.proofs.Chains.{Left}
use Rattle.sql_expressions.proofs.expressions.+rules.Given as goal

-- How many may still be opened, and then how strong the rule is: a rule calls stronger ones.

abbrev pub decreases-inner : goal.decreases-inner
decreases-inner l = l.left * 100

abbrev pub decreases-rule : goal.decreases-rule
decreases-rule l = l.left * 100 + (60 - 6 * rank l.level)

abbrev pub decreases-chain : goal.decreases-chain
decreases-chain l = l.left * 100 + (59 - 6 * rank l.level)

abbrev pub decreases-negation : goal.decreases-negation
decreases-negation l = l.left * 100 + 47

abbrev pub decreases-predicate : goal.decreases-predicate
decreases-predicate l = l.left * 100 + 41

abbrev pub decreases-test : goal.decreases-test
decreases-test l = l.left * 100 + 40

abbrev pub decreases-named_test : goal.decreases-named_test
decreases-named_test l = l.left * 100 + 39

abbrev pub decreases-bounds : goal.decreases-bounds
decreases-bounds l = l.left * 100 + 38

abbrev pub decreases-high_bound : goal.decreases-high_bound
decreases-high_bound l = l.left * 100 + 37

abbrev pub decreases-factor : goal.decreases-factor
decreases-factor l = l.left * 100 + 23

abbrev pub decreases-behind_minus : goal.decreases-behind_minus
decreases-behind_minus l = l.left * 100 + 17

abbrev pub decreases-primary : goal.decreases-primary
decreases-primary l = l.left * 100 + 17

abbrev pub decreases-closed : goal.decreases-closed
decreases-closed l = l.left * 100 + 1

abbrev pub decreases-aggregate_behind : goal.decreases-aggregate_behind
decreases-aggregate_behind l = l.left * 100 + 3

abbrev pub decreases-argument : goal.decreases-argument
decreases-argument l = l.left * 100 + 2

abbrev pub decreases-bracketed_list : goal.decreases-bracketed_list
decreases-bracketed_list l = l.left * 100 + 4

abbrev pub decreases-closed_entries : goal.decreases-closed_entries
decreases-closed_entries l = l.left * 100 + 3

abbrev pub decreases-push_entries : goal.decreases-push_entries
decreases-push_entries l = l.left * 100 + 2

abbrev pub decreases-push_entry : goal.decreases-push_entry
decreases-push_entry l = l.left * 100 + 1

abbrev pub decreases-case_behind : goal.decreases-case_behind
decreases-case_behind l = l.left * 100 + 5

abbrev pub decreases-push_arms : goal.decreases-push_arms
decreases-push_arms l = l.left * 100 + 4

abbrev pub decreases-push_arm : goal.decreases-push_arm
decreases-push_arm l = l.left * 100 + 3

abbrev pub decreases-arm : goal.decreases-arm
decreases-arm l = l.left * 100 + 2

abbrev pub decreases-then_value : goal.decreases-then_value
decreases-then_value l = l.left * 100 + 1

abbrev pub decreases-otherwise : goal.decreases-otherwise
decreases-otherwise l = l.left * 100 + 2

abbrev pub decreases-ended : goal.decreases-ended
decreases-ended l = l.left * 100 + 1

-- what is read behind the operands so far is what is read of all
abbrev pub invariant-chain-loop-operator : goal.invariant-chain-loop-operator
invariant-chain-loop-operator l = Left 128 l.level (rule_at 128 l.left l.operand) l.fn.lexemes l.parsed l.rest

abbrev pub decreases-chain-loop-operator : goal.decreases-chain-loop-operator
decreases-chain-loop-operator l = length l.rest

-- what is read behind the expressions so far is what is read of all
abbrev pub invariant-push_entries-loop-behind : goal.invariant-push_entries-loop-behind
invariant-push_entries-loop-behind l =
    (length l.rest < length l.fn.lexemes) × (m : ℕ) × (length l.rest < m)
    × (more_entries m (inner_at 128 l.left) (record { exprs = l.entries; deepest = l.deepest }) (terms l.rest) ≡ list_at (inner_at 128 l.left) (record { exprs = l.fn.entries; deepest = 0 }) (terms l.fn.lexemes))

abbrev pub decreases-push_entries-loop-behind : goal.decreases-push_entries-loop-behind
decreases-push_entries-loop-behind l = length l.rest

-- what is read behind the arms so far is what is read of all
abbrev pub invariant-push_arms-loop-behind : goal.invariant-push_arms-loop-behind
invariant-push_arms-loop-behind l =
    (length l.rest < length l.fn.lexemes) × (m : ℕ) × (length l.rest < m)
    × (more_arms m (inner_at 128 l.left) (record { arms = l.arms; deepest = l.deepest }) (terms l.rest) ≡ arms_at (inner_at 128 l.left) (record { arms = l.fn.arms; deepest = 0 }) (terms l.fn.lexemes))

abbrev pub decreases-push_arms-loop-behind : goal.decreases-push_arms-loop-behind
decreases-push_arms-loop-behind l = length l.rest
