-- Proofs of the goals of `+rules` (`rules`).
use Rattle.std.proofs.Common.{rules, arith, ◌<◌}
use Rattle.sql_expressions.specs.Rules.{terms, rule_at, chain_of}
use Rattle.sql_expressions.proofs.Opened.{inner_none, inner_more}
use Rattle.sql_expressions.proofs.Chains.{stops_both, chain_begins, chain_goes_on, operand_stops, node_stops}
use Rattle.sql_expressions.proofs.expressions.+rules.Goals as goal

pub inner-returns-then-left-eq0-clause-reads : goal.inner-returns-then-left-eq0-clause-reads
inner-returns-then-left-eq0-clause-reads t c = inner_none 128 c.args.left c.args.level (terms c.args.lexemes.now) (omega arith)

pub inner-returns-else-left-eq0-clause-reads : goal.inner-returns-else-left-eq0-clause-reads
inner-returns-else-left-eq0-clause-reads t c =
    let some : 0 < c.args.left = omega arith in
    rw (inner_more 128 c.args.left c.args.level (terms c.args.lexemes.now) some) (search rules)

pub inner-returns-else-left-eq0-clause-full : goal.inner-returns-else-left-eq0-clause-full
inner-returns-else-left-eq0-clause-full t c = λ none. let some : 0 < c.args.left = omega arith in absurd (omega (arith, none, some))

pub chain-loop-operator-init : goal.chain-loop-operator-init
chain-loop-operator-init t c = chain_begins 128 c.args.level (rule_at 128 c.args.left c.args.operand) c.args.lexemes.now c.in_ok-parsed.parsed c.in_ok-parsed.rest.now c.in_ok-parsed.ensures.reads c.in_ok-parsed.ensures.shorter

pub chain-loop-operator-preserved : goal.chain-loop-operator-preserved
chain-loop-operator-preserved t c =
    chain_goes_on 128 c.args.level (rule_at 128 c.args.left c.args.operand) c.args.lexemes.now c.loop-operator.parsed c.in-Ok.right c.in-Ok-joined.node c.loop-operator.rest.now c.in-Some.behind.now c.in-Ok.behind.now c.in-Some.operator
    c.loop-operator.invariant (search rules) (search rules) (search rules) (search rules) (search rules)

pub chain-returns-in-Err-clause-reads : goal.chain-returns-in-Err-clause-reads
chain-returns-in-Err-clause-reads t c =
    let kept = c.loop-operator.invariant in
    stops_both c.in-Err.stop (rule_at 128 c.args.left c.args.operand (terms c.in-Some.behind.now)) (chain_of 128 c.args.level (rule_at 128 c.args.left c.args.operand) (terms c.args.lexemes.now)) (search rules)
    (operand_stops kept.1 128 c.args.level (rule_at 128 c.args.left c.args.operand) c.loop-operator.parsed (terms c.loop-operator.rest.now) c.in-Some.operator (terms c.in-Some.behind.now) _ _ kept.2 (search rules) kept.3)

pub chain-returns-in-Err-joined-clause-reads : goal.chain-returns-in-Err-joined-clause-reads
chain-returns-in-Err-joined-clause-reads t c =
    let kept = c.loop-operator.invariant in
    stops_both c.in-Err-joined.stop _ (chain_of 128 c.args.level (rule_at 128 c.args.left c.args.operand) (terms c.args.lexemes.now)) c.in-Err-joined.ensures.reads
    (node_stops kept.1 128 c.args.level (rule_at 128 c.args.left c.args.operand) c.loop-operator.parsed c.in-Ok.right (terms c.loop-operator.rest.now) c.in-Some.operator (terms c.in-Some.behind.now) (terms c.in-Ok.behind.now) _ _ kept.2 (search rules) kept.3 (search rules))
