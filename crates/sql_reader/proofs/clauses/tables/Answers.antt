-- Proofs of the goals of `tables`.
use Rattle.std.proofs.Common.{rules}
use Rattle.sql_expressions.specs.Rules.{terms}
use Rattle.sql_reader.specs.Rules.{within, put_other, tables_at}
use Rattle.sql_expressions.proofs.Chains.{stops_both}
use Rattle.sql_reader.proofs.Tables.{tables_begin, tables_go_on, tables_stop}
use Rattle.sql_reader.proofs.clauses.tables.Goals as goal

pub loop-alloc-init : goal.loop-alloc-init
loop-alloc-init c = tables_begin c.args.others.now c.args.lexemes.now c.in_ok-first.rest.now c.in_ok-first.first c.in_ok-first.ensures.reads c.in_ok-first.ensures.shorter

pub loop-alloc-preserved : goal.loop-alloc-preserved
loop-alloc-preserved c =
    tables_go_on c.args.others.now c.args.lexemes.now c.in_ok-first.first c.loop-alloc.others c.push_other.new.others c.loop-alloc.rest.now c.in-Ok.behind.now c.loop-alloc.invariant (search rules) (search rules) (search rules)

pub returns-in-Err-clause-reads : goal.returns-in-Err-clause-reads
returns-in-Err-clause-reads c =
    let kept = c.loop-alloc.invariant in
    stops_both c.in-Err.stop (put_other within c.loop-alloc.others (terms c.loop-alloc.rest.now)) (tables_at within c.args.others.now (terms c.args.lexemes.now)) (search rules)
    (tables_stop kept.1 c.in_ok-first.first c.loop-alloc.others (terms c.loop-alloc.rest.now) _ _ kept.2 (search rules) kept.3)
