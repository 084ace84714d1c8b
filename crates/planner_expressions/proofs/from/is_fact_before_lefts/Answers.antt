-- Proofs of the goals of `is_fact_before_lefts` (`from`).
use Rattle.std.proofs.Common.{rules}
use Rattle.planner_expressions.proofs.Lefts.{from_first}
use Rattle.planner_expressions.proofs.from.is_fact_before_lefts.Goals as goal

pub returns-then-is_fact : goal.returns-then-is_fact
returns-then-is_fact c = search (rules, from_first c.args.catalog.now.fact.name c.args.source.now.first c.args.source.now.others)

pub returns-else-is_fact : goal.returns-else-is_fact
returns-else-is_fact c = search (rules, from_first c.args.catalog.now.fact.name c.args.source.now.first c.args.source.now.others)
