-- Proofs of the goals of `look_up`.
use Rattle.std.proofs.Common.{rules}
use Rattle.planner_expressions.specs.Scope.{is_meant}
use Rattle.planner_expressions.proofs.Found.{one_from}
use Rattle.planner_expressions.proofs.naming.look_up.Goals as goal

pub returns-in-None : goal.returns-in-None
returns-in-None c = search (rules, one_from (is_meant c.args.table.now c.args.name.now) c.args.scope.now.columns)

pub returns-then-count-eq1 : goal.returns-then-count-eq1
returns-then-count-eq1 c = search (rules, one_from (is_meant c.args.table.now c.args.name.now) c.args.scope.now.columns)

pub returns-else-count-eq1 : goal.returns-else-count-eq1
returns-else-count-eq1 c = search (rules, one_from (is_meant c.args.table.now c.args.name.now) c.args.scope.now.columns)
