-- Proofs of the goals of `equality_for` (`conjuncts`).
use Rattle.std.proofs.Common.{rules}
use Rattle.planner_clauses.specs.Conjuncts.{joins_dim}
use Rattle.planner_clauses.proofs.Equalities.{one_from}
use Rattle.planner_clauses.proofs.conjuncts.equality_for.Goals as goal

pub returns-in-None : goal.returns-in-None
returns-in-None c = search (rules, one_from (joins_dim c.args.dim) c.args.equalities.now)

pub returns-then-count-eq1 : goal.returns-then-count-eq1
returns-then-count-eq1 c = search (rules, one_from (joins_dim c.args.dim) c.args.equalities.now)

pub returns-else-count-eq1 : goal.returns-else-count-eq1
returns-else-count-eq1 c = search (rules, one_from (joins_dim c.args.dim) c.args.equalities.now)
