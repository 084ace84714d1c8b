-- Loop invariants of `no_left_before_fact` (`from`).
use Rattle.std.proofs.Common.{◌≡◌, drop}
use Rattle.planner_expressions.specs.From.{no_left_before}
use Rattle.planner_expressions.proofs.from.no_left_before_fact.Given as goal

abbrev pub invariant-loop-joined : goal.invariant-loop-joined
invariant-loop-joined l = no_left_before l.catalog.fact.name (drop l.joined-index l.others) ≡ no_left_before l.catalog.fact.name l.others
