-- Loop invariants of `enter_all` (`from`).
use Rattle.std.proofs.Common.{◌≡◌, drop}
use Rattle.planner_expressions.specs.From.{enter_all}
use Rattle.planner_expressions.proofs.from.enter_all.Given as goal

abbrev pub invariant-loop-joined : goal.invariant-loop-joined
invariant-loop-joined l = enter_all l.catalog l.scope (drop l.joined-index l.others) ≡ enter_all l.catalog l.initial.scope l.others
