-- Loop invariants of `add_ons` (`conjuncts`).
use Rattle.std.proofs.Common.{◌≡◌, drop}
use Rattle.planner_clauses.specs.Conjuncts.{with_ons}
use Rattle.planner_clauses.proofs.conjuncts.add_ons.Given as goal

abbrev pub invariant-loop-joined : goal.invariant-loop-joined
invariant-loop-joined l = with_ons l.scope l.out (drop l.joined-index l.others) ≡ with_ons l.scope l.initial.out l.others
