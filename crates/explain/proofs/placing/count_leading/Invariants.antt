-- Loop invariants of `count_leading` (`placing`).
use Rattle.std.proofs.Common.{All, take}
use Rattle.explain.specs.Places.{IsAhead}
use Rattle.explain.proofs.placing.count_leading.Given as goal

abbrev pub invariant-loop-at : goal.invariant-loop-at
invariant-loop-at l = All (IsAhead l.joins) (take l.at l.conditions)
