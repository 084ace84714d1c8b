-- Loop invariants of `reduce_all` (`joining`).
use Rattle.std.proofs.Common.{◌≡◌, ◌++◌, take, drop}
use Rattle.gathering.specs.Joining.{all_deltas}
use Rattle.gathering.proofs.joining.reduce_all.Given as goal

abbrev pub invariant-loop-k : goal.invariant-loop-k
invariant-loop-k l = l.others.items ≡ take l.k (all_deltas l.own l.initial.others.items) ++ drop l.k l.initial.others.items
