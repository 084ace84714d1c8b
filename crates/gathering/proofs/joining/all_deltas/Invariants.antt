-- Loop invariants of `all_deltas` (`joining`).
use Rattle.std.proofs.Common.{◌≡◌, take}
use Rattle.gathering.specs.Joining.{all_deltas}
use Rattle.gathering.proofs.joining.all_deltas.Given as goal

abbrev pub invariant-loop-k : goal.invariant-loop-k
invariant-loop-k l = l.delta.items ≡ take l.k (all_deltas l.own l.others)
