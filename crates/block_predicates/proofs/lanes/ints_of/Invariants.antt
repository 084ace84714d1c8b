-- Loop invariants of `ints_of` (`lanes`).
use Rattle.std.proofs.Common.{◌≡◌, map}
use Rattle.meaning.specs.Order.{number}
use Rattle.block_predicates.specs.Entries.{lanes_of, values_in}
use Rattle.block_predicates.proofs.lanes.ints_of.Given as goal

abbrev pub invariant-loop-lane : goal.invariant-loop-lane
invariant-loop-lane l = l.ints.items ≡ map number (lanes_of (values_in l.entries) l.lane)
