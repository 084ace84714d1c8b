-- Loop invariants of `nulls_of` (`lanes`).
use Rattle.std.proofs.Common.{◌≡◌, map}
use Rattle.meaning.specs.Order.{is_null}
use Rattle.block_predicates.specs.Entries.{lanes_of, values_in}
use Rattle.block_predicates.proofs.lanes.nulls_of.Given as goal

abbrev pub invariant-loop-lane : goal.invariant-loop-lane
invariant-loop-lane l = l.nulls.items ≡ map is_null (lanes_of (values_in l.entries) l.lane)
