-- Loop invariants of `texts_of` (`lanes`).
use Rattle.std.proofs.Common.{◌≡◌, map}
use Rattle.meaning.specs.Order.{bytes}
use Rattle.block_predicates.specs.Entries.{lanes_of, values_in}
use Rattle.block_predicates.proofs.lanes.texts_of.Given as goal

abbrev pub invariant-loop-lane : goal.invariant-loop-lane
invariant-loop-lane l = map (λ t. t.now) l.texts.items ≡ map bytes (lanes_of (values_in l.entries) l.lane)
