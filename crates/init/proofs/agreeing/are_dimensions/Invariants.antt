-- Loop invariants of `are_dimensions` (`agreeing`).
use Rattle.std.proofs.Common.{◌≡◌, map, take}
use Rattle.init.proofs.agreeing.are_dimensions.Given as goal

abbrev pub invariant-loop-index : goal.invariant-loop-index
invariant-loop-index l = take l.index l.fn.own ≡ take l.index (map (λ keyed. keyed.dimension) l.fn.others)
