-- Loop invariants of `put_lanes` (`masks`).
use Rattle.std.proofs.Common.{◌≡◌, ◌+◌, ◌++◌, take}
use Rattle.bit_packing.proofs.masks.put_lanes.Given as goal

abbrev pub invariant-loop-lane : goal.invariant-loop-lane
invariant-loop-lane l = take (l.at + l.lane) l.out ≡ take l.at l.initial.out ++ take l.lane l.lanes
