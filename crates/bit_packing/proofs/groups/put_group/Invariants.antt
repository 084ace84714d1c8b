-- Loop invariants of `put_group` (`groups`).
use Rattle.std.proofs.Common.{◌≡◌, ◌+◌, ◌++◌, take}
use Rattle.bit_packing.proofs.groups.put_group.Given as goal

abbrev pub invariant-loop-lane : goal.invariant-loop-lane
invariant-loop-lane l = take (l.at + l.lane) l.out ≡ take l.at l.initial.out ++ take l.lane l.group
