-- Loop invariants of `fill_lanes` (`raising`).
use Rattle.std.proofs.Common.{◌≡◌, take}
use Rattle.bit_packing.specs.Offsets.{raised_offsets}
use Rattle.bit_packing.proofs.raising.fill_lanes.Given as goal

abbrev pub invariant-loop-i : goal.invariant-loop-i
invariant-loop-i l = take l.i l.out ≡ raised_offsets l.base l.width l.packed l.from l.i
