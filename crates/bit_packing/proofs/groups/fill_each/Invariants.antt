-- Loop invariants of `fill_each` (`groups`).
use Rattle.std.proofs.Common.{◌≡◌, ◌*◌, take}
use Rattle.bit_packing.specs.Offsets.{raised_offsets}
use Rattle.bit_packing.proofs.groups.fill_each.Given as goal

abbrev pub invariant-loop-k : goal.invariant-loop-k
invariant-loop-k l = take (8 * l.k) l.out ≡ raised_offsets l.base l.width l.packed (8 * l.first) (8 * l.k)
