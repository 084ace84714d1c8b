-- Loop invariants of `fill_lanes` (`masks`).
use Rattle.std.proofs.Common.{◌≡◌, ◌*◌, take, map}
use Rattle.std.specs.List.{range_with_len}
use Rattle.bit_packing.specs.Bits.{bit_at}
use Rattle.bit_packing.proofs.masks.fill_lanes.Given as goal

abbrev pub invariant-loop-k : goal.invariant-loop-k
invariant-loop-k l = take (8 * l.k) l.out ≡ map (bit_at l.mask) (range_with_len (8 * l.first) (8 * l.k))
