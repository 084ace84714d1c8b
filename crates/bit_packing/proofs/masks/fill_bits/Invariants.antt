-- Loop invariants of `fill_bits` (`masks`).
use Rattle.std.proofs.Common.{◌≡◌, take, map}
use Rattle.std.specs.List.{range_with_len}
use Rattle.bit_packing.specs.Bits.{bit_at}
use Rattle.bit_packing.proofs.masks.fill_bits.Given as goal

abbrev pub invariant-loop-i : goal.invariant-loop-i
invariant-loop-i l = take l.i l.out ≡ map (bit_at l.mask) (range_with_len l.from l.i)
