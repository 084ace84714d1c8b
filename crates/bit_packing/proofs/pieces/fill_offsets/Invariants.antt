-- Loop invariants of `fill_offsets` (`pieces`).
use Rattle.std.proofs.Common.{◌≡◌, ◌*◌, ◌-◌, length, min, take, map}
use Rattle.std.specs.List.{range_with_len}
use Rattle.bit_packing.specs.Offsets.{offset_at}
use Rattle.bit_packing.proofs.pieces.fill_offsets.Given as goal

abbrev pub invariant-loop-k : goal.invariant-loop-k
invariant-loop-k l =
    (take (min (256 * l.k - l.from) (length l.fn.out)) l.out ≡ map (offset_at l.width l.bytes) (range_with_len l.from (min (256 * l.k - l.from) (length l.fn.out))))
    × (length l.out ≡ length l.fn.out)
