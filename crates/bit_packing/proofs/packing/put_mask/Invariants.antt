-- Loop invariants of `put_mask` (`packing`).
use Rattle.std.proofs.Common.{◌<◌, ◌*◌, take, map}
use Rattle.bit_packing.specs.Packing.{Packs, packed, bit_of}
use Rattle.bit_packing.proofs.packing.put_mask.Given as goal

abbrev pub invariant-loop-k : goal.invariant-loop-k
invariant-loop-k l = record {
  few : l.bits.count < 64;
  packs : Packs l.initial.out.items l.out.items l.bits.held l.bits.count (1 * (16 * l.k)) (packed 1 (map bit_of (take (16 * l.k) l.nulls)));
}
