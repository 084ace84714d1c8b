-- Loop invariants of `put_groups` (`packing`).
use Rattle.std.proofs.Common.{◌<◌, ◌*◌, take, map, ◌-ℤ◌, unsigned_abs}
use Rattle.bit_packing.specs.Packing.{Packs, packed}
use Rattle.bit_packing.proofs.packing.put_groups.Given as goal

abbrev pub invariant-loop-k : goal.invariant-loop-k
invariant-loop-k g l = record {
  few : l.bits.count < 64;
  packs : Packs l.initial.out.items l.out.items l.bits.held l.bits.count (l.width * (g.row.N * l.k)) (packed l.width (map (λ n. unsigned_abs (n -ℤ l.base)) (take (g.row.N * l.k) l.ints)));
}
