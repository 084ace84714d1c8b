-- Loop invariants of `has_zero` (`offsets`).
use Rattle.std.proofs.Common.{◌≡◌, ◌*◌, ◌-◌, length, ◌==◌}
use Rattle.bit_packing.specs.Offsets.{offset_at}
use Rattle.bit_packing.proofs.OffsetPieces.{any_in}
use Rattle.bit_packing.proofs.offsets.has_zero.Given as goal

abbrev pub invariant-loop-k : goal.invariant-loop-k
invariant-loop-k l = record {
  behind : any_in (λ offset. offset == 0) (offset_at l.width l.packed) (256 * l.k) (l.rows - 256 * l.k) ≡ any_in (λ offset. offset == 0) (offset_at l.width l.packed) 0 l.rows;
  room : length l.lanes ≡ 256;
}
