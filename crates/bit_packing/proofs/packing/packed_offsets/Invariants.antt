-- Loop invariants of `packed_offsets` (`packing`).
use Rattle.std.proofs.Common.{◌≡◌, ◌-◌, length, map, drop, ◌-ℤ◌, unsigned_abs}
use Rattle.bit_packing.specs.Packing.{packed}
use Rattle.bit_packing.proofs.packing.packed_offsets.Given as goal

abbrev pub invariant-loop-k : goal.invariant-loop-k
invariant-loop-k l = l.number ≡ packed l.width (map (λ n. unsigned_abs (n -ℤ l.base)) (drop (length l.ints - l.k) l.ints))
