-- Loop invariants of `number` (`unpacking`).
use Rattle.std.proofs.Common.{◌≡◌, ◌-◌, ◌*◌, ◌^◌, ◌<◌, length, drop}
use Rattle.bit_packing.specs.Bytes.{number_of}
use Rattle.bit_packing.proofs.unpacking.number.Given as goal

abbrev pub invariant-loop-k : goal.invariant-loop-k
invariant-loop-k l = (l.number ≡ number_of (drop (length l.bytes - l.k) l.bytes)) × (l.number < 2 ^ (8 * l.k))
