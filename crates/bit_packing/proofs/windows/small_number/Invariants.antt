-- Loop invariants of `small_number` (`windows`).
use Rattle.std.proofs.Common.{◌≡◌, ◌-◌, ◌*◌, ◌^◌, ◌<◌, length, drop}
use Rattle.bit_packing.specs.Bytes.{number_of}
use Rattle.bit_packing.proofs.windows.small_number.Given as goal

abbrev pub invariant-loop-i : goal.invariant-loop-i
invariant-loop-i l = record {
  value : l.number ≡ number_of (drop (length l.bytes - l.i) l.bytes);
  small : l.number < 2 ^ (8 * l.i);
}
