-- Loop invariants of `packed_marks` (`packing`).
use Rattle.std.proofs.Common.{◌≡◌, ◌-◌, length, map, drop}
use Rattle.bit_packing.specs.Packing.{packed, bit_of}
use Rattle.bit_packing.proofs.packing.packed_marks.Given as goal

abbrev pub invariant-loop-k : goal.invariant-loop-k
invariant-loop-k l = l.number ≡ packed 1 (map bit_of (drop (length l.nulls - l.k) l.nulls))
