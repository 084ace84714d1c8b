-- Loop invariants of `fill_integers` (`plain::read`).
use Rattle.std.proofs.Common.{◌≡◌, take, drop, map}
use Rattle.bit_packing.specs.Bytes.{integer_of}
use Rattle.blocks.proofs.plain.read.fill_integers.Given as goal

abbrev pub invariant-loop-i : goal.invariant-loop-i
invariant-loop-i l = take l.i l.out ≡ take l.i (drop l.from (map integer_of l.cells))
