-- Loop invariants of `fill_coded_integers` (`dictionary::read`).
use Rattle.std.proofs.Common.{◌≡◌, take, drop, map, get_or, pos}
use Rattle.blocks.specs.Dictionary.{codes_in}
use Rattle.bit_packing.specs.Bytes.{integer_of}
use Rattle.blocks.proofs.dictionary.read.fill_coded_integers.Given as goal

abbrev pub invariant-loop-i : goal.invariant-loop-i
invariant-loop-i l = take l.i l.out ≡ take l.i (drop l.from (map (λ code. get_or (map integer_of l.entries) code (pos 0)) (codes_in l.codes)))
