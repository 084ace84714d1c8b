-- Loop invariants of `put_integers` (`plain::encode`).
use Rattle.std.proofs.Common.{◌≡◌, ◌++◌, take}
use Rattle.std.specs.List.{flat_map}
use Rattle.blocks.specs.Numbers.{integer_bytes}
use Rattle.encodings.proofs.plain.encode.put_integers.Given as goal

abbrev pub invariant-loop-n : goal.invariant-loop-n
invariant-loop-n l = l.out.items ≡ l.initial.out.items ++ flat_map integer_bytes (take l.n-index l.ints)
