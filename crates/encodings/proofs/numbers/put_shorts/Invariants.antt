-- Loop invariants of `put_shorts` (`numbers`).
use Rattle.std.proofs.Common.{◌≡◌, ◌++◌, take}
use Rattle.std.specs.List.{flat_map}
use Rattle.blocks.specs.Numbers.{short_bytes}
use Rattle.encodings.proofs.numbers.put_shorts.Given as goal

abbrev pub invariant-loop-n : goal.invariant-loop-n
invariant-loop-n l = l.out.items ≡ l.initial.out.items ++ flat_map short_bytes (take l.n-index l.numbers)
