-- Loop invariants of `put_integers_at` (`plain::encode`).
use Rattle.std.proofs.Common.{◌≡◌, ◌++◌, take}
use Rattle.std.specs.List.{flat_map}
use Rattle.blocks.specs.Numbers.{integer_bytes}
use Rattle.blocks.specs.Plain.{ints_at}
use Rattle.encodings.proofs.plain.encode.put_integers_at.Given as goal

abbrev pub invariant-loop-row : goal.invariant-loop-row
invariant-loop-row l = l.out.items ≡ l.initial.out.items ++ flat_map integer_bytes (ints_at l.ints (take l.row-index l.rows))
