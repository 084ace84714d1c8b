-- Loop invariants of `put_joined_at` (`plain::encode`).
use Rattle.std.proofs.Common.{◌≡◌, ◌++◌, ◌-◌, take, drop}
use Rattle.std.specs.List.{concat}
use Rattle.blocks.specs.Plain.{texts_at}
use Rattle.encodings.proofs.plain.encode.put_joined_at.Given as goal

abbrev pub invariant-loop-row : goal.invariant-loop-row
invariant-loop-row l = l.out.items ≡ l.initial.out.items ++ concat (texts_at (take (l.to - l.from) (drop l.from l.texts)) (take l.row-index l.rows))
