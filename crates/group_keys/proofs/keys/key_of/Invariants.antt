-- Invariants of `key_of` (`keys`).
use Rattle.std.proofs.Common.{◌≡◌, take}
use Rattle.group_keys.specs.Rows.{row_at}
use Rattle.group_keys.proofs.keys.key_of.Given as goal

abbrev pub invariant-loop-k : goal.invariant-loop-k
invariant-loop-k l = l.key.items ≡ take l.k (row_at l.lanes l.at)
