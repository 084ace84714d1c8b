-- Invariants of `hash_rows` (`hashing`).
use Rattle.std.proofs.Common.{◌≡◌, length}
use Rattle.group_keys.proofs.hashing.hash_rows.Given as goal

abbrev pub invariant-loop-k : goal.invariant-loop-k
invariant-loop-k l = length l.hashes.items ≡ length l.selection.list
