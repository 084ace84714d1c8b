-- Invariants of `copy_key` (`keys`).
use Rattle.std.proofs.Common.{◌≡◌, take}
use Rattle.group_keys.proofs.keys.copy_key.Given as goal

abbrev pub invariant-loop-value : goal.invariant-loop-value
invariant-loop-value l = l.copy.items ≡ take l.value-index l.key
