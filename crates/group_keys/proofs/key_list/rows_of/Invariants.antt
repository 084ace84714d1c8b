-- Invariants of `rows_of` (`key_list`).
use Rattle.std.proofs.Common.{◌≡◌, take}
use Rattle.group_keys.specs.Keys.{alone}
use Rattle.group_keys.proofs.key_list.rows_of.Given as goal

abbrev pub invariant-loop-value : goal.invariant-loop-value
invariant-loop-value l = l.rows.items ≡ alone (take l.value-index l.values)
