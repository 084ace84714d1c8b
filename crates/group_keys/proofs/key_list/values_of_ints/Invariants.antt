-- Invariants of `values_of_ints` (`key_list`).
use Rattle.std.proofs.Common.{◌≡◌, take}
use Rattle.group_keys.specs.Keys.{alone}
use Rattle.group_keys.specs.Rows.{int_keys}
use Rattle.group_keys.proofs.key_list.values_of_ints.Given as goal

abbrev pub invariant-loop-int : goal.invariant-loop-int
invariant-loop-int l = alone l.values.items ≡ int_keys (take l.int-index l.ints)
