-- Invariants of `close_group_indexes` (`key_list`).
use Rattle.std.proofs.Common.{◌≡◌, ◌<◌, ℕ, length}
use Rattle.group_keys.specs.Keys.{IsReturned}
use Rattle.group_keys.proofs.key_list.KeyList.close_group_indexes.Given as goal

abbrev pub invariant-loop-k : goal.invariant-loop-k
invariant-loop-k l = record {
  long : length l.group_indexes.items ≡ length l.ints;
  returned : (j : ℕ) → j < l.k → IsReturned l.self l.ints l.group_indexes.items j;
}
