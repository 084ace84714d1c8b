-- Invariants of `at_first_slots` (`index`).
use Rattle.std.proofs.Common.{◌≡◌, ◌<◌, ℕ, length}
use Rattle.group_index.specs.Keys.{IsLed}
use Rattle.group_keys.specs.Rows.{text_keys}
use Rattle.group_index.proofs.index.KeyIndex.at_first_slots.Given as goal

abbrev pub invariant-loop-k : goal.invariant-loop-k
invariant-loop-k l = record {
  long : length l.group_indexes.items ≡ length l.texts;
  led : (j : ℕ) → j < l.k → IsLed l.self.keys (text_keys l.texts) l.group_indexes.items j;
}
