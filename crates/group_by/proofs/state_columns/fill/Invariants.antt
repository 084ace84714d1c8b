-- Invariants of `fill` (`state_columns`).
use Rattle.std.proofs.Common.{◌≡◌, ℕ, length}
use Rattle.group_by.specs.GroupIndexes.{state_in}
use Rattle.group_by.proofs.state_columns.fill.Given as goal

abbrev pub invariant-loop : goal.invariant-loop
invariant-loop l = record {
  kind : l.column.kind ≡ l.fn.column.kind;
  height : length l.column.states ≡ l.counter;
  states : (group_index : ℕ) → state_in l.column group_index ≡ state_in l.fn.column group_index;
}
