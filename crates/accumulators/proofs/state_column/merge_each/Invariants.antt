-- Invariants of `merge_each` (`state_column`).
use Rattle.std.proofs.Common.{◌≡◌, length, drop}
use Rattle.accumulators.specs.Columns.{kind_of_cells, states_in}
use Rattle.accumulators.proofs.AtGroups.{HasRoom}
use Rattle.aggregate_states.proofs.Growing.{all_entries}
use Rattle.accumulators.proofs.GroupLoops.{StatesAddUp}
use Rattle.accumulators.proofs.state_column.merge_each.Given as goal

-- the states that are left make it whole, and there is room for their entries
abbrev pub invariant-loop-k : goal.invariant-loop-k
invariant-loop-k l = record {
  kind : kind_of_cells l.cells ≡ kind_of_cells l.fn.cells;
  height : length (states_in l.cells) ≡ length (states_in l.fn.cells);
  whole : StatesAddUp (kind_of_cells l.fn.cells) l.group_indexes l.states (states_in l.fn.cells) l.k (states_in l.cells);
  room : HasRoom (all_entries (drop l.k l.states)) (states_in l.cells);
}
