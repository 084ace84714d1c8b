-- Invariants of `update_each` (`state_column`).
use Rattle.std.proofs.Common.{◌≡◌, length, drop}
use Rattle.accumulators.specs.Columns.{kind_of_cells, states_in}
use Rattle.aggregate_states.specs.Values.{selected}
use Rattle.vectors.specs.Vector.{values_of}
use Rattle.accumulators.proofs.AtGroups.{HasRoom}
use Rattle.accumulators.proofs.GroupLoops.{EntriesAddUp}
use Rattle.accumulators.proofs.state_column.update_each.Given as goal

-- the values that are left make it whole, and there is room for them
abbrev pub invariant-loop-k : goal.invariant-loop-k
invariant-loop-k l = record {
  kind : kind_of_cells l.cells ≡ kind_of_cells l.fn.cells;
  height : length (states_in l.cells) ≡ length (states_in l.fn.cells);
  whole : EntriesAddUp (kind_of_cells l.fn.cells) l.group_indexes (selected (values_of l.lanes) l.selection.list) (states_in l.fn.cells) l.k (states_in l.cells);
  room : HasRoom (length (drop l.k l.selection.list)) (states_in l.cells);
}
