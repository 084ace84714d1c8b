-- Proofs of the goals of `update` (`state_columns`).
use Rattle.std.proofs.Common.{zip}
use Rattle.aggregate_states.specs.Values.{selected}
use Rattle.vectors.specs.Vector.{values_of}
use Rattle.group_index.specs.RowGroups.{listed}
use Rattle.group_by.proofs.Updating.{updated}
use Rattle.group_by.proofs.state_columns.update.Goals as goal

pub returns : goal.returns
returns c =
    updated c.args.height (zip (listed c.args.group_indexes.now) (selected (values_of c.args.lanes.now) c.args.selection.now.list)) c.args.column.now c.fill.new.column c.update_filled.new.column
    c.in_ok-fill.ensures.kind c.in_ok-fill.ensures.height c.in_ok-fill.ensures.states c.in_ok-update_filled.ensures
