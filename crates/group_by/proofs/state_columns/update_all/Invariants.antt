-- Invariants of `update_all` (`state_columns`).
use Rattle.group_index.specs.RowGroups.{listed}
use Rattle.group_keys.specs.Rows.{rows_at}
use Rattle.group_by.proofs.Updating.{AreDone}
use Rattle.group_by.proofs.state_columns.update_all.Given as goal

-- the columns up to the k-th took their entries
abbrev pub invariant-loop-k : goal.invariant-loop-k
invariant-loop-k l = AreDone l.height (listed l.group_indexes) (rows_at l.arguments l.selection.list) l.k l.fn.columns l.columns
