-- Invariants of `merge_all` (`state_columns`).
use Rattle.group_by.proofs.Merging.{AreDone}
use Rattle.group_by.proofs.state_columns.merge_all.Given as goal

-- the columns up to the k-th took their states
abbrev pub invariant-loop-k : goal.invariant-loop-k
invariant-loop-k l = AreDone l.height l.group_index l.states l.k l.fn.columns l.columns
