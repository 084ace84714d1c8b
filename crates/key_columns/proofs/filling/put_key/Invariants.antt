-- Invariants of `put_key` (`filling`).
use Rattle.key_columns.proofs.Taking.{AreDone}
use Rattle.key_columns.proofs.filling.put_key.Given as goal

-- the columns up to the k-th took their values
abbrev pub invariant-loop-k : goal.invariant-loop-k
invariant-loop-k l = AreDone l.key l.k l.fn.columns l.columns
