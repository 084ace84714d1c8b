-- Invariants of `new` (`key_columns`).
use Rattle.key_columns.specs.Keys.{AreFull}
use Rattle.key_columns.proofs.key_columns.KeyColumns.new.Given as goal

abbrev pub invariant-loop-col_type : goal.invariant-loop-col_type
invariant-loop-col_type l = AreFull 0 l.columns.items
