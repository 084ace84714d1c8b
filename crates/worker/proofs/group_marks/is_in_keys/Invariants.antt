-- Loop invariants of `is_in_keys` (`group_marks`).
use Rattle.std.proofs.Common.{◌≡◌, drop}
use Rattle.std.specs.List.{list_any}
use Rattle.worker.specs.Packed.{names}
use Rattle.worker.proofs.group_marks.is_in_keys.Given as goal

abbrev pub invariant-loop-key : goal.invariant-loop-key
invariant-loop-key l = list_any (λ k. names l.column k.expr) (drop l.key-index l.keys) ≡ list_any (λ k. names l.column k.expr) l.keys
