-- Loop invariants of `packed_columns` (`group_marks`).
use Rattle.std.proofs.Common.{◌≡◌, map, not}
use Rattle.std.specs.List.{range_with_len}
use Rattle.worker.specs.Packed.{is_read}
use Rattle.worker.proofs.group_marks.packed_columns.Given as goal

abbrev pub invariant-loop-column : goal.invariant-loop-column
invariant-loop-column l = l.packed.items ≡ map (λ column. not (is_read column l.plan l.marks)) (range_with_len 0 l.column)
