-- Loop invariants of `append_columns` (`writing_header`).
use Rattle.std.proofs.Common.{◌≡◌, ◌++◌, take}
use Rattle.std.specs.List.{flat_map}
use Rattle.fragment_file.specs.Fragment.{column_bytes}
use Rattle.fragment_file.proofs.writing_header.append_columns.Given as goal

abbrev pub invariant-loop-column : goal.invariant-loop-column
invariant-loop-column l = l.out.items ≡ l.fn.out.items ++ flat_map column_bytes (take l.column-index l.columns)
