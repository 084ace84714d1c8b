-- Loop invariants of `read_columns` (`copying`).
use Rattle.std.proofs.Common.{◌≡◌, length, map, take, zip}
use Rattle.std.specs.List.{range_with_len}
use Rattle.fragment_file.specs.Fragment.{column_in}
use Rattle.fragment_file.proofs.copying.read_columns.Given as goal

abbrev pub invariant-loop-index : goal.invariant-loop-index
invariant-loop-index l =
    l.columns.items ≡ map (column_in l.view.groups) (take l.index (zip (range_with_len 0 (length l.view.header.columns)) l.view.header.columns))
