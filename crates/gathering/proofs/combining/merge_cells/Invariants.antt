-- Loop invariants of `merge_cells` (`combining`).
use Rattle.std.proofs.Common.{take}
use Rattle.gathering.specs.Merging.{all_groups}
use Rattle.gathering.specs.Totals.{IsTableWith}
use Rattle.gathering.proofs.combining.merge_cells.Given as goal

abbrev pub invariant-loop-cell : goal.invariant-loop-cell
invariant-loop-cell l = IsTableWith l.initial.table (all_groups (take l.cell-index l.cells)) l.table
