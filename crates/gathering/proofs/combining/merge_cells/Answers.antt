-- Proofs of the goals of `merge_cells` (`combining`).
use Rattle.std.proofs.Common.{refl}
use Rattle.gathering.specs.Merging.{groups_in}
use Rattle.gathering.proofs.LiveTotals.{next_taken, table_next}
use Rattle.gathering.proofs.combining.merge_cells.Goals as goal

pub merge_cell-requires : goal.merge_cell-requires
merge_cell-requires c =
    next_taken c.args.table c.loop-cell.table c.args.cells.now c.loop-cell.cell-index c.cell-item.result (groups_in c.cell-item.result) c.loop-cell-test.true c.requires c.loop-cell.invariant c.cell-item.is refl

pub loop-cell-preserved : goal.loop-cell-preserved
loop-cell-preserved c =
    table_next c.args.table c.loop-cell.table c.in_ok-table.table c.args.cells.now c.loop-cell.cell-index c.cell-item.result c.loop-cell-test.true c.loop-cell.invariant c.cell-item.is c.in_ok-table.ensures
