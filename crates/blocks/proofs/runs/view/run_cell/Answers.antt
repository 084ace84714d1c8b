-- Proofs of the goals of `run_cell` (`runs::view`).
use Rattle.blocks.proofs.RowCells.{run_cell_is}
use Rattle.blocks.proofs.runs.view.run_cell.Goals as goal

pub returns : goal.returns
returns c =
    run_cell_is c.args.col_type c.args.row c.run_of-run.result c.leading_count-count.result c.args.body.now c.length_bytes.result.now c.run_value_bytes.result.now _ c.leading_count-count.ensures c.length_bytes.ensures c.run_value_bytes.ensures c.run_of-run.ensures.cell c.value_at.ensures
