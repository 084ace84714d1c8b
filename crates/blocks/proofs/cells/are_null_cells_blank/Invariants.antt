-- Loop invariants of `are_null_cells_blank` (`cells`).
use Rattle.std.proofs.Common.{◌≡◌, ◌*◌}
use Rattle.blocks.specs.Block.{body_cells}
use Rattle.blocks.specs.Block.{are_blank_from}
use Rattle.blocks.proofs.cells.are_null_cells_blank.Given as goal

abbrev pub invariant-loop-k : goal.invariant-loop-k
invariant-loop-k l =
    let cells = body_cells l.kind l.col_type l.rows l.body in
    are_blank_from (64 * l.k) l.rows l.mask cells ≡ are_blank_from 0 l.rows l.mask cells
