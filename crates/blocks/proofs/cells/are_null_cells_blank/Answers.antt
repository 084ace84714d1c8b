-- Proofs of the goals of `are_null_cells_blank` (`cells`).
use Rattle.std.proofs.Common.{◌*◌, sym, ◌∙◌, arith}
use Rattle.blocks.proofs.MaskWords.{behind_rows}
use Rattle.blocks.proofs.cells.are_null_cells_blank.Goals as goal

pub returns : goal.returns
returns c =
    sym (behind_rows c.args.kind c.args.col_type c.args.rows c.args.mask.now c.args.body.now c.requires.form (64 * c.loop-k.k) (omega arith)) ∙ c.loop-k.invariant
