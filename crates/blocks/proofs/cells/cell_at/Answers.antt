-- Proofs of the goals of `cell_at` (`cells`).
use Rattle.std.proofs.Common.{◌∙◌, rules}
use Rattle.std.specs.Int.{w64}
use Rattle.std.specs.Int.RustNames.{FitsSigned}
use Rattle.std.proofs.lemmas.Int.{to_z-of_z}
use Rattle.blocks.proofs.Nulls.{frame_cell_is}
use Rattle.blocks.proofs.cells.cell_at.Goals as goal

pub returns-in-Frame : goal.returns-in-Frame
returns-in-Frame c =
    let fits : FitsSigned w64 c.frame_cell.result = search rules in
    frame_cell_is c.args.kind c.args.col_type c.args.rows c.args.row c.args.body.now _ c.in-Frame.is c.requires.within (to_z-of_z w64 c.frame_cell.result fits ∙ c.frame_cell.ensures)
