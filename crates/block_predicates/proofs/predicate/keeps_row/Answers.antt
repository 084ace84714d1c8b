-- Proofs of the goals of `keeps_row` (`predicate`).
use Rattle.std.proofs.Common.{false, get_or, refl}
use Rattle.blocks.specs.Block.{nulls_of}
use Rattle.block_predicates.proofs.RowMarks.{row_kept}
use Rattle.block_predicates.proofs.predicate.keeps_row.Goals as goal

pub returns : goal.returns
returns c =
    let b = c.args.block.now in
    row_kept b c.args.marks.now c.args.row (get_or (nulls_of b) c.args.row false) c.keeps.result c.requires.within c.requires.kind refl c.keeps.ensures
