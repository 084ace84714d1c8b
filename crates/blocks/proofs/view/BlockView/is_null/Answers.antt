-- Proofs of the goals of `BlockView::is_null` (`view`).
use Rattle.std.proofs.Common.{ap, ◌∙◌, rules}
use Rattle.bit_packing.specs.Bits.{bit_at}
use Rattle.blocks.specs.Block.{mask_of}
use Rattle.blocks.proofs.Blocks.{null_is}
use Rattle.blocks.proofs.view.BlockView.is_null.Goals as goal

pub returns-clause-value : goal.returns-clause-value
returns-clause-value c =
    c.has_bit.ensures ∙ ap (λ mask. bit_at mask c.args.row) c.mask.ensures ∙ null_is c.args.self.now.nullable c.args.self.now.rows c.args.row (mask_of c.args.self.now) (search rules) c.requires
