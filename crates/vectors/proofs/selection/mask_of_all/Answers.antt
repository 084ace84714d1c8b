-- Proofs of the goals of `mask_of_all` (`selection`).
use Rattle.vectors.proofs.Positions.{full_mask_if}
use Rattle.vectors.proofs.selection.mask_of_all.Goals as goal

pub returns : goal.returns
returns c = full_mask_if (λ mask. mask.items) c.args.below c.all_marked.result c.all_marked.ensures
