-- Proofs of the goals of `keep_marked` (`keeping`).
use Rattle.std.proofs.Common.{◌∙◌}
use Rattle.block_predicates.proofs.MarkedPositions.{keeps_all, keeps_none}
use Rattle.block_predicates.proofs.keeping.keep_marked.Goals as goal

pub returns-then-are_all_set : goal.returns-then-are_all_set
returns-then-are_all_set c = keeps_all c.args.mask.now c.args.selection.now c.are_all_set.result c.requires c.len-positions.ensures.sound c.are_all_set.ensures c.if-are_all_set.true

pub returns-then-not-is_any_set : goal.returns-then-not-is_any_set
returns-then-not-is_any_set c = c.keep_none.ensures ∙ keeps_none c.args.mask.now c.args.selection.now c.is_any_set.result c.is_any_set.ensures c.if-not-is_any_set.true
