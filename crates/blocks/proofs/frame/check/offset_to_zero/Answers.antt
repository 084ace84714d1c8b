-- Proofs of the goals of `offset_to_zero` (`frame::check`).
use Rattle.std.proofs.Common.{ap, ◌∙◌, of_z, w64}
use Rattle.std.proofs.lemmas.Int.{to_z-of_z}
use Rattle.blocks.proofs.FrameNulls.{leads_to_zero}
use Rattle.blocks.proofs.frame.check.offset_to_zero.Goals as goal

pub returns : goal.returns
returns c =
    λ offset fit. leads_to_zero c.args.base offset c.cast_unsigned.result c.wrapping_neg.result c.ranges.base (c.cast_unsigned.ensures ∙ ap (of_z w64) (to_z-of_z w64 c.args.base c.ranges.base)) c.wrapping_neg.type_inv c.wrapping_neg.ensures fit
