-- Proofs of the goals of `frame_size` (`frame::encode`).
use Rattle.std.proofs.Common.{◌≡◌, rules, ◌∙◌, ◌-ℤ◌, unsigned_abs, w64, to_z, of_z, FitsSigned}
use Rattle.std.proofs.lemmas.Int.{to_z-of_z}
use Rattle.bit_packing.specs.Widths.{IsWidth}
use Rattle.blocks.specs.Frame.{least_in, greatest_in}
use Rattle.encodings.proofs.EncodedFrames.{frame_size, same_width}
use Rattle.encodings.proofs.frame.encode.frame_size.Goals as goal

pub returns : goal.returns
returns c =
    let ns = c.args.ints.now in
    let f : FitsSigned w64 c.bounds_of-bounds.result.least = search rules in
    let g : FitsSigned w64 c.bounds_of-bounds.result.greatest = search rules in
    let e : to_z w64 (of_z w64 c.bounds_of-bounds.result.least) ≡ least_in ns = to_z-of_z w64 _ f ∙ c.bounds_of-bounds.ensures.least in
    let t : to_z w64 (of_z w64 c.bounds_of-bounds.result.greatest) ≡ greatest_in ns = to_z-of_z w64 _ g ∙ c.bounds_of-bounds.ensures.greatest in
    let w : IsWidth (unsigned_abs (greatest_in ns -ℤ least_in ns)) c.width_of-width.result = same_width _ _ _ _ _ _ c.abs_diff.ensures t e c.width_of-width.ensures in
    frame_size ns c.width_of-width.result c.requires.some w
