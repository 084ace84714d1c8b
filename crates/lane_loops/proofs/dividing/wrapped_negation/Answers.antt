-- Proofs of the goals of `wrapped_negation` (`dividing`).
use Rattle.std.proofs.Common.{rules, ◌≡◌, ◌∙◌, w64, to_z, of_z}
use Rattle.std.specs.Int.{int_wrapping_neg}
use Rattle.std.proofs.lemmas.Int.{wrapping_neg_is}
use Rattle.lane_loops.proofs.dividing.wrapped_negation.Goals as goal

pub returns : goal.returns
returns c =
    let kept : to_z w64 (of_z w64 c.wrapping_neg.result) ≡ c.wrapping_neg.result = search rules in
    let is : c.wrapping_neg.result ≡ int_wrapping_neg w64 c.args.int = search rules in
    kept ∙ is ∙ wrapping_neg_is w64 c.args.int c.ranges.int
