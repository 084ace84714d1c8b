-- Proofs of the goals of `shortened` (`small`).
use Rattle.std.proofs.Common.{◌≡◌, ◌∙◌, ◌*ℤ◌, ℤ, pos, ap, of_z, to_z, w64}
use Rattle.std.specs.Int.{int_wrap}
use Rattle.std.specs.Int.Signed.{shr_z}
use Rattle.std.proofs.lemmas.Int.{SFits-int_wrap, to_z-of_z}
use Rattle.lane_loops.proofs.SmallResults.{shortened_is}
use Rattle.lane_loops.proofs.small.shortened.Goals as goal

pub returns : goal.returns
returns c = λ small.
    let product = int_wrap w64 (c.args.int *ℤ pos 4294967296) in
    let is : c.wrapped_product.result ≡ product = c.wrapped_product.ensures ∙ ap (λ (z : ℤ). int_wrap w64 (z *ℤ pos 4294967296)) (to_z-of_z w64 c.args.int c.ranges.int) in
    let held : to_z w64 (of_z w64 c.wrapped_product.result) ≡ product = ap (λ (z : ℤ). to_z w64 (of_z w64 z)) is ∙ to_z-of_z w64 product (SFits-int_wrap w64 (c.args.int *ℤ pos 4294967296)) in
    ap (λ (z : ℤ). to_z w64 (of_z w64 (shr_z z 4294967296))) held
    ∙ ap (λ (z : ℤ). to_z w64 (of_z w64 z)) (shortened_is c.args.int small)
    ∙ to_z-of_z w64 c.args.int c.ranges.int
