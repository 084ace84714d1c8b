-- Proofs of the goals of `look_at_eight` (`looking`).
use Rattle.std.proofs.Common.{◌<◌, pos, arith, subst, sym, w64, SFits}
use Rattle.std.specs.Simd.Lanes.{chunk}
use Rattle.std.proofs.lemmas.Simd.{Each1-from_get_or, get_or-chunk, length-chunk}
use Rattle.lane_kernels.proofs.looking.look_at_eight.Goals as goal

pub returns : goal.returns
returns c =
    let start = c.args.start in
    let ints = c.args.ints.now in
    Each1-from_get_or (SFits w64) (chunk start 8 ints) (pos 0)
    (λ j below. let near : j < 8 = omega (arith, length-chunk start 8 ints c.requires, below) in
    subst (SFits w64) (sym (get_or-chunk start 8 ints j (pos 0) near)) (c.loop-k.invariant j (omega arith)))
