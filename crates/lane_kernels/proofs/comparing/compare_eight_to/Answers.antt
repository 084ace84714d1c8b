-- Proofs of the goals of `compare_eight_to` (`comparing`).
use Rattle.std.proofs.Common.{length, map, arith, ap, subst, sym, ◌∙◌, Fits, w8}
use Rattle.std.specs.Int.{from_bool}
use Rattle.std.specs.Ordering.{int_cmp}
use Rattle.std.specs.Simd.Lanes.{chunk, Each1}
use Rattle.meaning.specs.Operators.{test}
use Rattle.lane_kernels.proofs.Tested.{each_bit_fits}
use Rattle.lane_kernels.proofs.Zipped.{narrowed, narrowed_each, map_more}
use Rattle.lane_kernels.proofs.comparing.compare_eight_to.Goals as goal

pub overflow_cast-out : goal.overflow_cast-out
overflow_cast-out c =
    subst (Each1 (Fits w8)) (sym c.bits_of_eight_to-bits.ensures)
    (each_bit_fits (λ a. test c.args.op (int_cmp a c.args.right.now)) (chunk c.args.start 8 c.args.left.now))

pub returns : goal.returns
returns c =
    let start = c.args.start in
    let left = c.args.left.now in
    let right = c.args.right.now in
    map_more 0 left start (omega (arith, c.requires.long, c.requires.within)) (λ a. from_bool (test c.args.op (int_cmp a right)))
    (length c.args.out.now) c.args.out.now _ c.requires.filled c.requires.within
    (ap (map narrowed) c.bits_of_eight_to-bits.ensures ∙ narrowed_each (λ a. test c.args.op (int_cmp a right)) (chunk start 8 left))
