-- Proofs of the goals of `compare_eight` (`comparing`).
use Rattle.std.proofs.Common.{length, map, arith, ap, subst, sym, ◌∙◌, Fits, w8}
use Rattle.std.specs.Int.{from_bool}
use Rattle.std.specs.Ordering.{int_cmp}
use Rattle.std.specs.Simd.Lanes.{chunk, Each1}
use Rattle.meaning.specs.Operators.{test}
use Rattle.lane_kernels.proofs.Tested.{bits_fit}
use Rattle.lane_kernels.proofs.Zipped.{narrowed, narrowed_bits, zip_more}
use Rattle.lane_kernels.proofs.comparing.compare_eight.Goals as goal

pub overflow_cast-out : goal.overflow_cast-out
overflow_cast-out c =
    subst (Each1 (Fits w8)) (sym c.bits_of_eight-bits.ensures)
    (bits_fit (chunk c.args.start 8 c.args.left.now) (chunk c.args.start 8 c.args.right.now) (λ a b. test c.args.op (int_cmp a b)))

pub returns : goal.returns
returns c =
    let start = c.args.start in
    let left = c.args.left.now in
    let right = c.args.right.now in
    zip_more 0 left start (omega (arith, c.requires.left, c.requires.within)) (λ a b. from_bool (test c.args.op (int_cmp a b))) right (omega (arith, c.requires.right, c.requires.within))
    (length c.args.out.now) c.args.out.now _ c.requires.filled c.requires.within
    (ap (map narrowed) c.bits_of_eight-bits.ensures ∙ narrowed_bits (λ a b. test c.args.op (int_cmp a b)) (chunk start 8 left) (chunk start 8 right))
