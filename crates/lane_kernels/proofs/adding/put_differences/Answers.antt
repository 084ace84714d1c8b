-- Proofs of the goals of `put_differences` (`adding`).
use Rattle.std.proofs.Common.{◌-ℤ◌, ◌≡◌, ◌+◌, ◌≤◌, length, map, not, pos, arith, ap, subst, sym, ◌∙◌, Fits, w8, w64}
use Rattle.std.specs.Int.{int_wrap}
use Rattle.std.specs.Simd.Lanes.{chunk, Each1}
use Rattle.std.proofs.lemmas.Simd.{length-chunk}
use Rattle.meaning.specs.Operators.{fits_i64}
use Rattle.lane_kernels.specs.Lanes.{overflow_bit}
use Rattle.lane_kernels.proofs.Summed.{differences_are, difference_flags_are}
use Rattle.lane_kernels.proofs.Tested.{bits_fit}
use Rattle.lane_kernels.proofs.Zipped.{narrowed, narrowed_bits, zip_more}
use Rattle.lane_kernels.proofs.adding.put_differences.Goals as goal

pub overflow_cast-over : goal.overflow_cast-over
overflow_cast-over c =
    let start = c.args.start in
    let xs = chunk start 8 c.args.left.now in
    let ys = chunk start 8 c.args.right.now in
    let left_long : length xs ≡ 8 = length-chunk start 8 c.args.left.now (omega (arith, c.requires.left, c.requires.within)) in
    let right_long : length ys ≡ 8 = length-chunk start 8 c.args.right.now (omega (arith, c.requires.right, c.requires.within)) in
    subst (Each1 (Fits w8)) (sym (difference_flags_are 8 xs ys left_long right_long c.look_at_eight.ensures c.look_at_eight-2.ensures)) (bits_fit xs ys (λ a b. not (fits_i64 (a -ℤ b))))

pub returns-clause-differences : goal.returns-clause-differences
returns-clause-differences c =
    let start = c.args.start in
    let left = c.args.left.now in
    let right = c.args.right.now in
    zip_more (pos 0) left start (omega (arith, c.requires.left, c.requires.within)) (λ a b. int_wrap w64 (a -ℤ b)) right (omega (arith, c.requires.right, c.requires.within))
    (length c.args.out.now) c.args.out.now _ c.requires.differences c.requires.within (differences_are (chunk start 8 left) (chunk start 8 right) c.look_at_eight.ensures c.look_at_eight-2.ensures)

pub returns-clause-flags : goal.returns-clause-flags
returns-clause-flags c =
    let start = c.args.start in
    let left = c.args.left.now in
    let right = c.args.right.now in
    let xs = chunk start 8 left in
    let ys = chunk start 8 right in
    let left_room : start + 8 ≤ length left = omega (arith, c.requires.left, c.requires.within) in
    let right_room : start + 8 ≤ length right = omega (arith, c.requires.right, c.requires.within) in
    zip_more 0 left start left_room (λ a b. overflow_bit (a -ℤ b)) right right_room (length c.args.out.now) c.args.over.now _ c.requires.flags c.requires.within
    (ap (map narrowed) (difference_flags_are 8 xs ys (length-chunk start 8 left left_room) (length-chunk start 8 right right_room) c.look_at_eight.ensures c.look_at_eight-2.ensures)
    ∙ narrowed_bits (λ a b. not (fits_i64 (a -ℤ b))) xs ys)
