-- Proofs of the goals of `fill_each` (`groups`).
use Rattle.std.proofs.Common.{◌≡◌, ℕ, List, ◌+◌, ◌-◌, ◌*◌, ◌++◌, length, take, drop, ap, ◌∙◌, arith, ℤ, pos, ◌+ℤ◌, w64, to_z, of_z}
use Rattle.std.proofs.lemmas.Int.{to_z-of_z}
use Rattle.meaning.specs.Operators.{fits_i64}
use Rattle.bit_packing.specs.Offsets.{offset_at}
use Rattle.bit_packing.specs.Offsets.{raised_offsets}
use Rattle.bit_packing.proofs.LaneGroups.{group_inside, offset_at-part, lanes_more}
use Rattle.bit_packing.proofs.Ranges.{fits-at}
use Rattle.bit_packing.proofs.UnpackNumbers.{are_bytes}
use Rattle.bit_packing.proofs.groups.fill_each.Goals as goal

pub slice_bounds-group-end : goal.slice_bounds-group-end
slice_bounds-group-end c =
    group_inside c.args.first c.loop-k.k (length c.args.out.now) c.args.width (length c.args.packed.now) (omega arith) c.requires.within

pub raised_group-requires-clause-fits : goal.raised_group-requires-clause-fits
raised_group-requires-clause-fits c = λ i h.
    (let xs : List ℕ = c.args.packed.now in
    let g : ℕ = c.args.first + c.loop-k.k in
    let w : ℕ = c.args.width in
    let j : ℕ = 8 * c.args.first + (8 * c.loop-k.k + i) in
    let f : ℕ → ℤ = λ n. c.args.base +ℤ pos (offset_at w xs n) in
    ap (λ z. fits_i64 (z +ℤ pos (offset_at w (take (g * w + w - g * w) (drop (g * w) xs)) i))) (to_z-of_z w64 c.args.base c.ranges.base)
    ∙ ap (λ (n : ℕ). fits_i64 (c.args.base +ℤ pos n)) (offset_at-part w g i j (g * w + w - g * w) xs (are_bytes xs c.type_inv.packed) (omega arith) h (omega arith))
    ∙ fits-at f (8 * c.args.first) (length c.args.out.now) (8 * c.loop-k.k + i) c.requires.fits (omega arith))

pub loop-k-preserved : goal.loop-k-preserved
loop-k-preserved c =
    let k : ℕ = c.loop-k.k in
    let w : ℕ = c.args.width in
    let g : ℕ = c.args.first + k in
    let xs : List ℕ = c.args.packed.now in
    let base : ℤ = to_z w64 (of_z w64 c.args.base) in
    let m : ℕ = g * w + w - g * w in
    let group : List ℕ = take m (drop (g * w) xs) in
    ap (λ (n : ℕ). take n c.put_group.new.out) (let e : 8 * (k + 1) ≡ 8 * k + 8 = omega arith in e)
    ∙ c.put_group.ensures
    ∙ ap (λ ys. ys ++ c.raised_group.result) c.loop-k.invariant
    ∙ ap (λ ys. raised_offsets base w xs (8 * c.args.first) (8 * k) ++ ys) c.raised_group.ensures
    ∙ lanes_more (λ n. base +ℤ pos (offset_at w xs n)) (λ n. base +ℤ pos (offset_at w group n)) c.args.first k
    (λ j h. ap (λ (n : ℕ). base +ℤ pos n) (offset_at-part w g j (8 * g + j) m xs (are_bytes xs c.type_inv.packed) (omega arith) h (omega arith)))
