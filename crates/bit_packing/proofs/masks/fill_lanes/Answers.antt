-- Proofs of the goals of `fill_lanes` (`masks`).
use Rattle.std.proofs.Common.{◌≡◌, ℕ, ◌+◌, ◌*◌, ◌++◌, take, map, ap, ◌∙◌, arith}
use Rattle.std.specs.List.{range_with_len}
use Rattle.bit_packing.specs.Bits.{bit_at}
use Rattle.bit_packing.proofs.MaskBytes.{bits_more}
use Rattle.bit_packing.proofs.masks.fill_lanes.Goals as goal

pub loop-k-preserved : goal.loop-k-preserved
loop-k-preserved c =
    let k : ℕ = c.loop-k.k in
    let mask = c.args.mask.now in
    ap (λ (n : ℕ). take n c.put_lanes.new.out) (let e : 8 * (k + 1) ≡ 8 * k + 8 = omega arith in e)
    ∙ c.put_lanes.ensures
    ∙ ap (λ ys. ys ++ c.lanes_of.result) c.loop-k.invariant
    ∙ ap (λ ys. map (bit_at mask) (range_with_len (8 * c.args.first) (8 * k)) ++ ys) c.lanes_of.ensures
    ∙ bits_more mask c.args.first k
