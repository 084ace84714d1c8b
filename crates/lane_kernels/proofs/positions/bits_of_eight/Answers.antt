-- Proofs of the goals of `bits_of_eight` (`positions`).
use Rattle.std.proofs.Common.{◌≡◌, ◌<◌, ◌^◌, not, eqb, map, length, subst, sym, ◌∙◌, w8, arith}
use Rattle.std.specs.Simd.Lanes.{chunk, mask_l}
use Rattle.std.proofs.lemmas.List.{length-map}
use Rattle.std.proofs.lemmas.Simd.{bitmask_splat, length-chunk, mask_l-lt}
use Rattle.lane_kernels.proofs.positions.bits_of_eight.Goals as goal

pub returns-clause-bits : goal.returns-clause-bits
returns-clause-bits c = bitmask_splat w8 (λ a b. not (eqb a b)) (chunk c.args.start 8 c.args.mask.now) 8 0 (length-chunk c.args.start 8 c.args.mask.now c.requires) (omega arith)

pub returns-clause-few : goal.returns-clause-few
returns-clause-few c =
    let xs = chunk c.args.start 8 c.args.mask.now in
    let long : length xs ≡ 8 = length-chunk c.args.start 8 c.args.mask.now c.requires in
    let ms = map (λ x. not (eqb x 0)) xs in
    let below : mask_l ms < 2 ^ length ms = mask_l-lt ms in
    let all : length ms ≡ 8 = length-map xs (λ x. not (eqb x 0)) ∙ long in
    subst (λ n. n < 256) (sym (bitmask_splat w8 (λ a b. not (eqb a b)) xs 8 0 long (omega arith))) (subst (λ k. mask_l ms < 2 ^ k) all below)
