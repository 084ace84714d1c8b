-- Proofs of the goals of `mask_to_places` (`positions`).
use Rattle.std.proofs.Common.{ℕ, ◌≡◌, ◌+◌, ◌*◌, ◌<◌, ◌==◌, ◌++◌, ◌∙◌, ap, filter, not, arith, length, get_or}
use Rattle.std.specs.List.{range_with_len}
use Rattle.std.proofs.lemmas.List.{length-set}
use Rattle.lane_kernels.proofs.Gathered.{counted_more, filter_more, positions_more}
use Rattle.lane_kernels.proofs.positions.mask_to_places.Goals as goal

pub loop-eight-preserved : goal.loop-eight-preserved
loop-eight-preserved c =
    let e = c.loop-eight.eight in
    let kept = c.loop-eight.invariant in
    let passes = λ (i : ℕ). not (get_or c.args.mask.now i 0 == 0) in
    let next : 8 * e + 8 ≡ 8 * (e + 1) = omega arith in (
      c.put_positions-count.ensures.positions
          ∙ ap (λ xs. xs ++ filter passes (range_with_len (8 * e) 8)) kept.0
          ∙ filter_more passes (8 * e) 8
          ∙ ap (λ k. filter passes (range_with_len 0 k)) next,
      omega (arith, kept.1, c.put_positions-count.ensures.few),
      c.put_positions-count.auto.positions ∙ kept.2,
    )

pub loop-i-preserved : goal.loop-i-preserved
loop-i-preserved c =
    let i = c.loop-i.i in
    let kept = c.loop-i.invariant in
    let mask = c.args.mask.now in
    let within : c.loop-i.count < length c.loop-i.positions = omega (arith, kept.1, kept.2, c.loop-i-test.true, c.requires.room) in (
      positions_more (λ j. not (get_or mask j 0 == 0)) c.loop-i.positions c.loop-i.count i c.from-count.result kept.0 within c.from-count.ensures,
      counted_more c.loop-i.count i c.from-count.result (not (get_or mask i 0 == 0)) kept.1 c.from-count.ensures,
      length-set c.loop-i.positions c.loop-i.count i ∙ kept.2,
    )
