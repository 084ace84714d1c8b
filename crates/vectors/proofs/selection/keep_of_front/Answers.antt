-- Proofs of the goals of `keep_of_front` (`selection`).
use Rattle.std.proofs.Common.{◌<◌, arith, ◌∙◌, take, length, get_or}
use Rattle.std.proofs.lemmas.List.{length-set}
use Rattle.vectors.proofs.Narrowing.{keeps_more, counted_more, front_position, left_next, take_next}
use Rattle.vectors.proofs.selection.keep_of_front.Goals as goal

pub keep-requires : goal.keep-requires
keep-requires g c =
    let kept = c.loop-i.invariant in
    c.requires.askable _ (front_position c.args.positions.now c.loop-i.positions c.args.n c.loop-i.i c.requires.below c.loop-i-test.true c.requires.front kept.3)

pub loop-i-preserved : goal.loop-i-preserved
loop-i-preserved g c =
    let i = c.loop-i.i in
    let old = c.args.positions.now in
    let kept = c.loop-i.invariant in
    let within : c.loop-i.count < length c.loop-i.positions = omega (arith, kept.1, kept.2, c.loop-i-test.true, c.requires.front) in
    let position = get_or c.loop-i.positions i 0 in
    let more = keeps_more _ (take i old) c.loop-i.positions c.loop-i.count position c.from-count.result c.keep.result kept.0 within c.keep.ensures c.from-count.ensures in (
      rw (take_next old c.loop-i.positions c.args.n i c.loop-i-test.true c.requires.front kept.3) more,
      counted_more c.loop-i.count i c.from-count.result c.keep.result kept.1 c.from-count.ensures,
      length-set c.loop-i.positions c.loop-i.count position ∙ kept.2,
      left_next old c.loop-i.positions c.args.n i c.loop-i.count position kept.1 kept.3,
    )
