-- Proofs of the goals of `keep_of_all` (`selection`).
use Rattle.std.proofs.Common.{◌<◌, arith, ◌∙◌, length}
use Rattle.std.specs.List.{range_with_len}
use Rattle.std.proofs.lemmas.List.{length-set}
use Rattle.vectors.proofs.Narrowing.{keeps_more, counted_more, range_more}
use Rattle.vectors.proofs.selection.keep_of_all.Goals as goal

pub loop-position-preserved : goal.loop-position-preserved
loop-position-preserved g c =
    let i = c.loop-position.position in
    let kept = c.loop-position.invariant in
    let within : c.loop-position.count < length c.loop-position.positions = omega (arith, kept.1, kept.2, c.loop-position-test.true) in
    let more = keeps_more _ (range_with_len 0 i) c.loop-position.positions c.loop-position.count i c.from-count.result c.keep.result kept.0 within c.keep.ensures c.from-count.ensures in
    (rw (range_more i) more, counted_more c.loop-position.count i c.from-count.result c.keep.result kept.1 c.from-count.ensures, length-set c.loop-position.positions c.loop-position.count i ∙ kept.2)
