-- Proofs of the goals of `like_texts_at` (`like`).
use Rattle.std.proofs.Common.{◌≡◌, true, arith, length}
use Rattle.std.specs.Str.{is_utf8}
use Rattle.lane_loops.specs.Lanes.{like_bit, text_at}
use Rattle.lane_loops.proofs.FillingAt.{filled_more_at}
use Rattle.lane_loops.proofs.like.like_texts_at.Goals as goal

pub loop-position-preserved : goal.loop-position-preserved
loop-position-preserved c =
    filled_more_at 0 (length c.args.out.now) c.args.positions.now c.requires.within (λ i. is_utf8 (text_at c.args.texts.now i) ≡ true) (like_bit c.args.pattern.now c.args.texts.now)
    c.loop-position.out c.loop-position.position-index c.bit_at.result c.loop-position.invariant c.loop-position-test.true c.bit_at.ensures

pub returns : goal.returns
returns c = λ k below utf8. c.loop-position.invariant.each k (omega arith) utf8
