-- Proofs of the goals of `like_texts` (`like`).
use Rattle.std.proofs.Common.{◌≡◌, true, length}
use Rattle.std.specs.Str.{is_utf8}
use Rattle.lane_loops.specs.Lanes.{like_bit, text_at}
use Rattle.lane_loops.proofs.Filling.{filled_more_where}
use Rattle.lane_loops.proofs.like.like_texts.Goals as goal

pub loop-i-preserved : goal.loop-i-preserved
loop-i-preserved c =
    filled_more_where 0 (length c.args.out.now) (λ i. is_utf8 (text_at c.args.texts.now i) ≡ true) (like_bit c.args.pattern.now c.args.texts.now)
    c.loop-i.out c.loop-i.i c.bit_at.result c.loop-i.invariant c.loop-i-test.true c.bit_at.ensures
