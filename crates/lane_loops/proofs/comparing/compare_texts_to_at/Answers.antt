-- Proofs of the goals of `compare_texts_to_at` (`comparing`).
use Rattle.std.proofs.Common.{arith, length}
use Rattle.lane_loops.specs.Lanes.{compared_text_to_bit}
use Rattle.lane_loops.proofs.FillingAt.{always, filled_more_at}
use Rattle.lane_loops.proofs.comparing.compare_texts_to_at.Goals as goal

pub loop-position-preserved : goal.loop-position-preserved
loop-position-preserved c =
    filled_more_at 0 (length c.args.out.now) c.args.positions.now c.requires.within always (compared_text_to_bit c.args.op c.args.left.now c.args.right.now)
    c.loop-position.out c.loop-position.position-index c.text_bit_beside.result c.loop-position.invariant c.loop-position-test.true (λ _. c.text_bit_beside.ensures)

pub returns : goal.returns
returns c = λ k below. c.loop-position.invariant.each k (omega arith) tt
