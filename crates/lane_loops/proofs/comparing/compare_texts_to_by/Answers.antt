-- Proofs of the goals of `compare_texts_to_by` (`comparing`).
use Rattle.std.proofs.Common.{length}
use Rattle.lane_loops.specs.Lanes.{compared_text_to_bit}
use Rattle.lane_loops.proofs.Filling.{filled_more}
use Rattle.lane_loops.proofs.comparing.compare_texts_to_by.Goals as goal

pub loop-i-preserved : goal.loop-i-preserved
loop-i-preserved c =
    filled_more 0 (length c.args.out.now) (compared_text_to_bit c.args.op c.args.left.now c.args.right.now) c.loop-i.out c.loop-i.i c.text_bit_beside.result
    c.loop-i.invariant c.loop-i-test.true c.text_bit_beside.ensures
