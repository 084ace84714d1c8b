-- Proofs of the goals of `not_true_lanes` (`choosing`).
use Rattle.std.proofs.Common.{length}
use Rattle.std.specs.Prelude.{false}
use Rattle.lane_loops.specs.Lanes.{not_true_at}
use Rattle.lane_loops.proofs.Filling.{filled_more}
use Rattle.lane_loops.proofs.choosing.not_true_lanes.Goals as goal

pub loop-i-preserved : goal.loop-i-preserved
loop-i-preserved c =
    filled_more false (length c.args.out.now) (not_true_at c.args.truths.now) c.loop-i.out c.loop-i.i c.is_not_true_at.result
    c.loop-i.invariant c.loop-i-test.true c.is_not_true_at.ensures
