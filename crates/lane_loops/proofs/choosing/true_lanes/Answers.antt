-- Proofs of the goals of `true_lanes` (`choosing`).
use Rattle.std.proofs.Common.{length}
use Rattle.std.specs.Prelude.{false}
use Rattle.meaning.specs.Truth.{is_true}
use Rattle.lane_loops.specs.Lanes.{truth_at}
use Rattle.lane_loops.proofs.Filling.{filled_more}
use Rattle.lane_loops.proofs.choosing.true_lanes.Goals as goal

pub loop-i-preserved : goal.loop-i-preserved
loop-i-preserved c =
    filled_more false (length c.args.out.now) (λ i. is_true (truth_at c.args.truths.now i)) c.loop-i.out c.loop-i.i c.is_true_at.result
    c.loop-i.invariant c.loop-i-test.true c.is_true_at.ensures
