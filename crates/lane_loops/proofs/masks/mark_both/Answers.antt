-- Proofs of the goals of `mark_both` (`masks`).
use Rattle.std.proofs.Common.{length}
use Rattle.std.specs.Prelude.{false, ◌&&◌}
use Rattle.lane_loops.specs.Lanes.{null_at}
use Rattle.lane_loops.proofs.Filling.{filled_more}
use Rattle.lane_loops.proofs.masks.mark_both.Goals as goal

pub loop-i-preserved : goal.loop-i-preserved
loop-i-preserved c =
    filled_more false (length c.args.out.now) (λ i. null_at c.args.left.now i && null_at c.args.right.now i) c.loop-i.out c.loop-i.i c.in_both.result
    c.loop-i.invariant c.loop-i-test.true c.in_both.ensures
