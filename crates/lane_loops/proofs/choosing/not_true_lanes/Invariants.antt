-- Loop invariants of `not_true_lanes` (`choosing`).
use Rattle.std.proofs.Common.{length}
use Rattle.std.specs.Prelude.{false}
use Rattle.lane_loops.specs.Lanes.{AreFilled, not_true_at}
use Rattle.lane_loops.proofs.choosing.not_true_lanes.Given as goal

abbrev pub invariant-loop-i : goal.invariant-loop-i
invariant-loop-i l = AreFilled false (length l.fn.out) l.i (not_true_at l.truths) l.out
