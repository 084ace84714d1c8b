-- Loop invariants of `not_false_lanes` (`choosing`).
use Rattle.std.proofs.Common.{length}
use Rattle.std.specs.Prelude.{false}
use Rattle.lane_loops.specs.Lanes.{AreFilled, not_false_at}
use Rattle.lane_loops.proofs.choosing.not_false_lanes.Given as goal

abbrev pub invariant-loop-i : goal.invariant-loop-i
invariant-loop-i l = AreFilled false (length l.fn.out) l.i (not_false_at l.truths) l.out
